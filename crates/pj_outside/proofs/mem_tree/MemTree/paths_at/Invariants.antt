use Rattle.std.proofs.Common.{◌≡◌, take, map, filter}
use Rattle.pj_outside.specs.Files.{is_at_or_below}
use Rattle.pj_outside.proofs.mem_tree.MemTree.paths_at.Given as goal

abbrev pub invariant-loop-path : goal.invariant-loop-path
invariant-loop-path l = l.paths ≡ filter (is_at_or_below l.at) (map (λ f. f.0) (take l.path-index l.path-items))
