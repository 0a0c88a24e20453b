use Rattle.std.proofs.Common.{◌≡◌, ◌++◌, drop}
use Rattle.pj_names.specs.JavaType.{type_list}
use Rattle.pj_written.specs.Spelling.{further_bounds}
use Rattle.pj_written.proofs.spelling.put_further_bounds.Given as goal

abbrev pub invariant-loop-bound : goal.invariant-loop-bound
invariant-loop-bound l = l.text ++ further_bounds (type_list (drop l.bound-index l.bound-items)) ≡ l.fn.text ++ further_bounds (type_list l.fn.bounds)
