use Rattle.std.proofs.Common.{◌≡◌, ◌++◌, drop}
use Rattle.pj_parse.specs.PoolText.{entries_from}
use Rattle.pj_parse.proofs.pool.Pool.of.Given as goal

abbrev pub invariant-loop-n : goal.invariant-loop-n
invariant-loop-n l = l.entries.items ++ entries_from l.tree.text l.n (drop l.n l.tree.nodes) ≡ entries_from l.tree.text 0 l.tree.nodes
