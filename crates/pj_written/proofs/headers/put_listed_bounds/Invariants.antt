use Rattle.std.proofs.Common.{◌≡◌, ◌++◌, length}
use Rattle.pj_tree.proofs.Inside.{AreInside}
use Rattle.pj_tree.specs.Tree.{children_of}
use Rattle.pj_written.specs.Headers.{listed_bounds}
use Rattle.pj_written.proofs.headers.put_listed_bounds.Given as goal

abbrev pub invariant-loop-parameter : goal.invariant-loop-parameter
invariant-loop-parameter l =
    (l.nodes ++ listed_bounds l.tree l.parameter-iterator ≡ l.fn.nodes ++ listed_bounds l.tree (children_of l.tree l.fn.list)) × (AreInside (length l.tree.nodes) l.parameter-iterator)
