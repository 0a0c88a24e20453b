use Rattle.std.proofs.Common.{◌≡◌, ◌++◌, length}
use Rattle.pj_tree.proofs.Inside.{AreInside}
use Rattle.pj_written.specs.Headers.{bounds_among, bounds_of}
use Rattle.pj_written.proofs.headers.put_bounds.Given as goal

abbrev pub invariant-loop-child : goal.invariant-loop-child
invariant-loop-child l =
    (l.nodes ++ bounds_among l.tree l.child-iterator ≡ l.fn.nodes ++ bounds_of l.tree l.fn.parameter) × (AreInside (length l.tree.nodes) l.child-iterator)
