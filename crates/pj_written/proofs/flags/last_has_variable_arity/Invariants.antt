use Rattle.std.proofs.Common.{◌≡◌, false, length}
use Rattle.pj_tree.proofs.Inside.{AreInside}
use Rattle.pj_tree.specs.Tree.{children_of}
use Rattle.pj_written.specs.Flags.{last_parameter}
use Rattle.pj_written.proofs.flags.last_has_variable_arity.Given as goal

abbrev pub invariant-loop-parameter : goal.invariant-loop-parameter
invariant-loop-parameter l =
    (last_parameter l.tree l.last l.parameter-iterator ≡ last_parameter l.tree false (children_of l.tree l.fn.list)) × (AreInside (length l.tree.nodes) l.parameter-iterator)
