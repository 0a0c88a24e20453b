use Rattle.std.proofs.Common.{◌≡◌, length}
use Rattle.std.specs.List.{list_any}
use Rattle.pj_tree.proofs.Inside.{AreInside}
use Rattle.pj_properties.specs.Flags.{is_varargs, varargs_among}
use Rattle.pj_properties.proofs.types.varargs_among.Given as goal

abbrev pub invariant-loop-parameter : goal.invariant-loop-parameter
invariant-loop-parameter l =
    (list_any (is_varargs l.tree) l.parameter-iterator ≡ varargs_among l.tree l.fn.parameters) × (AreInside (length l.tree.nodes) l.parameter-iterator)
