use Rattle.std.proofs.Common.{◌≡◌, length}
use Rattle.std.specs.List.{list_any}
use Rattle.pj_tree.proofs.Inside.{AreInside}
use Rattle.pj_modifiers.specs.Implied.{is_constant_body, constant_body_among}
use Rattle.pj_modifiers.proofs.interface.constant_body_among.Given as goal

abbrev pub invariant-loop-constant : goal.invariant-loop-constant
invariant-loop-constant l =
    (list_any (is_constant_body l.tree) l.constant-iterator ≡ constant_body_among l.tree l.fn.body) × (AreInside (length l.tree.nodes) l.constant-iterator)
