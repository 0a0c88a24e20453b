use Rattle.std.proofs.Common.{◌≡◌, length}
use Rattle.std.specs.List.{list_any}
use Rattle.pj_tree.proofs.Inside.{AreInside}
use Rattle.pj_properties.specs.Flags.{is_default_branch, has_default}
use Rattle.pj_properties.proofs.flags.has_default.Given as goal

abbrev pub invariant-loop-branch : goal.invariant-loop-branch
invariant-loop-branch l =
    (list_any (is_default_branch l.tree) l.branch-iterator ≡ has_default l.tree l.fn.n) × (AreInside (length l.tree.nodes) l.branch-iterator)
