use Rattle.std.proofs.Common.{◌≡◌, length}
use Rattle.std.specs.List.{list_any}
use Rattle.pj_tree.proofs.Inside.{AreInside}
use Rattle.pj_tree.specs.Tree.{children_of}
use Rattle.pj_written.specs.Flags.{is_ellipsis}
use Rattle.pj_written.proofs.flags.has_ellipsis.Given as goal

abbrev pub invariant-loop-brackets : goal.invariant-loop-brackets
invariant-loop-brackets l =
    (list_any (is_ellipsis l.tree) l.brackets-iterator ≡ list_any (is_ellipsis l.tree) (children_of l.tree l.fn.list)) × (AreInside (length l.tree.nodes) l.brackets-iterator)
