use Rattle.pj_tree.specs.Rows.{IsLinkedFrom}
use Rattle.pj_tree.proofs.row.link.Given as goal

abbrev pub invariant-loop-i : goal.invariant-loop-i
invariant-loop-i l = IsLinkedFrom l.initial.rows.items l.initial.tokens.items l.rows.items l.tokens.items l.i
