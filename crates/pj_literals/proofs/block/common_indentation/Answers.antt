use Rattle.std.proofs.Common.{◌≡◌, ◌≤◌, ◌<◌, ◌∷◌, length, Some, sym, ap, ◌∙◌, subst}
use Rattle.pj_literals.specs.TextBlock.{significant, least_of}
use Rattle.pj_literals.proofs.BlockLaws.{short_indentation, full_indentation, significant_full, significant_last, significant_blank, left_indentation, left_counts, left_skips}
use Rattle.pj_literals.proofs.block.common_indentation.Goals as goal
use Rattle.pj_literals.proofs.block.common_indentation.Goals.{then-indentation-line-via-then-indentation-line, then-indentation-line-via-else-indentation-line+then-is_empty}

pub loop-line-preserved-in-Some : goal.loop-line-preserved-in-Some
loop-line-preserved-in-Some c =
    let line = c.in-Some.line.now in
    let further = c.next_line.new.self in
    let indentation = c.indentation-indentation.ensures.value in
    let counts : significant (line ∷ further) ≡ line ∷ significant further =
    elim c.then-indentation-line.branch [
      | then-indentation-line-via-then-indentation-line w ↦ significant_full line further (short_indentation line (subst (λ n. n < length line) indentation w.if-indentation-line.true))
      | then-indentation-line-via-else-indentation-line+then-is_empty w ↦ significant_last line further (sym w.is_empty.ensures ∙ w.if-is_empty.true)
    ] in
    c.loop-line.invariant ∙ ap (left_indentation c.loop-line.least) c.in-Some.ensures.first ∙ left_counts c.loop-line.least line further counts
    ∙ ap (λ n. left_indentation (Some n) further) (sym (c.least_of.ensures ∙ ap (least_of c.loop-line.least) indentation))

pub loop-line-preserved : goal.loop-line-preserved
loop-line-preserved c =
    let line = c.in-Some.line.now in
    let further = c.next_line.new.self in
    let full = full_indentation line (subst (λ n. length line ≤ n) c.indentation-indentation.ensures.value c.if-indentation-line.false) in
    c.loop-line.invariant ∙ ap (left_indentation c.loop-line.least) c.in-Some.ensures.first
    ∙ left_skips c.loop-line.least line further (significant_blank line further full (sym c.is_empty.ensures ∙ c.if-is_empty.false))
