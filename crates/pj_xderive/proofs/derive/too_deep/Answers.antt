use Rattle.std.proofs.Common.{map, sym, ◌∙◌}
use Rattle.std.proofs.lemmas.Bool.{false≢true}
use Rattle.pj_xtokens.specs.Answer.{lexed_of}
use Rattle.pj_xderive.proofs.Outcomes.{of_too_deep, of_too_deep_number}
use Rattle.pj_xderive.proofs.derive.too_deep.Goals as goal
use Rattle.pj_xderive.proofs.derive.too_deep.Goals.{else-is_left_out_at-via-then-is_left_out_at+else-not-stands_apart, else-is_left_out_at-via-else-is_left_out_at}

pub returns-then-not-stands_apart : goal.returns-then-not-stands_apart
returns-then-not-stands_apart c =
    of_too_deep_number (map lexed_of c.args.tokens.now) c.args.place c.requires.deep (sym c.is_left_out_at.ensures ∙ c.if-is_left_out_at.true) (sym c.stands_apart.ensures ∙ c.if-not-stands_apart.true)

pub returns-else-is_left_out_at : goal.returns-else-is_left_out_at
returns-else-is_left_out_at c =
    of_too_deep (map lexed_of c.args.tokens.now) c.args.place c.requires.deep
    (elim c.else-is_left_out_at.branch [
      | else-is_left_out_at-via-then-is_left_out_at+else-not-stands_apart w ↦ λ is. sym w.stands_apart.ensures ∙ w.if-not-stands_apart.false
      | else-is_left_out_at-via-else-is_left_out_at w ↦ λ is. absurd (false≢true (sym (sym c.is_left_out_at.ensures ∙ w.if-is_left_out_at.false) ∙ is))
    ])
