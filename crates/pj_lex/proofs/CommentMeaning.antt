-- The states in CommentState stand for the rules that are left behind each ASCII character.
use Rattle.std.proofs.Common.{◌≡◌, refl}
use Rattle.pj_lex.specs.Rules.{rules}
use Rattle.pj_lex.specs.States.{spelled, comment_step, comment_spelled}
use Rattle.pj_lex.specs.declared.state.State.TheVariants as s
use Rattle.pj_patterns.specs.Derivatives.{spells_none}
use Rattle.pj_lex.specs.declared.comment.CommentState.{CommentState}
use Rattle.pj_lex.specs.declared.comment.CommentState.TheVariants as comment
use Rattle.pj_lex.proofs.Meaning.{meaning, left_behind, led_to, left_wide, led_wide}

pub comment_goes_on : (q : CommentState) → left_behind (meaning (s.Comment q)) ≡ led_to (s.Comment q)
unfolding rules meaning comment_step
comment_goes_on comment.LineComment = refl
comment_goes_on comment.CommentOpening = refl
comment_goes_on comment.CommentBody = refl
comment_goes_on comment.CommentStar = refl
comment_goes_on comment.CommentEnd = refl

pub comment_spells : (q : CommentState) → spells_none (meaning (s.Comment q)) ≡ spelled (s.Comment q)
unfolding rules meaning comment_spelled
comment_spells comment.LineComment = refl
comment_spells comment.CommentOpening = refl
comment_spells comment.CommentBody = refl
comment_spells comment.CommentStar = refl
comment_spells comment.CommentEnd = refl

pub comment_wide : (q : CommentState) → left_wide (meaning (s.Comment q)) ≡ led_wide (s.Comment q)
unfolding rules meaning comment_step
comment_wide comment.LineComment = refl
comment_wide comment.CommentOpening = refl
comment_wide comment.CommentBody = refl
comment_wide comment.CommentStar = refl
comment_wide comment.CommentEnd = refl
