use Rattle.std.proofs.Common.{sym, ◌∙◌}
use Rattle.pj_lex.specs.Characters.{is_white}
use Rattle.pj_lex.proofs.Lists.{past_run_stop, past_run_end}
use Rattle.pj_lex.proofs.Ends.{run_bytes}
use Rattle.pj_lex.proofs.text.skip_white.Goals as goal

pub returns-then-not-is_white : goal.returns-then-not-is_white
returns-then-not-is_white c =
    let behind = sym (c.loop-c.invariant.same ∙ past_run_stop _ _ _ _ c.in-Some.ensures.chars (sym c.is_white.ensures ∙ c.if-not-is_white.true)) in
    record { behind = behind; bytes = run_bytes is_white _ _ c.utf8.text c.loop-c.invariant.is_text behind }

pub returns-in_default : goal.returns-in_default
returns-in_default c =
    let behind = sym (c.loop-c.invariant.same ∙ past_run_end _ _ c.in_default.ensures.chars) in
    record { behind = behind; bytes = run_bytes is_white _ _ c.utf8.text c.loop-c.invariant.is_text behind }
