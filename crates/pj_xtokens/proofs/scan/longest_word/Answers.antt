use Rattle.std.proofs.Common.{Option, sym, ap, ◌∙◌, rules}
use Rattle.std.specs.Str.{chars}
use Rattle.pj_xtokens.specs.Scanning.{scanned, seen, found_at}
use Rattle.pj_xtokens.specs.declared.token.TokenKind.{TokenKind}
use Rattle.pj_xtokens.proofs.Scanned.{scanned_end, scanned_stop, scanned_next}
use Rattle.pj_xtokens.proofs.scan.longest_word.Goals as goal

pub loop-c-preserved-in-Some-spelled : goal.loop-c-preserved-in-Some-spelled
loop-c-preserved-in-Some-spelled c = record {
  is_text = search rules;
  same =
      c.loop-c.invariant.same ∙ scanned_next _ _ _ _ _ _ c.in-Some.ensures.chars (sym c.in-Some-step.ensures)
      ∙ ap (λ (o : Option TokenKind). scanned (chars c.in-Some.behind.now) c.in-Some-step.next (found_at o (chars c.in-Some.behind.now) (seen c.loop-c.found))) (sym c.in-Some-spelled.ensures);
}

pub loop-c-preserved : goal.loop-c-preserved
loop-c-preserved c = record {
  is_text = search rules;
  same =
      c.loop-c.invariant.same ∙ scanned_next _ _ _ _ _ _ c.in-Some.ensures.chars (sym c.in-Some-step.ensures)
      ∙ ap (λ (o : Option TokenKind). scanned (chars c.in-Some.behind.now) c.in-Some-step.next (found_at o (chars c.in-Some.behind.now) (seen c.loop-c.found))) (sym c.in_default-spelled.ensures);
}

pub returns-in_default-step : goal.returns-in_default-step
returns-in_default-step c = sym (c.loop-c.invariant.same ∙ scanned_stop _ _ _ _ _ c.in-Some.ensures.chars (sym c.in_default-step.ensures))

pub returns-in_default : goal.returns-in_default
returns-in_default c = sym (c.loop-c.invariant.same ∙ scanned_end _ _ _ c.in_default.ensures.chars)
