use Rattle.std.proofs.Common.{Option, sym, ap, ◌∙◌, rules}
use Rattle.std.specs.Str.{chars}
use Rattle.pj_lex.specs.Scanning.{scanned, seen, found_at}
use Rattle.pj_lex.specs.declared.category.Category.{Category}
use Rattle.pj_lex.proofs.Scanned.{scanned_end, scanned_stop, scanned_next}
use Rattle.pj_lex.proofs.scan.longest_word.Goals as goal

pub loop-c-preserved-in-Some-category : goal.loop-c-preserved-in-Some-category
loop-c-preserved-in-Some-category c = record {
  is_text = search rules;
  same =
      c.loop-c.invariant.same ∙ scanned_next _ _ _ _ _ _ c.in-Some.ensures.chars (sym c.in-Some-step.ensures)
      ∙ ap (λ (o : Option Category). scanned (chars c.in-Some.behind.now) c.in-Some-step.next (found_at o (chars c.in-Some.behind.now) (seen c.loop-c.found))) (sym c.in-Some-category.ensures);
}

pub loop-c-preserved : goal.loop-c-preserved
loop-c-preserved c = record {
  is_text = search rules;
  same =
      c.loop-c.invariant.same ∙ scanned_next _ _ _ _ _ _ c.in-Some.ensures.chars (sym c.in-Some-step.ensures)
      ∙ ap (λ (o : Option Category). scanned (chars c.in-Some.behind.now) c.in-Some-step.next (found_at o (chars c.in-Some.behind.now) (seen c.loop-c.found))) (sym c.in_default-category.ensures);
}

pub returns-in_default-step : goal.returns-in_default-step
returns-in_default-step c = sym (c.loop-c.invariant.same ∙ scanned_stop _ _ _ _ _ c.in-Some.ensures.chars (sym c.in_default-step.ensures))

pub returns-in_default : goal.returns-in_default
returns-in_default c = sym (c.loop-c.invariant.same ∙ scanned_end _ _ _ c.in_default.ensures.chars)
