use Rattle.std.proofs.Common.{rules, ap, sym, ◌∙◌, false}
use Rattle.std.specs.Str.{chars}
use Rattle.pj_rule_texts.proofs.Spacing.{all_to_come, whole, whole-word}
use Rattle.pj_rule_texts.proofs.spaces.normalized.Goals as goal

pub loop-c-init : goal.loop-c-init
loop-c-init c = record {
  text = search rules;
  whole = all_to_come c.args.text.now ∙ ap (λ made. whole made false (chars c.args.text.now)) (sym c.new-made.ensures);
}

pub loop-c-preserved : goal.loop-c-preserved
loop-c-preserved c =
    let made = c.loop-c.made in
    let gap = c.loop-c.is_behind_space in
    let behind = chars c.in-Some.behind.now in
    record {
      text = search rules;
      whole = c.loop-c.invariant.whole ∙ ap (whole made gap) c.in-Some.ensures.chars
          ∙ whole-word made gap c.in-Some.c behind (sym c.is_space.ensures ∙ c.if-is_space.false)
          ∙ ap (λ text. whole text false behind) (sym c.in_ok-put.ensures);
    }
