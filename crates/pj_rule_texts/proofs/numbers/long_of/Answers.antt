use Rattle.std.proofs.Common.{Ok, Err, Some, ap, sym, subst, ◌∙◌}
use Rattle.std.proofs.lemmas.Int.{to_z-of_z}
use mir.Val.{SFits}
use mir.Syntax.{w64}
use Rattle.pj_rule_texts.proofs.Numerals.{by_sign}
use Rattle.pj_rule_texts.proofs.numbers.long_of.Goals as goal

pub returns-in-Ok : goal.returns-in-Ok
returns-in-Ok c =
    let h = c.in-Ok.ensures.value.0 in
    ap Some (to_z-of_z w64 c.in-Ok.number (subst (SFits w64) (sym h.1) h.0.1)) ∙ by_sign w64 {E = Unit {0}} c.args.text.now (Ok c.in-Ok.number) h

pub returns-in-Err : goal.returns-in-Err
returns-in-Err c = by_sign w64 c.args.text.now (Err c.in-Err.field-0) c.in-Err.ensures.value.0
