use Rattle.std.proofs.Common.{◌≡◌, Ok, Err, Some, ap, sym, subst, ◌∙◌, rules}
use Rattle.std.proofs.lemmas.Int.{to_z-of_z}
use mir.Syntax.{w32}
use mir.Val.{SFits, to_z, of_z}
use Rattle.pj_rule_texts.proofs.Numerals.{by_sign}
use Rattle.pj_rule_texts.proofs.numbers.integer_of.Goals as goal

pub returns-in-Ok : goal.returns-in-Ok
returns-in-Ok c =
    let h = c.in-Ok.ensures.value.0 in
    let fits : SFits w32 c.in-Ok.number = subst (SFits w32) (sym h.1) h.0.1 in
    let same : to_z w32 (of_z w32 c.in-Ok.number) ≡ c.in-Ok.number = to_z-of_z w32 c.in-Ok.number fits in
    record {
      value = ap Some same ∙ by_sign w32 {E = Unit {0}} c.args.text.now (Ok c.in-Ok.number) h;
      fits = subst (SFits w32) (sym same) fits;
    }

pub returns-in-Err : goal.returns-in-Err
returns-in-Err c = record {
  value = by_sign w32 c.args.text.now (Err c.in-Err.field-0) c.in-Err.ensures.value.0;
  fits = search rules;
}
