use Rattle.std.proofs.Common.{ℕ, Option, ap, sym, ◌∙◌}
use Rattle.pj_carry.specs.Form.{without_rule}
use Rattle.pj_carrying.proofs.Lone.{alone, not_alone}
use Rattle.pj_carrying.proofs.form.message_of.Goals as goal

pub returns-then-errors-ne1 : goal.returns-then-errors-ne1
returns-then-errors-ne1 c = not_alone c.args.errors.now c.if-errors-ne1.true

pub returns-in-Some : goal.returns-in-Some
returns-in-Some c =
    let x = c.index-errors-place.result in
    ap (λ (o : Option ℕ). without_rule o x.message) (sym c.in-Some.is) ∙ alone c.args.errors.now x c.if-errors-ne1.false c.index-errors-place.is

pub returns-in-None : goal.returns-in-None
returns-in-None c =
    let x = c.index-errors-place.result in
    ap (λ (o : Option ℕ). without_rule o x.message) (sym c.in-None.is) ∙ alone c.args.errors.now x c.if-errors-ne1.false c.index-errors-place.is
