use Rattle.std.proofs.Common.{None, ap, sym, ◌∙◌, cond}
use Rattle.std.specs.Str.{chars}
use Rattle.pj_literals.specs.IntegerValue.{integer_value}
use Rattle.pj_properties.specs.Literals.{if_fitting, is_floating}
use Rattle.pj_properties.proofs.Integers.{fitting}
use Rattle.pj_properties.proofs.literals.constant_integer.Goals as goal

pub returns-else-is_floating : goal.returns-else-is_floating
returns-else-is_floating c =
    fitting c.value.result (integer_value (chars c.args.text.now)) c.value.ensures.value
    ∙ sym (ap (λ b. cond b None (if_fitting (integer_value (chars c.args.text.now)))) (sym c.is_floating.ensures ∙ c.if-is_floating.false))
