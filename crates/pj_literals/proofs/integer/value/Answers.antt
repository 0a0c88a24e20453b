use Rattle.std.proofs.Common.{sym, ◌∙◌, refl}
use Rattle.std.specs.Str.{chars}
use Rattle.pj_literals.proofs.IntegerLaws.{long_value, int_value}
use Rattle.pj_literals.proofs.integer.value.Goals as goal

pub returns-then-is_long : goal.returns-then-is_long
returns-then-is_long c = record {
  value =
      long_value (chars c.args.text.now) _ _ _ c.radix-radix.ensures.value c.if-radix-eq10.false (sym c.is_long.ensures.value ∙ c.if-is_long.true)
      c.low_bits.ensures.value c.cast_signed.ensures;
}

pub returns-else-is_long : goal.returns-else-is_long
returns-else-is_long c = record {
  value =
      int_value (chars c.args.text.now) _ _ _ _ _ c.radix-radix.ensures.value c.if-radix-eq10.false (sym c.is_long.ensures.value ∙ c.if-is_long.false)
      c.low_bits-else-is_long.ensures.value refl c.cast_signed-else-is_long.ensures c.from.ensures;
}
