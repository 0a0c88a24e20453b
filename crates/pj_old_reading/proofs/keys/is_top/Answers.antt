use Rattle.std.proofs.Common.{sym, ◌∙◌}
use Rattle.pj_old_reading.proofs.Numbers.{large_top, no_number, small_top}
use Rattle.pj_old_reading.proofs.keys.is_top.Goals as goal

pub returns-then-not-is_right : goal.returns-then-not-is_right
returns-then-not-is_right c = no_number c.args.bytes.now (sym c.is_number-is_right.ensures ∙ c.if-not-is_right.true)

pub value_of-requires : goal.value_of-requires
value_of-requires c = sym c.is_number-is_right.ensures ∙ c.if-not-is_right.false

pub returns-in-Some : goal.returns-in-Some
returns-in-Some c = small_top c.args.bytes.now c.in-Some.field-0 (sym c.is_number-is_right.ensures ∙ c.if-not-is_right.false) c.in-Some.ensures.value c.in-Some.ensures.small

pub returns-in-None : goal.returns-in-None
returns-in-None c = large_top c.args.bytes.now (sym c.is_number-is_right.ensures ∙ c.if-not-is_right.false) c.in-None.ensures.value
