use Rattle.std.proofs.Common.{ℕ, subst, arith}
use Rattle.pj_old_format.specs.ListKeys.{members, rule, value_of}
use Rattle.pj_old_reading.specs.Copied.{Copies}
use Rattle.pj_old_reading.proofs.Copies.{too_many_copy}
use Rattle.pj_old_reading.proofs.keys.copy_counted_rules.Goals as goal

pub returns-in-Some : goal.returns-in-Some
returns-in-Some c =
    subst (λ (n : ℕ). Copies (members rule n) c.args.bytes.now c.args.at c.args.copy.now.items c.copy_rules.new.copy.items c.copy_rules.result) c.in-Some.ensures.value c.copy_rules.ensures

pub returns-in-None : goal.returns-in-None
returns-in-None c =
    too_many_copy rule 4294967295 (value_of c.args.digits.now) c.args.bytes.now c.args.at c.args.copy.now.items c.copy_too_many_rules.new.copy.items c.copy_too_many_rules.result (omega (arith, c.in-None.ensures.value)) c.copy_too_many_rules.ensures

pub value_of-requires : goal.value_of-requires
value_of-requires c = c.requires.number
