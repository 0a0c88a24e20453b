use Rattle.std.proofs.Common.{ℕ, subst, arith}
use Rattle.std.specs.Prelude.{map}
use Rattle.pj_old_format.specs.ListKeys.{all_tested, members, value_of}
use Rattle.pj_old_reading.specs.Copied.{test_of}
use Rattle.pj_old_reading.specs.Copied.{Copies}
use Rattle.pj_old_reading.proofs.Copies.{too_many_copy}
use Rattle.pj_old_reading.proofs.keys.copy_counted.Goals as goal

pub returns-in-Some : goal.returns-in-Some
returns-in-Some c =
    subst (λ (n : ℕ). Copies (members (all_tested (map test_of c.args.tests.now)) n) c.args.bytes.now c.args.at c.args.copy.now.items c.copy_members.new.copy.items c.copy_members.result) c.in-Some.ensures.value c.copy_members.ensures

pub returns-in-None : goal.returns-in-None
returns-in-None c =
    too_many_copy (all_tested (map test_of c.args.tests.now)) 4294967295 (value_of c.args.digits.now) c.args.bytes.now c.args.at c.args.copy.now.items c.copy_too_many.new.copy.items c.copy_too_many.result (omega (arith, c.in-None.ensures.value)) c.copy_too_many.ensures

pub value_of-requires : goal.value_of-requires
value_of-requires c = c.requires.number
