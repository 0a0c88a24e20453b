use Rattle.std.proofs.Common.{arith, refl}
use Rattle.pj_format.proofs.Laws.{first_u8_as}
use Rattle.pj_classfile.specs.ClassFile.{tag, tag_of}
use Rattle.pj_classfile.proofs.Tags.{IsNoTag, no_tag}
use Rattle.pj_classfile.proofs.pool.tag_of.Goals as goal

pub returns-in_default : goal.returns-in_default
unfolding tag
returns-in_default c =
    let n = c.in_ok-number.number in
    let no : IsNoTag n = record { not_1 = omega arith; not_3 = omega arith; not_4 = omega arith; not_5 = omega arith; not_6 = omega arith; not_7 = omega arith; not_8 = omega arith; not_9 = omega arith; not_10 = omega arith; not_11 = omega arith; not_12 = omega arith; not_15 = omega arith; not_16 = omega arith; not_17 = omega arith; not_18 = omega arith; not_19 = omega arith; not_20 = omega arith } in
    rw (c.refused.ensures, first_u8_as tag_of c.args.bytes.now c.args.at, c.in_ok-number.ensures, no_tag n no) refl
