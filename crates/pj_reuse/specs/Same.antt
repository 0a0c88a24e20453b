-- Whether two answers are the same, part by part.
use Rattle.std.specs.Prelude.{ℕ, Bool, true, false, ◌&&◌, List, nat_eq}
use Rattle.std.specs.Cmp.Lexicographic.{pointwise}
use Rattle.pj_names.specs.declared.answer.Answer.{Answer}
use Rattle.pj_names.specs.declared.answer.Answer.TheVariants as answers
use Rattle.pj_names.specs.declared.answer.Broken.{Broken}
use Rattle.pj_names.specs.declared.answer.Broken.TheVariants as broken
use Rattle.pj_names.specs.declared.answer.ClassInfo.{ClassInfo}
use Rattle.pj_names.specs.declared.answer.Member.{Member}

abbrev pub is_same_text : List ℕ → List ℕ → Bool
is_same_text = pointwise nat_eq

abbrev pub is_same_member : Member → Member → Bool
is_same_member a b = nat_eq a.flags b.flags && (is_same_text a.name b.name && is_same_text a.signature b.signature)

abbrev pub is_same_class : ClassInfo → ClassInfo → Bool
is_same_class a b =
    is_same_text a.name b.name
    && (nat_eq a.flags b.flags
    && (is_same_text a.signature b.signature
    && (pointwise is_same_member a.fields b.fields && pointwise is_same_member a.methods b.methods)))

abbrev pub is_same_broken : Broken → Broken → Bool
is_same_broken (broken.Class a) (broken.Class b) = nat_eq a.kind b.kind && nat_eq a.offset b.offset
is_same_broken broken.OtherName broken.OtherName = true
is_same_broken broken.TooLong broken.TooLong = true
is_same_broken (broken.Class a) broken.OtherName = false
is_same_broken (broken.Class a) broken.TooLong = false
is_same_broken broken.OtherName (broken.Class b) = false
is_same_broken broken.OtherName broken.TooLong = false
is_same_broken broken.TooLong (broken.Class b) = false
is_same_broken broken.TooLong broken.OtherName = false

abbrev pub is_same_answer : Answer → Answer → Bool
is_same_answer answers.Absent answers.Absent = true
is_same_answer (answers.Found a) (answers.Found b) = is_same_class a b
is_same_answer (answers.Broken a) (answers.Broken b) = is_same_broken a b
is_same_answer answers.Absent (answers.Found b) = false
is_same_answer answers.Absent (answers.Broken b) = false
is_same_answer (answers.Found a) answers.Absent = false
is_same_answer (answers.Found a) (answers.Broken b) = false
is_same_answer (answers.Broken a) answers.Absent = false
is_same_answer (answers.Broken a) (answers.Found b) = false
