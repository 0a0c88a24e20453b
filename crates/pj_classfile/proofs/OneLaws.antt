-- Bytes are one class, or have one first fault.
use Rattle.std.proofs.Common.{◌≡◌, ℕ, List, true, false, nat_eq, Result, Ok, Err, refl, ap, sym, ◌∙◌}
use Rattle.std.specs.Cmp.Lexicographic.{pointwise}
use Rattle.pj_names.specs.declared.answer.ClassInfo.{ClassInfo}
use Rattle.pj_names.specs.declared.answer.ClassFault.{ClassFault}
use Rattle.pj_names.specs.declared.answer.Answer.{Answer}
use Rattle.pj_names.specs.declared.answer.Answer.TheVariants as answers
use Rattle.pj_names.specs.declared.answer.Broken.TheVariants as broken
use Rattle.pj_outside.specs.declared.refused.Reading.{Reading}
use Rattle.pj_outside.specs.declared.refused.Reading.TheVariants as readings
use Rattle.pj_format.specs.declared.fault.Fault.{Fault}
use Rattle.pj_format.specs.Format.{Means, fault, first, whole}
use Rattle.pj_format.proofs.Spelling.{means_one, read_means, whole_means}
use Rattle.pj_classfile.specs.ClassFile.{class_file, class_structure}
use Rattle.pj_names.specs.ClassName.{Name}
use Rattle.pj_classfile.specs.ClassOf.{ClassOf, AnswerOf, answer_from, answer_of, class_of, class_read}

-- faults by their places, and back
abbrev seen : Result ClassInfo ClassFault → Result ClassInfo Fault
seen (Ok class) = Ok class
seen (Err f) = Err (fault f.kind f.offset)

abbrev named : Result ClassInfo Fault → Result ClassInfo ClassFault
named (Ok class) = Ok class
named (Err f) = Err (record { kind = f.kind; offset = f.offset })

abbrev class_fault : Fault → ClassFault
class_fault f = record { kind = f.kind; offset = f.offset }

means : (bytes : List ℕ) (r : Result ClassInfo ClassFault) → ClassOf bytes r → Means class_file bytes (seen r)
means bytes (Ok class) h = h
means bytes (Err f) h = h

is_named : (bytes : List ℕ) (r : Result ClassInfo Fault) → Means class_file bytes r → ClassOf bytes (named r)
is_named bytes (Ok class) h = h
is_named bytes (Err f) h = h

there_and_back : (r : Result ClassInfo ClassFault) → named (seen r) ≡ r
there_and_back (Ok class) = refl
there_and_back (Err f) = refl

pub one : (bytes : List ℕ) (r s : Result ClassInfo ClassFault) → ClassOf bytes r → ClassOf bytes s → r ≡ s
one bytes r s h k =
    sym (there_and_back r) ∙ ap named (means_one class_file bytes (seen r) (seen s) (means bytes r h) (means bytes s k)) ∙ there_and_back s

pub there : (bytes : List ℕ) → (r : Result ClassInfo ClassFault) × ClassOf bytes r
unfolding class_file
there bytes = let m = whole_means 10 class_structure bytes in (named m.0, is_named bytes m.0 m.1)

pub answer_there : (name : List ℕ) (reading : Reading) → (a : Answer) × AnswerOf name reading a
answer_there name readings.Absent = (answers.Absent, refl)
answer_there name readings.Longer = (answers.Broken broken.TooLong, refl)
answer_there name (readings.Whole bytes) = let class = there bytes in (answer_from name class.0, (class.0, class.1, refl))

pub one_answer : (name : List ℕ) (reading : Reading) (a b : Answer) → AnswerOf name reading a → AnswerOf name reading b → a ≡ b
one_answer name readings.Absent a b h k = h ∙ sym k
one_answer name readings.Longer a b h k = h ∙ sym k
one_answer name (readings.Whole bytes) a b h k = h.2 ∙ ap (answer_from name) (one bytes h.0 k.0 h.1 k.1) ∙ sym k.2

pub is_found : (name : List ℕ) (class : ClassInfo) → pointwise nat_eq class.name name ≡ true → answer_from name (Ok class) ≡ answers.Found class
is_found name class same = rw same refl

pub is_other : (name : List ℕ) (class : ClassInfo) → pointwise nat_eq class.name name ≡ false → answer_from name (Ok class) ≡ answers.Broken broken.OtherName
is_other name class other = rw other refl

-- What reading from the left gives is what is meant.

read_is : (bytes : List ℕ) (r : Result (ClassInfo × ℕ) Fault) → first (whole 10 class_structure) bytes 0 ≡ r → ClassOf bytes (class_read r)
unfolding class_file
read_is bytes (Ok found) is = read_means 10 class_structure bytes (Ok found) is
read_is bytes (Err f) is = read_means 10 class_structure bytes (Err f) is

pub class_is : (bytes : List ℕ) → ClassOf bytes (class_of bytes)
unfolding class_of class_file
class_is bytes = read_is bytes (first (whole 10 class_structure) bytes 0) refl

pub answer_is : (name : Name) (reading : Reading) → AnswerOf name reading (answer_of name reading)
answer_is name readings.Absent = refl
answer_is name readings.Longer = refl
answer_is name (readings.Whole bytes) = (class_of bytes, class_is bytes, refl)

pub only_answer : (name : Name) (reading : Reading) (answer : Answer) → AnswerOf name reading answer → answer ≡ answer_of name reading
only_answer name reading answer is = one_answer name reading answer (answer_of name reading) is (answer_is name reading)
