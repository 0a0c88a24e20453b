-- What class files are: a class, or their first fault. And the answer for the name of a class.
use Rattle.std.specs.Prelude.{◌≡◌, ℕ, List, Result, Ok, Err, nat_eq, if◌then◌else◌}
use Rattle.std.specs.Cmp.Lexicographic.{pointwise}
use Rattle.pj_names.specs.declared.answer.ClassInfo.{ClassInfo}
use Rattle.pj_names.specs.declared.answer.ClassFault.{ClassFault}
use Rattle.pj_names.specs.declared.answer.Answer.{Answer}
use Rattle.pj_names.specs.declared.answer.Answer.TheVariants as answers
use Rattle.pj_names.specs.declared.answer.Broken.TheVariants as broken
use Rattle.pj_names.specs.ClassName.{Name}
use Rattle.pj_outside.specs.Doors.{found_at}
use Rattle.pj_outside.specs.Files.{Files}
use Rattle.pj_outside.specs.declared.refused.Reading.{Reading}
use Rattle.pj_outside.specs.declared.refused.Reading.TheVariants as readings
use Rattle.pj_format.specs.declared.fault.Fault.{Fault}
use Rattle.pj_format.specs.Format.{Spells, IsFirst, fault, first}
use Rattle.pj_classfile.specs.declared.fault.ClassRefused.{ClassRefused}
use Rattle.pj_classfile.specs.declared.fault.ClassRefused.TheVariants as refused
use Rattle.pj_classfile.specs.ClassFile.{class_file}

-- The bytes are the class that they spell, or else they have this first fault.
abbrev pub ClassOf : List ℕ → Result ClassInfo ClassFault → Type 0
ClassOf bytes (Ok class) = Spells class_file bytes class
ClassOf bytes (Err f) = IsFirst class_file bytes (fault f.kind f.offset)

-- What a reader returns is what the bytes are, but for want of memory.
abbrev pub IsRead : List ℕ → Result ClassInfo ClassRefused → Type 0
IsRead bytes (Ok class) = ClassOf bytes (Ok class)
IsRead bytes (Err refused.Memory) = Unit {0}
IsRead bytes (Err (refused.Fault f)) = ClassOf bytes (Err f)

-- the answer that a class, or a fault, is for a name
abbrev pub answer_from : List ℕ → Result ClassInfo ClassFault → Answer
answer_from name (Ok class) = if pointwise nat_eq class.name name then answers.Found class else answers.Broken broken.OtherName
answer_from name (Err f) = answers.Broken (broken.Class f)

-- The answer for a name whose class file was read so.
abbrev pub AnswerOf : List ℕ → Reading → Answer → Type 0
AnswerOf name readings.Absent answer = answer ≡ answers.Absent
AnswerOf name readings.Longer answer = answer ≡ answers.Broken broken.TooLong
AnswerOf name (readings.Whole bytes) answer = (r : Result ClassInfo ClassFault) × ClassOf bytes r × (answer ≡ answer_from name r)

-- The same as functions, which a law says to be what is meant: by reading the bytes from the left, up to the first fault.

abbrev pub class_read : Result (ClassInfo × ℕ) Fault → Result ClassInfo ClassFault
class_read (Ok found) = Ok found.0
class_read (Err f) = Err (record { kind = f.kind; offset = f.offset })

-- the class that bytes are, or their first fault
unfoldable pub class_of : List ℕ → Result ClassInfo ClassFault
class_of bytes = class_read (first class_file bytes 0)

-- the answer for a name whose class file was read so
abbrev pub answer_of : Name → Reading → Answer
answer_of name readings.Absent = answers.Absent
answer_of name readings.Longer = answers.Broken broken.TooLong
answer_of name (readings.Whole bytes) = answer_from name (class_of bytes)

-- The world of some class folders: each name has the answer of its file in the first folder that has it. Of files that are longer
-- than so many bytes nothing but that is known.
abbrev pub folder_world : ℕ → List Files → Name → Answer
folder_world most folders name = answer_of name (found_at folders name most)
