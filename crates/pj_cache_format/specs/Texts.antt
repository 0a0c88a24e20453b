-- Texts of numbers, of byte strings and of answers about classes, in both formats.
use Rattle.std.specs.Prelude.{ℕ, ◌++◌, ◌∷◌, [], List, length, flat_map}
use Rattle.std.specs.Int.{w16, w32, to_be_bytes}
use Rattle.pj_names.specs.declared.answer.Answer.{Answer}
use Rattle.pj_names.specs.declared.answer.Answer.TheVariants as answers
use Rattle.pj_names.specs.declared.answer.Broken.{Broken}
use Rattle.pj_names.specs.declared.answer.Broken.TheVariants as broken
use Rattle.pj_names.specs.declared.answer.ClassInfo.{ClassInfo}
use Rattle.pj_names.specs.declared.answer.Member.{Member}
use Rattle.pj_names.specs.ClassName.{Name}

-- Numbers, the highest byte first, and byte strings and lists behind the number of their bytes and members.

abbrev pub number : ℕ → List ℕ
number n = to_be_bytes w32 n

abbrev pub flags : ℕ → List ℕ
flags n = to_be_bytes w16 n

abbrev pub string : List ℕ → List ℕ
string bytes = number (length bytes) ++ bytes

abbrev pub counted : {A : Type 0} → (A → List ℕ) → List A → List ℕ
counted item list = number (length list) ++ flat_map item list

-- Answers.

abbrev pub member_text : Member → List ℕ
member_text m = flags m.flags ++ (string m.name ++ string m.signature)

abbrev pub class_text : ClassInfo → List ℕ
class_text c = flags c.flags ++ (string c.signature ++ (counted member_text c.fields ++ counted member_text c.methods))

-- why a class is not readable: its tag, and what stands behind it
abbrev pub broken_tag : Broken → ℕ
broken_tag (broken.Class f) = 1
broken_tag broken.OtherName = 2
broken_tag broken.TooLong = 3

abbrev pub broken_content : Broken → List ℕ
broken_content (broken.Class f) = f.kind ∷ number f.offset
broken_content broken.OtherName = []
broken_content broken.TooLong = []

abbrev pub broken_text : Broken → List ℕ
broken_text b = broken_tag b ∷ broken_content b

-- an answer: its tag, and what stands behind it
abbrev pub answer_tag : Answer → ℕ
answer_tag answers.Absent = 0
answer_tag (answers.Found class) = 1
answer_tag (answers.Broken what) = 2

abbrev pub answer_content : Answer → List ℕ
answer_content answers.Absent = []
answer_content (answers.Found class) = class_text class
answer_content (answers.Broken what) = broken_text what

abbrev pub answer_text : Name × Answer → List ℕ
answer_text a = string a.0 ++ answer_tag a.1 ∷ answer_content a.1
