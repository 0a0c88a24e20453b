-- What answers have a text: order and room at once, field by field, as they are read.
use Rattle.std.specs.Prelude.{◌≡◌, ◌<◌, ◌^◌, true, List, Option, Some, None}
use Rattle.std.specs.List.{AllByRecursion}
use Rattle.pj_format.specs.Fields.{Chain}
use Rattle.pj_names.specs.declared.answer.Answer.{Answer}
use Rattle.pj_names.specs.declared.answer.Answer.TheVariants as answers
use Rattle.pj_names.specs.declared.answer.ClassInfo.{ClassInfo}
use Rattle.pj_names.specs.declared.answer.Member.{Member}
use Rattle.pj_names.specs.ClassName.{Name}
use Rattle.pj_cache_format.specs.Answers.{is_name_behind}
use Rattle.pj_cache_format.specs.Fitting.{FitsBroken, FitsMember, FitsText, HasRoom}

-- Answers.

abbrev pub AreMembers : List Member → Type 0
AreMembers ms = HasRoom ms × AllByRecursion FitsMember ms

abbrev pub IsClass : ClassInfo → Type 0
IsClass c = (c.flags < 2 ^ 16) × FitsText c.signature × AreMembers c.fields × AreMembers c.methods

-- an answer for a name: a class has that name
abbrev pub IsAnswerFor : Name → Answer → Type 0
IsAnswerFor name answers.Absent = Unit {0}
IsAnswerFor name (answers.Found class) = (class.name ≡ name) × IsClass class
IsAnswerFor name (answers.Broken what) = FitsBroken what

-- an answer, with its name, behind that of another name
abbrev pub IsAnswerBehind : Option Name → Name × Answer → Type 0
IsAnswerBehind before a = HasRoom a.0 × (is_name_behind before a.0 ≡ true) × IsAnswerFor a.0 a.1

abbrev pub AreAnswers : List (Name × Answer) → Type 0
AreAnswers list = HasRoom list × Chain IsAnswerBehind (λ before a. Some a.0) None list
