-- What a door read is the world's answer.
use Rattle.std.proofs.Common.{◌≡◌, arith, subst}
use Rattle.std.specs.Prelude.{List, Some, None}
use Rattle.std.specs.Option.{IfSome}
use Rattle.pj_names.specs.ClassName.{Name}
use Rattle.pj_names.specs.declared.answer.Answer.{Answer}
use Rattle.pj_outside.specs.declared.refused.Reading.{Reading}
use Rattle.pj_outside.specs.declared.refused.Reading.TheVariants.{Absent, Longer, Whole}
use Rattle.pj_outside.specs.Files.{Files, IsAtMost}
use Rattle.pj_outside.specs.Doors.{found_at}
use Rattle.pj_classfile.specs.ClassOf.{AnswerOf}
use Rattle.pj_table.specs.Worlds.{World, IsAnswer}

-- a class file of at most 4,194,304 bytes has offsets of 32 bits
pub short_enough : (reading : Reading) → IsAtMost 4194304 reading → IsAtMost 4294967294 reading
short_enough Absent h = tt
short_enough Longer h = tt
short_enough (Whole bytes) h = omega (arith, h)

pub is_answer : (world : World) (name : Name) (reading : Reading) (answer : Answer) → IfSome world (λ (folders : List Files). reading ≡ found_at folders name 4194304) → AnswerOf name reading answer → IsAnswer world name answer
is_answer None name reading answer read is = tt
is_answer (Some folders) name reading answer read is = subst (λ (r : Reading). AnswerOf name r answer) read is
