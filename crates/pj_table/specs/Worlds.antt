-- What the doors of a table have for names of classes.
use Rattle.std.specs.Prelude.{◌≡◌, ℕ, List, Bool, true, false, Option, Result, Ok, Err}
use Rattle.std.specs.Option.{IfSome}
use Rattle.pj_names.specs.ClassName.{Name}
use Rattle.pj_names.specs.declared.answer.Answer.{Answer}
use Rattle.pj_names.specs.declared.oracle.AskFault.{AskFault}
use Rattle.pj_names.specs.declared.oracle.AskFault.TheVariants.{Failed, Memory}
use Rattle.pj_outside.specs.Files.{Files}
use Rattle.pj_outside.specs.Doors.{found_at}
use Rattle.pj_outside.specs.Faults.{Rises, next_count}
use Rattle.pj_classfile.specs.ClassOf.{AnswerOf}

-- The world of a table: the files of its doors' folders, in the order of the folders. Doors to real folders tell nothing.
abbrev pub World : Type 0
World = Option (List Files)

-- The answer is the world's for the name: that of the first folder with the class's file, of at most 4,194,304 bytes.
abbrev pub IsAnswer : World → Name → Answer → Type 0
IsAnswer world name answer = IfSome world (λ folders. AnswerOf name (found_at folders name 4194304) answer)

-- The count of finds rises where the look fills a name, and else stays.
abbrev pub CountsFind : ℕ → ℕ → Bool → Type 0
CountsFind old new true = new ≡ next_count old
CountsFind old new false = new ≡ old

-- The count of faults rises exactly where the door failed. Want of memory is no fault.
abbrev pub CountsFaults : {A : Type 0} → ℕ → ℕ → Result A AskFault → Type 0
CountsFaults old new (Ok answer) = new ≡ old
CountsFaults old new (Err Failed) = Rises old new
CountsFaults old new (Err Memory) = new ≡ old
