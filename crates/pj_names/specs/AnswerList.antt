-- The world of a list of answers.
use Rattle.std.specs.Prelude.{List, [], ◌∷◌, true, Option, Some, None}
use Rattle.std.specs.declared.sync.Arc.{Arc}
use Rattle.std.specs.declared.alloc.Global.{Global}
use denote.Bor.{Bor}
use Rattle.pj_names.specs.declared.answer.Answer.{Answer}
use Rattle.pj_names.specs.declared.answer.Answer.TheVariants.{Absent}
use Rattle.pj_names.specs.ClassName.{Name, NameSet}
use Rattle.pj_names.specs.Meaning.{found_in}
use Rattle.pj_names.specs.Told.{World, Told}

-- an answer, or else `Absent`
abbrev pub or_absent : Option Answer → Answer
or_absent None = Absent
or_absent (Some answer) = answer

-- every name without a pair is absent, and each name needs just itself
abbrev pub list_world : List (Name × Answer) → World
list_world answers = record { answer = λ name. or_absent (found_in answers name); needs = λ name. name ∷ [] }

-- what an oracle over a list tells: its world, and that it never failed
abbrev pub list_tells : List (Name × Answer) → NameSet → Told (Unit {0})
list_tells answers asked = record { is_told = true; world = λ depth. list_world answers; kept = tt; asked = asked; faults = 0 }

-- the answer behind a lent shared reference, if there is one
abbrev pub lent_answer : Option (Bor (Arc Answer Global)) → Option Answer
lent_answer None = None
lent_answer (Some lent) = Some lent.now.value
