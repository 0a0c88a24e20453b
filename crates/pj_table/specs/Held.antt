-- Answers that an oracle holds.
use Rattle.std.specs.Prelude.{◌≡◌, List, IsTrue, is_some}
use Rattle.std.proofs.Props.{props}
use Rattle.std.specs.List.{AllByRecursion, AllByRecursion-prop}
use Rattle.std.specs.FinSet as set
use Rattle.std.specs.declared.sync.Arc.{Arc}
use Rattle.std.specs.declared.alloc.Global.{Global}
use base.Stored.{Coded-set}
use Rattle.pj_names.specs.declared.answer.Answer.{Answer}
use Rattle.pj_names.specs.contracts.answer.Answer as answers
use Rattle.pj_names.specs.ClassName.{Name, NameSet}
use Rattle.pj_table.specs.Worlds.{World}
use Rattle.pj_table.specs.ClassWorld.{worlds_of}

-- An answer that is held for a name: the name was asked, and where the folders are told it is the world's.
pub record IsHeldAnswer (world : World) (asked : NameSet) (name : Name) (answer : Answer) : Type 0 where
  pub was_asked : IsTrue (set.contains asked name)
  pub is : IsTrue (is_some world) → answer ≡ (worlds_of world 0).answer name

-- Each answer of a table is one.
abbrev pub AreHeldAnswers : World → NameSet → List (Name × Arc Answer Global) → Type 0
AreHeldAnswers world asked entries = AllByRecursion (λ entry. IsHeldAnswer world asked entry.0 entry.1.value) entries

-- such a fact has one proof at most

answer_set : IsSet Answer
answer_set = Coded-set answers.the_row.coded

held_prop : (world : World) (asked : NameSet) (name : Name) (answer : Answer) → IsProp (IsHeldAnswer world asked name answer)
held_prop world asked name answer = hlevel (answer_set, props)

pub all_held_prop : (world : World) (asked : NameSet) (entries : List (Name × Arc Answer Global)) → IsProp (AreHeldAnswers world asked entries)
all_held_prop world asked entries = AllByRecursion-prop (λ (entry : Name × Arc Answer Global). IsHeldAnswer world asked entry.0 entry.1.value) (λ entry. held_prop world asked entry.0 entry.1.value) entries
