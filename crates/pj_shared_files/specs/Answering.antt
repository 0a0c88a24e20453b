-- Answers that a table has at its end, for private clauses.
use Rattle.std.specs.Prelude.{◌≡◌, List, IsTrue, is_some}
use Rattle.std.proofs.Props.{props}
use Rattle.std.specs.Arc.{arc_value}
use Rattle.std.specs.List.{AllByRecursion, AllByRecursion-prop}
use base.Stored.{Coded-set}
use Rattle.pj_names.specs.declared.answer.Answer.{Answer}
use Rattle.pj_names.specs.contracts.answer.Answer as answers
use Rattle.pj_table.specs.ClassWorld.{worlds_of}
use Rattle.pj_table.specs.Worlds.{World}
use Rattle.pj_table.specs.declared.part.Part.{Part}
use Rattle.pj_table.specs.declared.view.Entry.{Entry}

-- The answer of an entry is the world's for its name, where the world is told.
abbrev pub IsRightEntry : World → Entry → Type 0
IsRightEntry world e = IsTrue (is_some world) → arc_value e.answer ≡ (worlds_of world 0).answer e.name

-- So is each of a part, and of all parts.

abbrev pub HasRightEntries : World → Part → Type 0
HasRightEntries world x = AllByRecursion (IsRightEntry world) x.entries.items

abbrev pub HaveRightEntries : World → List Part → Type 0
HaveRightEntries world parts = AllByRecursion (HasRightEntries world) parts

answer_set : IsSet Answer
answer_set = Coded-set answers.the_row.coded

entry_prop : (world : World) (e : Entry) → IsProp (IsRightEntry world e)
entry_prop world e = hlevel (answer_set, props)

pub right_entries_prop : (world : World) (parts : List Part) → IsProp (HaveRightEntries world parts)
right_entries_prop world parts = AllByRecursion-prop (HasRightEntries world) (λ x. AllByRecursion-prop (IsRightEntry world) (entry_prop world) x.entries.items) parts
