-- What is held of a file: what its classes answered, each answer with the names that the class's declaration asks, so that it can be given again over
-- every oracle of the same world.
use Rattle.std.specs.Prelude.{◌≡◌, List, IsTrue}
use Rattle.std.specs.Borrow.{GName}
use Rattle.std.specs.Coded.{coded_list, coded_ℕ}
use Rattle.std.specs.List.{AllByRecursion, AllByRecursion-prop}
use Rattle.std.specs.FinSet as set
use base.Stored.{Coded-set}
use Rattle.pj_tree.specs.Tree.{Tree}
use Rattle.pj_names.specs.declared.answer.Answer.{Answer}
use Rattle.pj_names.specs.ClassName.{Name, NameSet, name_set}
use Rattle.pj_names.specs.Asking.{Asking}
use Rattle.pj_names.specs.Held.{IsHeld}
use Rattle.pj_names.specs.Told.{Told, Worlds}
use Rattle.pj_file_oracle.specs.declared.held.Held.{Held}
use Rattle.pj_file_oracle.specs.declared.held.HeldAnswer.{HeldAnswer}
use Rattle.pj_file_oracle.specs.Answered.{answer_set}
use Rattle.pj_file_oracle.specs.FileAnswer.{file_answer}

-- an answer that is held for a meaning: where the world is told it is the meaning's value, and its names are those that the meaning asks
abbrev pub IsHeldAnswer : {K : Type 0} → Told K → Asking Answer → HeldAnswer → Type 0
IsHeldAnswer t meaning held = IsTrue t.is_told → IsHeld t.world meaning held.answer.value (name_set held.names)

-- each answer of a table is held for what the name means
abbrev pub AreHeld : {K : Type 0} → (Name → Asking Answer) → Told K → List (Name × HeldAnswer) → Type 0
AreHeld meaning_of t entries = AllByRecursion (λ entry. IsHeldAnswer t (meaning_of entry.0) entry.1) entries

-- What is held of a file is right in the worlds of an oracle. Nothing is said of what was asked, so it is so for every oracle that tells these worlds.
abbrev pub Holds : {K : Type 0} → Tree → Told K → Held → Type 0
Holds tree t held = AreHeld (file_answer tree) t held.answers.entries

-- ---- what the oracle of a file keeps of its own: the tree of the file, and the reference to what is held of it

pub record FileOwn : Type 0 where
  pub tree : Tree
  pub held : GName

abbrev pub own_answer : FileOwn → Name → Asking Answer
own_answer own name = file_answer own.tree name

-- ---- such a fact has one proof at most

names_set : IsSet NameSet
names_set = Coded-set (set.code (coded_list coded_ℕ))

held_prop : (worlds : Worlds) (meaning : Asking Answer) (answer : Answer) (names : NameSet) → IsProp (IsHeld worlds meaning answer names)
held_prop worlds meaning answer names = hlevel (answer_set, names_set)

held_answer_prop : {K : Type 0} (t : Told K) (meaning : Asking Answer) (held : HeldAnswer) → IsProp (IsHeldAnswer t meaning held)
held_answer_prop t meaning held = hlevel (held_prop t.world meaning held.answer.value (name_set held.names))

pub holds_prop : {K : Type 0} (tree : Tree) (t : Told K) (held : Held) → IsProp (Holds tree t held)
holds_prop tree t held =
    AllByRecursion-prop (λ (entry : Name × HeldAnswer). IsHeldAnswer t (file_answer tree entry.0) entry.1) (λ entry. held_answer_prop t (file_answer tree entry.0) entry.1) held.answers.entries
