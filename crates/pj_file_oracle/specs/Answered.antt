-- Answers that an oracle over another has given, and may give again: each is its meaning's value, and what the meaning asks was asked. Both stay so, since
-- the world stays the same and no name is forgotten.
use Rattle.std.specs.Prelude.{◌≡◌, ◌≤◌, ℕ, List, IsTrue}
use Rattle.std.proofs.Props.{props}
use Rattle.std.specs.List.{AllByRecursion, AllByRecursion-prop}
use Rattle.std.specs.FinSet as set
use Rattle.std.specs.declared.sync.Arc.{Arc}
use Rattle.std.specs.declared.alloc.Global.{Global}
use base.Stored.{Coded-set}
use Rattle.pj_names.specs.declared.answer.Answer.{Answer}
use Rattle.pj_names.specs.contracts.answer.Answer as answers
use Rattle.pj_names.specs.ClassName.{Name}
use Rattle.pj_names.specs.Asking.{Asking, value_of, names_of}
use Rattle.pj_names.specs.Told.{Told, all_needs, longest}

-- the needs of the names of a meaning were asked
abbrev pub WereAsked : {K A : Type 0} → Told K → ℕ → Asking A → Type 0
WereAsked t depth meaning = AllByRecursion (λ name. IsTrue (set.contains t.asked name)) (all_needs (t.world depth) (names_of depth (t.world depth).answer meaning))

-- an answer that may be given again: where the world is told, at each depth that a call does not reach it is the meaning's value, and the meaning asks nothing new
pub record IsAnswered {K : Type 0} (t : Told K) (meaning : Asking Answer) (answer : Answer) : Type 0 where
  pub value_is : IsTrue t.is_told → (depth : ℕ) → longest ≤ depth → answer ≡ value_of depth (t.world depth).answer meaning
  pub were_asked : IsTrue t.is_told → (depth : ℕ) → longest ≤ depth → WereAsked t depth meaning

-- each answer of a table, by its name
abbrev pub AreAnswered : {K : Type 0} → (Name → Asking Answer) → Told K → List (Name × Arc Answer Global) → Type 0
AreAnswered meaning_of t entries = AllByRecursion (λ entry. IsAnswered t (meaning_of entry.0) entry.1.value) entries

-- such a fact has one proof at most

pub answer_set : IsSet Answer
answer_set = Coded-set answers.the_row.coded

were_asked_prop : {K A : Type 0} (t : Told K) (depth : ℕ) (meaning : Asking A) → IsProp (WereAsked t depth meaning)
were_asked_prop t depth meaning = AllByRecursion-prop (λ name. IsTrue (set.contains t.asked name)) (λ name. hlevel props) (all_needs (t.world depth) (names_of depth (t.world depth).answer meaning))

answered_prop : {K : Type 0} (t : Told K) (meaning : Asking Answer) (answer : Answer) → IsProp (IsAnswered t meaning answer)
answered_prop t meaning answer = hlevel (answer_set, were_asked_prop)

pub all_answered_prop : {K : Type 0} (meaning_of : Name → Asking Answer) (t : Told K) (entries : List (Name × Arc Answer Global)) → IsProp (AreAnswered meaning_of t entries)
all_answered_prop meaning_of t entries = AllByRecursion-prop (λ (entry : Name × Arc Answer Global). IsAnswered t (meaning_of entry.0) entry.1.value) (λ entry. answered_prop t (meaning_of entry.0) entry.1.value) entries
