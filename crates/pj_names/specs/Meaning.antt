-- What a meaning comes to over a source of answers.
use Rattle.std.specs.Prelude.{◌≡◌, ◌≤◌, ℕ, Bool, true, false, List, [], ◌∷◌, IsTrue, Option, Some, None, nat_eq, if◌then◌else◌}
use Rattle.std.specs.Cmp.Lexicographic.{pointwise}
use Rattle.std.specs.FinSet as set
use Rattle.pj_names.specs.declared.answer.Answer.{Answer}
use Rattle.pj_names.specs.declared.answer.Answer.TheVariants.{Absent}
use Rattle.pj_names.specs.ClassName.{Name, NameSet, name_set}
use Rattle.pj_names.specs.Asking.{Asking, Return, Ask, Unbounded}

-- A source: its answer for a name, if it has one.
abbrev pub Source : Type 0
Source = Name → Option Answer

-- the answer of the first pair of a name, if there is one
abbrev pub found_in : List (Name × Answer) → Name → Option Answer
found_in [] name = None
found_in (pair ∷ rest) name = if pointwise nat_eq pair.0 name then Some pair.1 else found_in rest name

-- an answer; without one `Absent` of a whole source, and else nothing
abbrev pub or_whole : Bool → Option Answer → Option Answer
or_whole is_whole (Some answer) = Some answer
or_whole true None = Some Absent
or_whole false None = None

-- The source of a finite map: the first pair of a name counts. In a whole source every other name is absent.
abbrev pub source_of : List (Name × Answer) → Bool → Source
source_of answers is_whole name = or_whole is_whole (found_in answers name)

-- A meaning over a source: its value, with the names that were asked, in the order of asking; or a name that the
-- source does not answer.
pub data Meaning (A : Type 0) : Type 0 where
  Done : A → List Name → Meaning A
  Need : Name → Meaning A

-- what is done, with one name asked before it
abbrev pub also : {A : Type 0} → Name → Meaning A → Meaning A
also name (Done value names) = Done value (name ∷ names)
also name (Need needed) = Need needed

-- what follows for an answer, or the need of the name that has none
abbrev pub answered : {A : Type 0} → Name → Option Answer → (Answer → Meaning A) → Meaning A
answered name None rest = Need name
answered name (Some answer) rest = also name (rest answer)

-- what a meaning is over a source where recursions go at most so deep
abbrev pub over : {A : Type 0} → ℕ → Source → Asking A → Meaning A
over depth source (Return value) = Done value []
over depth source (Ask name rest) = answered name (source name) (λ answer. over depth source (rest answer))
over depth source (Unbounded recursion) = over depth source (recursion depth)

-- What a meaning comes to in the end: its value, with the set of the names that were asked; or the first name that the source
-- does not answer, which at small depths may be another one. In which order the names were asked, and how often, is no part
-- of it. A finite source that is not whole, `source_of answers false`, gives what rests on just these answers.
pub data Outcome (A : Type 0) : Type 0 where
  Gives : A → NameSet → Outcome A
  Lacks : Name → Outcome A

abbrev pub outcome_of : {A : Type 0} → Meaning A → Outcome A
outcome_of (Done value names) = Gives value (name_set names)
outcome_of (Need name) = Lacks name

-- What a meaning comes to over a source: from some depth on that is its outcome, however deep recursions go.
pub record Means {A : Type 0} (source : Source) (meaning : Asking A) (outcome : Outcome A) : Type 0 where
  pub least : ℕ
  pub is : (depth : ℕ) → least ≤ depth → outcome_of (over depth source meaning) ≡ outcome

-- what is done, with some names asked before it
abbrev pub in_front : {A : Type 0} → List Name → Meaning A → Meaning A
in_front [] meaning = meaning
in_front (name ∷ names) meaning = also name (in_front names meaning)

-- in a sequence the names are united, and the first need is the result
abbrev pub after : {A B : Type 0} → Meaning A → (A → Meaning B) → Meaning B
after (Done value names) next = in_front names (next value)
after (Need needed) next = Need needed

-- a source that answers every name
abbrev pub whole : (Name → Answer) → Source
whole world name = Some (world name)

-- The second source answers the names of the set as the first one does.
abbrev pub AnswersAlike : Source → Source → NameSet → Type 0
AnswersAlike first second names = (name : Name) → IsTrue (set.contains names name) → second name ≡ first name

-- Agreement of a meaning over two sources: what it gives over the first one, it gives over the second one, if that answers
-- alike the names that were asked.
abbrev pub Agrees : {A : Type 0} → Source → Source → Asking A → Type 0
Agrees {A} first second meaning = (value : A) (names : NameSet) → Means first meaning (Gives value names) → AnswersAlike first second names → Means second meaning (Gives value names)

-- The same at one depth: with the same names in the same order.
abbrev pub AgreesAt : {A : Type 0} → ℕ → Source → Source → Asking A → Type 0
AgreesAt {A} depth first second meaning =
    (value : A) (names : List Name) → over depth first meaning ≡ Done value names → AnswersAlike first second (name_set names) → over depth second meaning ≡ Done value names
