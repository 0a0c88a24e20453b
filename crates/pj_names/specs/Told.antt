-- What an oracle tells, and what a call that asks promises.
use Rattle.std.specs.Borrow.{GName}
use Rattle.std.specs.Prelude.{◌≡◌, ℕ, ◌+◌, ◌-◌, ◌^◌, ◌≤◌, min, Bool, List, [], ◌∷◌, ◌++◌, IsTrue, Option, Some, None, Result, Ok, Err, IsErrOf, IfOk, OnOk, refl}
use Rattle.std.specs.FinSet as set
use Rattle.std.specs.declared.sync.Arc.{Arc}
use Rattle.std.specs.declared.alloc.Global.{Global}
use Rattle.pj_names.specs.declared.answer.Answer.{Answer}
use Rattle.pj_names.specs.declared.oracle.AskFault.{AskFault}
use Rattle.pj_names.specs.declared.oracle.AskFault.TheVariants.{Failed, Memory}
use Rattle.pj_names.specs.ClassName.{Name, NameSet}
use Rattle.pj_names.specs.Asking.{Asking, Return, Ask, Unbounded, value_of}

-- A world answers every name. The needs of a name are the names that asking it asks: just itself, but for an oracle
-- that answers some classes by a meaning of its own, as the oracle of a file does for the classes of the file.
pub record World : Type 0 where
  pub answer : Name → Answer
  pub needs : Name → List Name

-- the needs of some names, one after the other
abbrev pub all_needs : World → List Name → List Name
all_needs w [] = []
all_needs w (n ∷ ns) = w.needs n ++ all_needs w ns

-- Worlds by how deep recursions go: an oracle that answers some classes by a meaning of its own has the answers to which
-- these come. Another one has the same world at each depth.
abbrev pub Worlds : Type 0
Worlds = ℕ → World

-- A depth that a call does not reach: a list has at most 4,294,967,294 members, and a call keeps what it visited in one. What
-- it answers is what is meant from there on; where it would go deeper it wants memory. No meaning has a depth of its own.
pub longest : ℕ
longest = 4294967294

pub longest_is : longest ≡ 4294967294
unfolding longest
longest_is = refl

-- What an oracle over another keeps: something of its own, and of the oracle beneath the reference by which it is held,
-- whether that one tells its world, the world, and what that one keeps.
pub record Over (L K : Type 0) : Type 0 where
  pub own : L
  pub reference : GName
  pub is_told : Bool
  pub world : Worlds
  pub kept : K

-- What an oracle tells: its world, where `is_told` is true; what it keeps in every call; the names that were asked of it;
-- and how often it failed.
pub record Told (K : Type 0) : Type 0 where
  pub is_told : Bool
  pub world : Worlds
  pub kept : K
  pub asked : NameSet
  pub faults : ℕ

-- a set with some more names
abbrev pub with_names : NameSet → List Name → NameSet
with_names names [] = names
with_names names (name ∷ more) = with_names (set.insert names name) more

-- a set of names with those that a meaning asks in a world, where recursions go at most so deep: for each the needs of the
-- name
abbrev pub asked_after : {A : Type 0} → ℕ → World → NameSet → Asking A → NameSet
asked_after depth world names (Return value) = names
asked_after depth world names (Ask name rest) = asked_after depth world (with_names names (world.needs name)) (rest (world.answer name))
asked_after depth world names (Unbounded recursion) = asked_after depth world names (recursion depth)

-- each of the first names is one of the second
pub record IsWithin (first second : NameSet) : Type 0 where
  pub each : (name : Name) → IsTrue (set.contains first name) → IsTrue (set.contains second name)

-- the fact, where the result is not `Failed`
abbrev pub UnlessFailed : {A : Type 0} → Result A AskFault → Type 0 → Type 0
UnlessFailed (Ok value) P = P
UnlessFailed (Err Memory) P = P
UnlessFailed (Err Failed) P = Unit {0}

-- What a call that asks as a meaning says promises, from what its oracle tells before and after it, and its result.
pub record Asks {K A : Type 0} (meaning : Asking A) (old new : Told K) (result : Result A AskFault) : Type 0 where
  -- the oracle stays one of the same world, and keeps what it keeps
  pub same_told : new.is_told ≡ old.is_told
  pub same_world : new.world ≡ old.world
  pub same_kept : new.kept ≡ old.kept
  -- its count of faults never falls, and stays but for a call that answers `Failed`; that answer comes only where it
  -- rose in this call, or stands at its type's end
  pub faults_grow : old.faults ≤ new.faults
  pub faults_stay : UnlessFailed result (new.faults ≡ old.faults)
  pub failed : IsErrOf result Failed → min (old.faults + 1) (2 ^ 64 - 1) ≤ new.faults
  -- the value is the meaning's, and just the names that the meaning asks were asked, however deep recursions go
  pub value_is : IsTrue old.is_told → (depth : ℕ) → longest ≤ depth → IfOk result (λ value. value ≡ value_of depth (old.world depth).answer meaning)
  pub asked_is : IsTrue old.is_told → (depth : ℕ) → longest ≤ depth → OnOk result (new.asked ≡ asked_after depth (old.world depth) old.asked meaning)
  -- also after a refusal no name is forgotten, and none was asked that the meaning does not ask
  pub asked_stays : IsWithin old.asked new.asked
  pub asked_within : IsTrue old.is_told → (depth : ℕ) → longest ≤ depth → IsWithin new.asked (asked_after depth (old.world depth) old.asked meaning)

-- a result, whose value is seen through a function
abbrev pub seen : {A B : Type 0} → (A → B) → Result A AskFault → Result B AskFault
seen view (Ok value) = Ok (view value)
seen view (Err fault) = Err fault

-- the answer behind a shared reference
abbrev pub shared_answer : Arc Answer Global → Answer
shared_answer shared = shared.value

-- the answer behind a shared reference, where there is one
abbrev pub known_answer : Option (Arc Answer Global) → Option Answer
known_answer None = None
known_answer (Some shared) = Some shared.value
