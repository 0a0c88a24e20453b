-- What asks a part of what a meaning asks: names that are asked before a meaning, of which it asks all, change nothing of what it asks.
use Rattle.std.specs.Prelude.{◌≡◌, ◌+◌, ◌-◌, ◌^◌, ◌≤◌, ℕ, min, List, IsTrue, Result, IsErrOf}
use Rattle.pj_names.specs.declared.oracle.AskFault.{AskFault}
use Rattle.pj_names.specs.declared.oracle.AskFault.TheVariants.{Failed}
use Rattle.pj_names.specs.ClassName.{Name, name_set}
use Rattle.pj_names.specs.Asking.{Asking, names_of}
use Rattle.pj_names.specs.Told.{IsWithin, Told, UnlessFailed, World, Worlds, all_needs, asked_after, longest}

-- the needs of the names of a meaning
abbrev pub needs_of : {A : Type 0} → ℕ → World → Asking A → List Name
needs_of depth world meaning = all_needs world (names_of depth world.answer meaning)

-- one meaning asks nothing that another one does not ask, at each depth that a call does not reach
pub record IsPartOf {A B : Type 0} (worlds : Worlds) (part : Asking A) (whole : Asking B) : Type 0 where
  pub each : (depth : ℕ) → longest ≤ depth → IsWithin (name_set (needs_of depth (worlds depth) part)) (name_set (needs_of depth (worlds depth) whole))

-- a call that asks nothing that a meaning does not ask
pub record AsksPart {K A B : Type 0} (whole : Asking A) (old new : Told K) (result : Result B AskFault) : Type 0 where
  pub same_told : new.is_told ≡ old.is_told
  pub same_world : new.world ≡ old.world
  pub same_kept : new.kept ≡ old.kept
  pub faults_grow : old.faults ≤ new.faults
  pub faults_stay : UnlessFailed result (new.faults ≡ old.faults)
  pub failed : IsErrOf result Failed → min (old.faults + 1) (2 ^ 64 - 1) ≤ new.faults
  pub asked_stays : IsWithin old.asked new.asked
  pub asked_within : IsTrue old.is_told → (depth : ℕ) → longest ≤ depth → IsWithin new.asked (asked_after depth (old.world depth) old.asked whole)
