-- A value that is held with the names that its meaning asks, so that it can be given again.
use Rattle.std.specs.Prelude.{◌≡◌, ◌≤◌, ℕ, List, [], ◌∷◌}
use Rattle.pj_names.specs.declared.answer.Answer.{Answer}
use Rattle.pj_names.specs.ClassName.{Name, NameSet, name_set}
use Rattle.pj_names.specs.Asking.{Asking, Return, ask, bind, names_of, value_of}
use Rattle.pj_names.specs.Told.{Worlds, longest}

-- What a meaning gives in the worlds of an oracle, at each depth that a call does not reach: this value, and it asks just the
-- names of this set. A table of held answers keeps this, since its worlds may be those of an oracle over another one. `Means`
-- is for one world, as reports and caches have it.
pub record IsHeld {A : Type 0} (worlds : Worlds) (meaning : Asking A) (value : A) (names : NameSet) : Type 0 where
  pub value_is : (depth : ℕ) → longest ≤ depth → value_of depth (worlds depth).answer meaning ≡ value
  pub names_are : (depth : ℕ) → longest ≤ depth → name_set (names_of depth (worlds depth).answer meaning) ≡ names

-- The worlds answer as this one, however deep recursions go: so it is for each oracle that does not stand over another one.
abbrev pub AreOne : Worlds → (Name → Answer) → Type 0
AreOne worlds world = (depth : ℕ) → longest ≤ depth → (worlds depth).answer ≡ world

-- In these worlds each name needs just itself: so it is for each oracle that does not stand over another one.
abbrev pub NeedThemselves : Worlds → Type 0
NeedThemselves worlds = (depth : ℕ) → longest ≤ depth → (name : Name) → (worlds depth).needs name ≡ name ∷ []

-- the names asked once more, and then the value
abbrev pub again : {A : Type 0} → A → List Name → Asking A
again value [] = Return value
again value (name ∷ names) = bind (ask name) (λ answer. again value names)
