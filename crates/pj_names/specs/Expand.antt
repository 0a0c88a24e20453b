-- An oracle over another: it answers each name by a meaning over the inner oracle's world, as the oracle of a file
-- answers the classes of the file.
use Rattle.std.specs.Borrow.{GName}
use Rattle.std.specs.Prelude.{ℕ}
use Rattle.pj_names.specs.declared.answer.Answer.{Answer}
use Rattle.pj_names.specs.ClassName.{Name}
use Rattle.pj_names.specs.Asking.{Asking, Return, Ask, Unbounded, bind, value_of, names_of}
use Rattle.pj_names.specs.Told.{World, Over, Told, all_needs}

-- the world in which each name has the value of its meaning, and needs the names of its meaning, where recursions go at
-- most so deep
abbrev pub world_by : (Name → Asking Answer) → ℕ → World → World
world_by meaning_of depth inner = record {
  answer = λ name. value_of depth inner.answer (meaning_of name);
  needs = λ name. all_needs inner (names_of depth inner.answer (meaning_of name));
}

-- what the outer oracle tells, from the reference to the inner one, what it keeps of its own, the meaning of each name by
-- that, and what the inner one tells
abbrev pub tells_by : {L K : Type 0} → GName → L → (L → Name → Asking Answer) → Told K → Told (Over L K)
tells_by reference own meaning_of inner = record {
  is_told = inner.is_told;
  world = λ depth. world_by (meaning_of own) depth (inner.world depth);
  kept = record { own = own; reference = reference; is_told = inner.is_told; world = inner.world; kept = inner.kept };
  asked = inner.asked;
  faults = inner.faults;
}

-- the same meaning over the inner world: in place of each name that it asks stands the meaning of the name
unfoldable pub expand : {A : Type 0} → (Name → Asking Answer) → Asking A → Asking A
expand meaning_of (Return value) = Return value
expand meaning_of (Ask name rest) = bind (meaning_of name) (λ answer. expand meaning_of (rest answer))
expand meaning_of (Unbounded recursion) = Unbounded (λ depth. expand meaning_of (recursion depth))
