-- Meanings that ask for classes: what a call over an oracle computes, apart from any oracle.
use Rattle.std.specs.Prelude.{ℕ, zero, suc, Bool, true, false, List, [], ◌∷◌, ◌++◌, map, Option, Some, None, nat_eq, if◌then◌else◌}
use Rattle.std.specs.List.{list_any}
use Rattle.std.specs.Cmp.Lexicographic.{pointwise}
use Rattle.pj_names.specs.declared.answer.Answer.{Answer}
use Rattle.pj_names.specs.ClassName.{Name, is_object}

-- A meaning with a value of type A: the value, without asking; or a name to ask, and what follows for each answer; or a
-- recursion that nothing bounds, from what it is where it goes at most so deep. What it means is what it comes to from
-- some depth on (`specs/Meaning.antt`), so no depth is part of a meaning.
pub data Asking (A : Type 0) : Type 0 where
  Return : A → Asking A
  Ask : Name → (Answer → Asking A) → Asking A
  Unbounded : (ℕ → Asking A) → Asking A

-- the value where every name is answered, and recursions go at most so deep
abbrev pub value_of : {A : Type 0} → ℕ → (Name → Answer) → Asking A → A
value_of depth world (Return value) = value
value_of depth world (Ask name rest) = value_of depth world (rest (world name))
value_of depth world (Unbounded recursion) = value_of depth world (recursion depth)

-- the names asked, in the order of asking, where every name is answered, and recursions go at most so deep
abbrev pub names_of : {A : Type 0} → ℕ → (Name → Answer) → Asking A → List Name
names_of depth world (Return value) = []
names_of depth world (Ask name rest) = name ∷ names_of depth world (rest (world name))
names_of depth world (Unbounded recursion) = names_of depth world (recursion depth)

-- one name asked: its answer
abbrev pub ask : Name → Asking Answer
ask name = Ask name (λ answer. Return answer)

-- one meaning after another, which may depend on the first one's value
abbrev pub bind : {A B : Type 0} → Asking A → (A → Asking B) → Asking B
bind (Return value) next = next value
bind (Ask name rest) next = Ask name (λ answer. bind (rest answer) next)
bind (Unbounded recursion) next = Unbounded (λ depth. bind (recursion depth) next)

-- One class looked up: its answer, or nothing for `java.lang.Object`, which is known without asking and of which
-- nothing is looked for.
abbrev pub look_up : Name → Asking (Option Answer)
look_up name = if is_object name then Return None else bind (ask name) (λ answer. Return (Some answer))

-- the values of the meanings of a list's members, in the list's order
abbrev pub each : {A B : Type 0} → (A → Asking B) → List A → Asking (List B)
each meaning [] = Return []
each meaning (x ∷ xs) = bind (meaning x) (λ value. bind (each meaning xs) (λ values. Return (value ∷ values)))

-- a hit, or else what follows
abbrev pub or_else : {A : Type 0} → Option A → Asking (Option A) → Asking (Option A)
or_else (Some hit) rest = Return (Some hit)
or_else None rest = rest

-- the first hit among the members of a list: behind it no more is asked
abbrev pub first_hit : {A B : Type 0} → (A → Asking (Option B)) → List A → Asking (Option B)
first_hit meaning [] = Return None
first_hit meaning (x ∷ xs) = bind (meaning x) (λ hit. or_else hit (first_hit meaning xs))

abbrev pub is_empty : {A : Type 0} → List A → Bool
is_empty [] = true
is_empty (x ∷ xs) = false

-- whether the name is among the names
abbrev pub has_name : List Name → Name → Bool
has_name names name = list_any (λ member. pointwise nat_eq member name) names

-- the items to visit, without those in front whose names were visited
abbrev pub unvisited : {A : Type 0} → (A → Name) → (Name → Bool) → List A → List A
unvisited name_of is_visited [] = []
unvisited name_of is_visited (x ∷ xs) = if is_visited (name_of x) then unvisited name_of is_visited xs else x ∷ xs

-- A recursion with visited names, depth first, over items that have names. It gives a hit, if there is one, and the
-- items that were visited, in their order.
module _ {A B : Type 0} (name_of : A → Name) (test : A → Asking (Option B)) (next : A → Asking (List A)) where
  -- a hit, where the walk stops, or else what follows
  abbrev pub hit_or : Option B → List A → Asking (Option B × List A) → Asking (Option B × List A)
  hit_or (Some hit) found rest = Return (Some hit, found)
  hit_or None found rest = rest

  -- One new item: it is tested, and then those next to it are to be visited before the others.
  abbrev pub visit : (List A → List A → Asking (Option B × List A)) → List A → List A → Asking (Option B × List A)
  visit on found [] = Return (None, found)
  visit on found (x ∷ to_visit) =
      bind (test x) (λ hit. hit_or hit (found ++ x ∷ []) (bind (next x) (λ more. on (found ++ x ∷ []) (more ++ to_visit))))

  -- The walk from what was found and what is to visit, where at most so many new items are visited.
  abbrev pub walk : ℕ → List A → List A → Asking (Option B × List A)
  walk zero found to_visit = Return (None, found)
  walk (suc most) found to_visit =
      visit (λ more_found still. walk most more_found still) found (unvisited name_of (has_name (map name_of found)) to_visit)
