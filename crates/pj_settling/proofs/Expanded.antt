-- A meaning in which meanings of their own stand in the places of names comes to something, where these do, and where it does over the world that they come to.
use Rattle.std.specs.Prelude.{◌≡◌, ◌≤◌, ◌+◌, ℕ, Bool, true, false, ◌||◌, IsTrue, List, [], ◌∷◌, ◌++◌, refl}
use Rattle.std.proofs.Common.{sym, ◌∙◌, ap, subst, arith}
use Rattle.std.specs.FinSet as set
use Rattle.std.specs.Ordering.{eq_by_cmp, nat_cmp}
use Rattle.std.specs.Cmp.Lexicographic.{slice_cmp}
use Rattle.pj_names.specs.declared.answer.Answer.{Answer}
use Rattle.pj_names.specs.Asking.{Asking, Return, Ask, Unbounded, bind, names_of, value_of}
use Rattle.pj_names.specs.ClassName.{Name, name_set}
use Rattle.pj_names.specs.Expand.{expand}
use Rattle.pj_names.specs.Told as told
use Rattle.pj_names.specs.Told.{all_needs}
use Rattle.pj_names.proofs.MeaningLaws.{names_of-bind, value_of-bind}
use Rattle.pj_names.proofs.NameLists.{alike, is_in, itself, name_set-append, needs-alike, or_left, or_right, same_name, with_names-empty}
use Rattle.pj_settling.specs.Settling.{Settles, World}
use Rattle.pj_settling.proofs.Comes.{Comes, always, comes_settled, settled_comes}

from_or : (a b : Bool) {P : Type 0} → (IsTrue a → P) → (IsTrue b → P) → IsTrue (a || b) → P
from_or true b f g h = f refl
from_or false b f g h = g h

-- all numbers of some names together
abbrev total : (Name → ℕ) → List Name → ℕ
total number [] = 0
total number (name ∷ names) = number name + total number names

number_within : (number : Name → ℕ) (names : List Name) (name : Name) → IsTrue (is_in names name) → number name ≤ total number names
number_within number [] name here = absurd (cc)
number_within number (first ∷ rest) name here =
    from_or (eq_by_cmp (slice_cmp nat_cmp) name first) (is_in rest name)
    (λ tied. let is : number name ≡ number first = ap number (same_name name first tied) in omega (arith, is))
    (λ later. omega (arith, number_within number rest name later)) here

module _ (world : World) (answer_of : Name → Asking Answer) (answers : (name : Name) → Settles world (answer_of name)) where
  -- the world that they come to
  abbrev pub outer : World
  outer name = (answers name).value

  abbrev comes_to : (name : Name) → Comes world (always (answer_of name)) (outer name)
  comes_to name = comes_settled world (answer_of name) (answers name)

  abbrev least_of : Name → ℕ
  least_of name = (comes_to name).least

  -- with the names that they ask
  abbrev outer_world : told.World
  outer_world = record { answer = outer; needs = λ name. (comes_to name).names }

  -- the depth is no less than those from which on the answers of some names are what they come to
  abbrev IsFar : ℕ → List Name → Type 0
  IsFar depth names = (name : Name) → IsTrue (is_in names name) → least_of name ≤ depth

  value_is : {A : Type 0} (depth : ℕ) (m : Asking A) → IsFar depth (names_of depth outer m) → value_of depth world (expand answer_of m) ≡ value_of depth outer m
  unfolding expand
  value_is depth (Return value) far = refl
  value_is depth (Ask name rest) far =
      let near : least_of name ≤ depth = far name (or_left (eq_by_cmp (slice_cmp nat_cmp) name name) (is_in (names_of depth outer (rest (outer name))) name) (itself name)) in
      value_of-bind depth world (answer_of name) (λ answer. expand answer_of (rest answer))
      ∙ ap (λ answer. value_of depth world (expand answer_of (rest answer))) ((comes_to name).is depth depth depth near near near).0
      ∙ value_is depth (rest (outer name)) (λ other here. far other (or_right (eq_by_cmp (slice_cmp nat_cmp) other name) (is_in (names_of depth outer (rest (outer name))) other) here))
  value_is depth (Unbounded recursion) far = value_is depth (recursion depth) far

  names_are : {A : Type 0} (depth : ℕ) (m : Asking A) → IsFar depth (names_of depth outer m) → name_set (names_of depth world (expand answer_of m)) ≡ name_set (all_needs outer_world (names_of depth outer m))
  unfolding expand
  names_are depth (Return value) far = refl
  names_are depth (Ask name rest) far =
      let near : least_of name ≤ depth = far name (or_left (eq_by_cmp (slice_cmp nat_cmp) name name) (is_in (names_of depth outer (rest (outer name))) name) (itself name)) in
      let comes = (comes_to name).is depth depth depth near near near in
      ap (λ l. name_set l) (names_of-bind depth world (answer_of name) (λ answer. expand answer_of (rest answer)))
      ∙ ap (λ answer. name_set (names_of depth world (answer_of name) ++ names_of depth world (expand answer_of (rest answer)))) comes.0
      ∙ name_set-append (names_of depth world (answer_of name)) (names_of depth world (expand answer_of (rest (outer name)))) (comes_to name).names (all_needs outer_world (names_of depth outer (rest (outer name))))
      comes.1 (names_are depth (rest (outer name)) (λ other here. far other (or_right (eq_by_cmp (slice_cmp nat_cmp) other name) (is_in (names_of depth outer (rest (outer name))) other) here)))
  names_are depth (Unbounded recursion) far = names_are depth (recursion depth) far

  same_needs : (xs ys : List Name) → name_set xs ≡ name_set ys → name_set (all_needs outer_world xs) ≡ name_set (all_needs outer_world ys)
  same_needs xs ys is = sym (with_names-empty (all_needs outer_world xs)) ∙ sym (needs-alike outer_world set.empty xs ys is) ∙ with_names-empty (all_needs outer_world ys)

  expanded_comes : {A : Type 0} (m : Asking A) (value : A) → Comes outer (always m) value → Comes world (always (expand answer_of m)) value
  expanded_comes m value comes = record {
    names = all_needs outer_world comes.names;
    least = comes.least + total least_of comes.names;
    is = λ depth most deep a b c. at depth (omega (arith, a)) (comes.is depth depth depth (omega (arith, a)) (omega (arith, a)) (omega (arith, a)));
  }
    where
      at : (depth : ℕ) → total least_of comes.names ≤ depth → (value_of depth outer m ≡ value) × (name_set (names_of depth outer m) ≡ name_set comes.names)
          → (value_of depth world (expand answer_of m) ≡ value) × (name_set (names_of depth world (expand answer_of m)) ≡ name_set (all_needs outer_world comes.names))
      at depth enough is =
          let far : IsFar depth (names_of depth outer m) =
          λ name here. omega (arith, enough, number_within least_of comes.names name (subst (λ b. IsTrue b) (alike (names_of depth outer m) comes.names is.1 name) here)) in
          (value_is depth m far ∙ is.0, names_are depth m far ∙ same_needs (names_of depth outer m) comes.names is.1)

  pub expanded : {A : Type 0} {m : Asking A} → Settles outer m → Settles world (expand answer_of m)
  expanded {m = m} settled = settled_comes world (expand answer_of m) settled.value (expanded_comes m settled.value (comes_settled outer m settled))
