-- Answers for names, of answers that are kept otherwise.
use Rattle.std.proofs.Common.{◌≡◌, ℕ, ◌+◌, ◌<◌, ◌≤◌, Bool, true, false, cond, List, [], ◌∷◌, ◌++◌, length, map, drop, get_or, Option, Some, refl, sym, ap, ◌∙◌, append_assoc}
use Rattle.std.specs.Prelude.{nat_eq}
use Rattle.std.specs.Option.{option_map}
use Rattle.std.specs.Cmp.Lexicographic.{pointwise}
use Rattle.std.proofs.lemmas.List.{append-nil, drop_all, drop_more}
use Rattle.std.proofs.lemmas.List.Concat.{flat_map-cons}
use Rattle.pj_names.specs.declared.answer.Answer.{Answer}
use Rattle.pj_names.specs.ClassName.{Name}
use Rattle.pj_cache.specs.Found.{first_named}
use Rattle.pj_carry.specs.Carried.{answers_for, listed}

module _ {A B : Type 0} (f : A → List ℕ) (g : B → List ℕ) (see : A → B) (same : (x : A) → g (see x) ≡ f x) where
  seen_by : (b c : Bool) (x : A) (rest : Option B) (others : Option A) → c ≡ b → rest ≡ option_map see others → cond c (Some (see x)) rest ≡ option_map see (cond b (Some x) others)
  seen_by true true x rest others is e = refl
  seen_by false false x rest others is e = e
  seen_by true false x rest others is e = absurd cc
  seen_by false true x rest others is e = absurd cc

  -- the first of a name, however it is kept
  pub first_seen : (xs : List A) (name : List ℕ) → first_named g (map see xs) name ≡ option_map see (first_named f xs name)
  first_seen [] name = refl
  first_seen (x ∷ xs) name =
      seen_by (pointwise nat_eq (f x) name) (pointwise nat_eq (g (see x)) name) x (first_named g (map see xs) name) (first_named f xs name) (ap (λ (l : List ℕ). pointwise nat_eq l name) (same x)) (first_seen xs name)

firsts : {A B C : Type 0} (f : A → B) (g : A → C) (l : List A) → map (λ (p : B × C). p.0) (map (λ (a : A). (f a, g a)) l) ≡ map f l
firsts f g [] = refl
firsts {A} {B} f g (x ∷ xs) = ap (λ (t : List B). f x ∷ t) (firsts f g xs)

-- the names of pairs, however these are kept
pub names_seen : {A C : Type 0} (f : A → List ℕ) (g : A → C) (xs : List A) (pairs : List (List ℕ × C)) → map (λ (a : A). (f a, g a)) xs ≡ pairs → map f xs ≡ map (λ (p : List ℕ × C). p.0) pairs
names_seen {A} {C} f g xs pairs e = sym (firsts f g xs) ∙ ap (λ (l : List (List ℕ × C)). map (λ (p : List ℕ × C). p.0) l) e

-- ---- answers for names, one after the other

abbrev Pair : Type 0
Pair = Name × Answer

abbrev name_in : Pair → Name
name_in a = a.0

module _ (all : List Pair) (names : List Name) where
  -- what is still to come from a place on
  abbrev from : ℕ → List Pair
  from i = answers_for all (drop i names)

  one_more : (i : ℕ) (name : Name) → i < length names → name ≡ get_or names i name → from i ≡ listed (first_named name_in all name) ++ from (i + 1)
  one_more i name lt is =
      let left : drop i names ≡ name ∷ drop (i + 1) names = drop_more names i name lt ∙ ap (λ (n : Name). n ∷ drop (i + 1) names) (sym is) in
      ap (answers_for all) left ∙ flat_map-cons (λ (n : Name). listed (first_named name_in all n)) name (drop (i + 1) names)

  pub answers_step : (i : ℕ) (name : Name) (o : Option Pair) (list new total : List Pair) → i < length names → name ≡ get_or names i name → o ≡ first_named name_in all name → new ≡ list ++ listed o → list ++ from i ≡ total → new ++ from (i + 1) ≡ total
  answers_step i name o list new total lt is found put so_far =
      ap (λ (l : List Pair). l ++ from (i + 1)) (put ∙ ap (λ (p : Option Pair). list ++ listed p) found)
      ∙ append_assoc list (listed (first_named name_in all name)) (from (i + 1))
      ∙ ap (λ (l : List Pair). list ++ l) (sym (one_more i name lt is))
      ∙ so_far

  pub answers_end : (i : ℕ) (list total : List Pair) → length names ≤ i → list ++ from i ≡ total → list ≡ total
  answers_end i list total past so_far =
      sym (append-nil list) ∙ ap (λ (l : List Name). list ++ answers_for all l) (sym (drop_all i names past)) ∙ so_far
