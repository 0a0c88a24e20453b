-- The answer for a name among answers that are kept otherwise.
use Rattle.std.proofs.Common.{◌≡◌, ℕ, Bool, true, false, cond, List, [], ◌∷◌, map, Option, Some, None, refl, sym, ap, ◌∙◌}
use Rattle.std.specs.Prelude.{nat_eq}
use Rattle.std.specs.Cmp.Lexicographic.{pointwise}
use Rattle.pj_names.specs.declared.answer.Answer.{Answer}
use Rattle.pj_names.specs.ClassName.{Name}
use Rattle.pj_names.specs.Meaning.{found_in}
use Rattle.pj_cache.specs.Found.{first_named}
use Rattle.pj_reuse.specs.Same.{is_same_answer}
use Rattle.pj_reuse.specs.Serving.{is_answer, is_kept}

module _ {A : Type 0} (f : A → List ℕ) (g : A → Answer) where
  abbrev pub pairs : List A → List (Name × Answer)
  pairs xs = map (λ (a : A). (f a, g a)) xs

  some_by : (x y : A) (b : Bool) (first : Option A) (rest : Option Answer) → cond b (Some x) first ≡ Some y → (first ≡ Some y → rest ≡ Some (g y)) → cond b (Some (g x)) rest ≡ Some (g y)
  some_by x y true first rest e others = let same : x ≡ y = cc in ap (λ (z : A). Some (g z)) same
  some_by x y false first rest e others = others e

  found_some : (xs : List A) (name : Name) (y : A) → first_named f xs name ≡ Some y → found_in (pairs xs) name ≡ Some (g y)
  found_some [] name y e = absurd cc
  found_some (x ∷ xs) name y e = some_by x y (pointwise nat_eq (f x) name) (first_named f xs name) (found_in (pairs xs) name) e (λ rest. found_some xs name y rest)

  none_by : (x : A) (b : Bool) (first : Option A) (rest : Option Answer) → cond b (Some x) first ≡ None → (first ≡ None → rest ≡ None) → cond b (Some (g x)) rest ≡ None
  none_by x true first rest e others = absurd cc
  none_by x false first rest e others = others e

  found_none : (xs : List A) (name : Name) → first_named f xs name ≡ None → found_in (pairs xs) name ≡ None
  found_none [] name e = refl
  found_none (x ∷ xs) name e = none_by x (pointwise nat_eq (f x) name) (first_named f xs name) (found_in (pairs xs) name) e (λ rest. found_none xs name rest)

  pub absent : (xs : List A) (name : Name) (now : Answer) → first_named f xs name ≡ None → false ≡ is_kept (pairs xs) name now
  absent xs name now e = ap (λ (o : Option Answer). is_answer o now) (sym (found_none xs name e))

  pub present : (xs : List A) (name : Name) (now : Answer) (y : A) → first_named f xs name ≡ Some y → is_same_answer (g y) now ≡ is_kept (pairs xs) name now
  present xs name now y e = ap (λ (o : Option Answer). is_answer o now) (sym (found_some xs name y e))

firsts : {A B C : Type 0} (f : A → B) (g : A → C) (l : List A) → map (λ (p : B × C). p.0) (map (λ (a : A). (f a, g a)) l) ≡ map f l
firsts f g [] = refl
firsts {A} {B} f g (x ∷ xs) = ap (λ (t : List B). f x ∷ t) (firsts f g xs)

-- the names of answers, however these are kept
pub names_seen : {A : Type 0} (f : A → List ℕ) (g : A → Answer) (xs : List A) (answers : List (List ℕ × Answer)) → map (λ (a : A). (f a, g a)) xs ≡ answers → map f xs ≡ map (λ a. a.0) answers
names_seen f g xs answers e = sym (firsts f g xs) ∙ ap (λ (l : List (List ℕ × Answer)). map (λ a. a.0) l) e
