-- A list read from its end.
use Rattle.std.proofs.Common.{◌≡◌, ℕ, zero, suc, ◌+◌, List, [], ◌∷◌, ◌++◌, map, length, reverse, take, drop, refl, sym, ◌∙◌, ap, add-one, arith}
use Rattle.std.proofs.lemmas.List.{reverse-append, map-append}

module _ {A : Type 0} where
  some_suc : (n : ℕ) (xs : List A) (y : A) (ys : List A) → drop n xs ≡ y ∷ ys → (take (suc n) xs ≡ take n xs ++ y ∷ []) × (drop (suc n) xs ≡ ys)
  some_suc zero [] y ys e = absurd cc
  some_suc (suc n) [] y ys e = absurd cc
  some_suc zero (x ∷ xs) y ys e = (ap (λ z. z ∷ []) (heads e), tails e)
    where
      heads : x ∷ xs ≡ y ∷ ys → x ≡ y
      heads h = cc

      tails : x ∷ xs ≡ y ∷ ys → xs ≡ ys
      tails h = cc
  some_suc (suc n) (x ∷ xs) y ys e = let h = some_suc n xs y ys e in (ap (λ l. x ∷ l) h.0, h.1)

  none_suc : (n : ℕ) (xs : List A) → drop n xs ≡ [] → (take (suc n) xs ≡ take n xs) × (drop (suc n) xs ≡ [])
  none_suc zero [] e = (refl, refl)
  none_suc (suc n) [] e = (refl, refl)
  none_suc zero (x ∷ xs) e = absurd cc
  none_suc (suc n) (x ∷ xs) e = let h = none_suc n xs e in (ap (λ l. x ∷ l) h.0, h.1)

module _ {A B : Type 0} (f : A → B) (all : List B) (n : ℕ) (parts old new : List A) (taken : map f parts ≡ take n all) (left : map f (reverse old) ≡ drop n all) where
  pub popped_some : (after : List A) (x : A) → old ≡ new ++ x ∷ [] → after ≡ parts ++ x ∷ [] →
      (map f after ≡ take (n + 1) all) × (map f (reverse new) ≡ drop (n + 1) all)
  popped_some after x was is =
      let top : drop n all ≡ f x ∷ map f (reverse new) = sym left ∙ ap (λ l. map f (reverse l)) was ∙ ap (map f) (reverse-append new (x ∷ [])) in
      let h = some_suc n all (f x) (map f (reverse new)) top in
      rw add-one (ap (map f) is ∙ map-append f parts (x ∷ []) ∙ ap (λ l. l ++ f x ∷ []) taken ∙ sym h.0, sym h.1)

  pub popped_none : old ≡ [] → new ≡ [] → (map f parts ≡ take (n + 1) all) × (map f (reverse new) ≡ drop (n + 1) all)
  popped_none was is =
      let h = none_suc n all (sym left ∙ ap (λ l. map f (reverse l)) was) in
      rw add-one (taken ∙ sym h.0, ap (λ l. map f (reverse l)) is ∙ sym h.1)

pub empty_items : {A : Type 0} (xs : List A) → length xs ≡ 0 → xs ≡ []
empty_items [] e = refl
empty_items (x ∷ xs) e = absurd (omega arith)
