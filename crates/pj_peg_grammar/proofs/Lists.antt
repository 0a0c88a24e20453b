-- Elements of lists by their index.
use Rattle.std.proofs.Common.{◌≡◌, ℕ, zero, suc, ◌<◌, ◌≤◌, ◌⊎◌, List, [], ◌∷◌, ◌++◌, length, Option, Some, None, refl, sym, ◌∙◌, ap, inl, inr, ⊎_elim, arith, get_or}
use Rattle.std.specs.Prelude.{slice_get, slice_set}
use Rattle.std.proofs.lemmas.Option.{slice_get_cases, slice_get-get_or}

pub some_same : {A : Type 0} {o : Option A} {x y : A} → o ≡ Some x → o ≡ Some y → x ≡ y
some_same p q = cc

pub some_one : {A : Type 0} {x y : A} → Some x ≡ Some y → x ≡ y
some_one e = cc

pub append_nil : {A : Type 0} (xs : List A) → xs ≡ xs ++ []
append_nil [] = refl
append_nil (x ∷ xs) = ap (λ l. x ∷ l) (append_nil xs)

pub found : {A : Type 0} (xs : List A) (i : ℕ) → i < length xs → (x : A) × (slice_get xs i ≡ Some x)
found xs i h = ⊎_elim (λ s. (s.0, s.2)) (λ (s : (length xs ≤ i) × (slice_get xs i ≡ None)). let le = s.0 in absurd (omega arith)) ((slice_get_cases xs i).1)

pub get_append : {A : Type 0} (xs ys : List A) (k : ℕ) (x : A) → slice_get xs k ≡ Some x → slice_get (xs ++ ys) k ≡ Some x
get_append [] ys k x e = absurd (let z = e in cc)
get_append (y ∷ xs) ys zero x e = e
get_append (y ∷ xs) ys (suc k) x e = get_append xs ys k x e

pub get_push : {A : Type 0} (xs : List A) (y : A) → slice_get (xs ++ y ∷ []) (length xs) ≡ Some y
get_push [] y = refl
get_push (x ∷ xs) y = get_push xs y

pub get_push_cases : {A : Type 0} (xs : List A) (y : A) (k : ℕ) (x : A) → slice_get (xs ++ y ∷ []) k ≡ Some x →
    (slice_get xs k ≡ Some x) ⊎ ((k ≡ length xs) × (y ≡ x))
get_push_cases [] y zero x e = inr (refl, some_one e)
get_push_cases [] y (suc k) x e = absurd (let z = e in cc)
get_push_cases (z ∷ xs) y zero x e = inl e
get_push_cases (z ∷ xs) y (suc k) x e = ⊎_elim (λ h. inl h) (λ h. inr (ap suc h.0, h.1)) (get_push_cases xs y k x e)

pub set_here : {A : Type 0} (xs : List A) (i : ℕ) (v : A) → i < length xs → slice_get (slice_set xs i v) i ≡ Some v
set_here [] i v lt = absurd (omega arith)
set_here (x ∷ xs) zero v lt = refl
set_here (x ∷ xs) (suc i) v lt = set_here xs i v (omega arith)

pub set_other : {A : Type 0} (xs : List A) (i j : ℕ) (v : A) → (j ≡ i → ⊥) → slice_get (slice_set xs i v) j ≡ slice_get xs j
set_other [] i j v differs = refl
set_other (x ∷ xs) zero zero v differs = absurd (differs refl)
set_other (x ∷ xs) zero (suc j) v differs = refl
set_other (x ∷ xs) (suc i) zero v differs = refl
set_other (x ∷ xs) (suc i) (suc j) v differs = set_other xs i j v (λ e. differs (ap suc e))

-- an element that was read with another default
pub read_at : {A : Type 0} (xs ys : List A) (i : ℕ) (d : A) → ys ≡ xs → i < length xs → get_or ys i d ≡ get_or xs i (get_or ys i d)
read_at xs ys i d is lt = ap (λ l. get_or l i d) is ∙ some_same (slice_get-get_or xs i d lt) (slice_get-get_or xs i (get_or ys i d) lt)

pub read_get : {A : Type 0} (xs ys : List A) (i : ℕ) (d : A) → ys ≡ xs → i < length xs → slice_get xs i ≡ Some (get_or ys i d)
read_get xs ys i d is lt = slice_get-get_or xs i d lt ∙ ap (λ l. Some (get_or l i d)) (sym is)
