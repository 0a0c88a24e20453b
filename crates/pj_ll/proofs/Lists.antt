-- Elements of lists, and tests.
use Rattle.std.proofs.Common.{◌≡◌, ℕ, zero, suc, ◌+◌, ◌<◌, ◌≤◌, ◌⊎◌, Bool, true, false, List, [], ◌∷◌, ◌++◌, length, take, drop, get_or, Option, Some, None, refl, sym, ◌∙◌, ap, subst, inl, inr, ⊎_elim, arith}
use Rattle.std.specs.Prelude.{slice_get, ◌&&◌, cond}
use Rattle.std.specs.Option.{option_map}
use Rattle.pj_ll.specs.Predictive.{IsIn}

pub some_same : {A : Type 0} {o : Option A} {x y : A} → o ≡ Some x → o ≡ Some y → x ≡ y
some_same p q = cc

pub some_one : {A : Type 0} {x y : A} → Some x ≡ Some y → x ≡ y
some_one e = cc

pub mapped : {A B : Type 0} (f : A → B) (o : Option A) (b : B) → option_map f o ≡ Some b → (a : A) × (o ≡ Some a) × (b ≡ f a)
mapped f None b e = absurd (let z = e in cc)
mapped f (Some a) b e = (a, refl, sym (some_one e))

pub take_push : {A : Type 0} (xs : List A) (i : ℕ) (x : A) → slice_get xs i ≡ Some x → take (i + 1) xs ≡ take i xs ++ x ∷ []
take_push [] i x is = absurd (let z = is in cc)
take_push (y ∷ xs) zero x is = ap (λ z. z ∷ []) (some_one is)
take_push (y ∷ xs) (suc i) x is =
    let e : suc i + 1 ≡ suc (i + 1) = omega arith in
    ap (λ n. take n (y ∷ xs)) e ∙ ap (λ l. y ∷ l) (take_push xs i x is)

-- lists with one more element are the same only where the lists and the elements are
pub same_front : (xs ys : List ℕ) (x y : ℕ) → xs ++ x ∷ [] ≡ ys ++ y ∷ [] → xs ≡ ys
same_front [] [] x y e = refl
same_front [] (b ∷ []) x y e = absurd (let z = e in cc)
same_front [] (b ∷ c ∷ ys) x y e = absurd (let z = e in cc)
same_front (a ∷ []) [] x y e = absurd (let z = e in cc)
same_front (a ∷ c ∷ xs) [] x y e = absurd (let z = e in cc)
same_front (a ∷ xs) (b ∷ ys) x y e =
    let heads : a ≡ b = cc in
    let tails : xs ++ x ∷ [] ≡ ys ++ y ∷ [] = cc in
    let rest = same_front xs ys x y tails in cc

pub same_last : (xs ys : List ℕ) (x y : ℕ) → xs ++ x ∷ [] ≡ ys ++ y ∷ [] → x ≡ y
same_last [] [] x y e = cc
same_last [] (b ∷ []) x y e = absurd (let z = e in cc)
same_last [] (b ∷ c ∷ ys) x y e = absurd (let z = e in cc)
same_last (a ∷ []) [] x y e = absurd (let z = e in cc)
same_last (a ∷ c ∷ xs) [] x y e = absurd (let z = e in cc)
same_last (a ∷ xs) (b ∷ ys) x y e =
    let tails : xs ++ x ∷ [] ≡ ys ++ y ∷ [] = cc in
    same_last xs ys x y tails

pub push_some : (xs : List ℕ) (x : ℕ) → [] ≡ xs ++ x ∷ [] → ⊥
push_some [] x e = let z = e in cc
push_some (y ∷ xs) x e = let z = e in cc

pub bool_cases : (b : Bool) → (b ≡ true) ⊎ (b ≡ false)
bool_cases true = inl refl
bool_cases false = inr refl

pub and_first : (a b : Bool) → (a && b) ≡ true → a ≡ true
and_first true b e = refl
and_first false b e = absurd (let z = e in cc)

pub and_second : (a b : Bool) → (a && b) ≡ true → b ≡ true
and_second true b e = e
and_second false b e = absurd (let z = e in cc)

pub and_both : (a b : Bool) → a ≡ true → b ≡ true → (a && b) ≡ true
and_both a b p q = rw p q

pub in_left : (xs ys : List ℕ) (a : ℕ) → IsIn xs a → IsIn (xs ++ ys) a
in_left [] ys a h = absurd h
in_left (x ∷ xs) ys a (inl e) = inl e
in_left (x ∷ xs) ys a (inr h) = inr (in_left xs ys a h)

pub in_right : (xs ys : List ℕ) (a : ℕ) → IsIn ys a → IsIn (xs ++ ys) a
in_right [] ys a h = h
in_right (x ∷ xs) ys a h = inr (in_right xs ys a h)

pub in_cases : (xs ys : List ℕ) (a : ℕ) → IsIn (xs ++ ys) a → IsIn xs a ⊎ IsIn ys a
in_cases [] ys a h = inr h
in_cases (x ∷ xs) ys a (inl e) = inl (inl e)
in_cases (x ∷ xs) ys a (inr h) = ⊎_elim (λ k. inl (inr k)) (λ k. inr k) (in_cases xs ys a h)

pub in_cond : (b : Bool) (xs : List ℕ) (a : ℕ) → IsIn (cond b xs []) a → (b ≡ true) × IsIn xs a
in_cond true xs a h = (refl, h)
in_cond false xs a h = absurd h

pub cond_in : (b : Bool) (xs : List ℕ) (a : ℕ) → b ≡ true → IsIn xs a → IsIn (cond b xs []) a
cond_in b xs a e h = subst (λ v. IsIn (cond v xs []) a) (sym e) h

-- the elements from the last one read on
pub drop_read : {A : Type 0} (xs : List A) (i : ℕ) (x : A) → i < length xs → x ≡ get_or xs i x → drop i xs ≡ x ∷ drop (i + 1) xs
drop_read [] i x lt is = absurd (omega arith)
drop_read (y ∷ xs) zero x lt is = ap (λ z. z ∷ xs) (sym is)
drop_read (y ∷ xs) (suc i) x lt is =
    let e : suc (i + 1) ≡ suc i + 1 = omega arith in
    drop_read xs i x (omega arith) is ∙ ap (λ n. x ∷ drop n (y ∷ xs)) e

pub take_read : {A : Type 0} (xs : List A) (i : ℕ) (d : A) → i < length xs → take (i + 1) xs ≡ take i xs ++ get_or xs i d ∷ []
take_read [] i d lt = absurd (omega arith)
take_read (y ∷ xs) zero d lt = refl
take_read (y ∷ xs) (suc i) d lt =
    let e : suc i + 1 ≡ suc (i + 1) = omega arith in
    ap (λ n. take n (y ∷ xs)) e ∙ ap (λ l. y ∷ l) (take_read xs i d (omega arith))

pub length_take : {A : Type 0} (k : ℕ) (xs : List A) → k ≤ length xs → length (take k xs) ≡ k
length_take zero xs le = refl
length_take (suc k) [] le = absurd (omega arith)
length_take (suc k) (x ∷ xs) le = let h = length_take k xs (omega arith) in omega arith

pub get_append : {A : Type 0} (xs ys : List A) (k : ℕ) (x : A) → slice_get xs k ≡ Some x → slice_get (xs ++ ys) k ≡ Some x
get_append [] ys k x e = absurd (let z = e in cc)
get_append (y ∷ xs) ys zero x e = e
get_append (y ∷ xs) ys (suc k) x e = get_append xs ys k x e

pub get_push : {A : Type 0} (xs : List A) (y : A) → slice_get (xs ++ y ∷ []) (length xs) ≡ Some y
get_push [] y = refl
get_push (x ∷ xs) y = get_push xs y

pub get_push_cases : {A : Type 0} (xs : List A) (y : A) (k : ℕ) (x : A) → slice_get (xs ++ y ∷ []) k ≡ Some x →
    (slice_get xs k ≡ Some x) ⊎ ((k ≡ length xs) × (y ≡ x))
get_push_cases [] y zero x e = inr (refl, some_one e)
get_push_cases [] y (suc k) x e = absurd (let z = e in cc)
get_push_cases (z ∷ xs) y zero x e = inl e
get_push_cases (z ∷ xs) y (suc k) x e = ⊎_elim (λ h. inl h) (λ h. inr (ap suc h.0, h.1)) (get_push_cases xs y k x e)

pub same_or : (a b : ℕ) → (a ≡ b) ⊎ (a ≡ b → ⊥)
same_or zero zero = inl refl
same_or zero (suc b) = inr (λ e. let z : zero ≡ suc b = e in omega arith)
same_or (suc a) zero = inr (λ e. let z : suc a ≡ zero = e in omega arith)
same_or (suc a) (suc b) = ⊎_elim (λ e. inl (ap suc e)) (λ d. inr (λ e. d (omega arith))) (same_or a b)

pub in_or_not : (xs : List ℕ) (a : ℕ) → IsIn xs a ⊎ (IsIn xs a → ⊥)
in_or_not [] a = inr (λ h. absurd h)
in_or_not (x ∷ xs) a = ⊎_elim
    (λ (e : a ≡ x). inl (inl e))
    (λ (d : a ≡ x → ⊥). ⊎_elim
    (λ (h : IsIn xs a). inl (inr h))
    (λ (n : IsIn xs a → ⊥). inr (λ (h : IsIn (x ∷ xs) a). ⊎_elim d n h))
    (in_or_not xs a))
    (same_or a x)

pub found : {A : Type 0} (xs : List A) (i : ℕ) → i < length xs → (x : A) × (slice_get xs i ≡ Some x)
found [] i lt = absurd (omega arith)
found (x ∷ xs) zero lt = (x, refl)
found (x ∷ xs) (suc i) lt = found xs i (omega arith)

-- the elements that were there before others were put behind them
pub take_back : (old more new : List ℕ) (n : ℕ) → n ≡ length old → new ≡ old ++ more → take n new ≡ old
take_back old more new n count is = ap (λ k. take k new) count ∙ ap (take (length old)) is ∙ front old more
  where
    front : (xs ys : List ℕ) → take (length xs) (xs ++ ys) ≡ xs
    front [] ys = refl
    front (x ∷ xs) ys = ap (λ l. x ∷ l) (front xs ys)
