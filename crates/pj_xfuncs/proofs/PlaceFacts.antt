-- Places that follow each other are a part of a list.
use Rattle.std.proofs.Common.{◌≡◌, ◌∙◌, ℕ, suc, ◌+◌, ◌-◌, ◌<◌, ◌≤◌, max, ℤ, pos, negsuc, ◌+ℤ◌, Bool, true, false, cond, ◌&&◌, List, [], ◌∷◌, take, drop, refl, sym, ap, ap₂, arith, ltb, leb, zero}
use Rattle.std.specs.Prelude.{int_le, int_lt}
use Rattle.std.proofs.Math.Seq.{drop-nil, take-nil}
use Rattle.std.proofs.lemmas.Bool.Decides.{nat_tests}
use Rattle.std.proofs.lemmas.Int.{ints}
use Rattle.pj_xfuncs.specs.Sequences.{kept_from, at_places, is_from, is_within}
use Rattle.pj_xfuncs.specs.Places.{natural, places_before, places_within}

-- the members at the places that pass a test of numbers
abbrev kept : {A : Type 0} → (ℕ → Bool) → ℕ → List A → List A
kept test place [] = []
kept test place (x ∷ xs) = cond (test place) (x ∷ kept test (suc place) xs) (kept test (suc place) xs)

kept-same : {A : Type 0} (keeps : ℤ → Bool) (test : ℕ → Bool) → ((k : ℕ) → keeps (pos k) ≡ test k) → (n : ℕ) (xs : List A) → kept_from keeps n xs ≡ kept test n xs
kept-same keeps test same n [] = refl
kept-same keeps test same n (x ∷ xs) = ap₂ (λ (b : Bool) (t : List _). cond b (x ∷ t) t) (same n) (kept-same keeps test same (suc n) xs)

le-natural : (s : ℤ) (k : ℕ) → int_le s (pos k) ≡ leb (natural s) k
le-natural (pos n) k = refl
le-natural (negsuc n) k = let least : leb 0 k ≡ true = grind (arith, nat_tests) in sym least

lt-natural : (k : ℕ) (e : ℤ) → int_lt (pos k) e ≡ ltb k (natural e)
lt-natural k (pos n) = refl
lt-natural k (negsuc n) = let least : ltb k 0 ≡ false = grind (arith, nat_tests) in sym least

-- from a place on
kept-from : {A : Type 0} (s n : ℕ) (xs : List A) → kept (λ k. leb s k) n xs ≡ drop (s - n) xs
kept-from s n [] = sym (drop-nil (s - n))
kept-from {A = A} s n (x ∷ xs) = go (kept-from s (suc n) xs) (leb s n) refl
  where
    go : kept (λ k. leb s k) (suc n) xs ≡ drop (s - suc n) xs → (b : Bool) → leb s n ≡ b → cond b (x ∷ kept (λ k. leb s k) (suc n) xs) (kept (λ k. leb s k) (suc n) xs) ≡ drop (s - n) (x ∷ xs)
    go ih true e =
        let le : s ≤ n = grind (arith, nat_tests) in
        let here : s - n ≡ 0 = omega arith in
        let next : s - suc n ≡ 0 = omega arith in
        rw here (ap (λ (t : List A). x ∷ t) (ih ∙ ap (λ (m : ℕ). drop m xs) next))
    go ih false e =
        let lt : n < s = grind (arith, nat_tests) in
        let here : s - n ≡ suc (s - suc n) = omega arith in
        rw here (ih)

-- from a place on, and before another
kept-within : {A : Type 0} (s e n : ℕ) (xs : List A) → kept (λ k. leb s k && ltb k e) n xs ≡ take (e - max s n) (drop (s - n) xs)
kept-within s e n [] = sym (ap (λ t. take (e - max s n) t) (drop-nil (s - n)) ∙ take-nil (e - max s n))
kept-within {A = A} s e n (x ∷ xs) = go (kept-within s e (suc n) xs) (leb s n) (ltb n e) refl refl
  where
    go : kept (λ k. leb s k && ltb k e) (suc n) xs ≡ take (e - max s (suc n)) (drop (s - suc n) xs) → (a b : Bool) → leb s n ≡ a → ltb n e ≡ b → cond (a && b) (x ∷ kept (λ k. leb s k && ltb k e) (suc n) xs) (kept (λ k. leb s k && ltb k e) (suc n) xs) ≡ take (e - max s n) (drop (s - n) (x ∷ xs))
    go ih true true f g =
        let le : s ≤ n = grind (arith, nat_tests) in
        let lt : n < e = grind (arith, nat_tests) in
        let here : s - n ≡ 0 = omega arith in
        let next : s - suc n ≡ 0 = omega arith in
        let more : e - max s n ≡ suc (e - suc n) = omega arith in
        let left : e - max s (suc n) ≡ e - suc n = omega arith in
        rw (more, here) (ap (λ (t : List A). x ∷ t) (ih ∙ ap₂ (λ (p q : ℕ). take p (drop q xs)) left next))
    go ih true false f g =
        let le : s ≤ n = grind (arith, nat_tests) in
        let ge : e ≤ n = grind (arith, nat_tests) in
        let here : e - max s n ≡ 0 = omega arith in
        let next : e - max s (suc n) ≡ 0 = omega arith in
        rw here (ih ∙ ap (λ (p : ℕ). take p (drop (s - suc n) xs)) next)
    go ih false b f g =
        let lt : n < s = grind (arith, nat_tests) in
        let here : s - n ≡ suc (s - suc n) = omega arith in
        let same : e - max s n ≡ e - max s (suc n) = omega arith in
        rw (same, here) (ih)

pub from-places : {A : Type 0} (start : ℤ) (xs : List A) → at_places (is_from start) xs ≡ drop (places_before start) xs
from-places start xs = kept-same (is_from start) (λ k. leb (natural start) k) (le-natural start) 1 xs ∙ kept-from (natural start) 1 xs

-- the number of places
number : (start length : ℤ) → natural (start +ℤ length) - max (natural start) 1 ≡ places_within start length
number (pos zero) length = refl
number (pos (suc a)) (pos b) =
    let later : ltb (suc a) 1 ≡ false = grind (arith, nat_tests) in
    let same : (suc a + b) - max (suc a) 1 ≡ b = omega arith in
    rw later same
number (pos (suc a)) (negsuc b) =
    let later : ltb (suc a) 1 ≡ false = grind (arith, nat_tests) in
    rw later (go (pos (suc a) +ℤ negsuc b) refl)
  where
    go : (z : ℤ) → pos (suc a) +ℤ negsuc b ≡ z → natural z - max (suc a) 1 ≡ 0
    go (pos n) h =
        let small : n ≤ a = omega (arith, ints, h) in
        let same : n - max (suc a) 1 ≡ 0 = omega arith in
        same
    go (negsuc n) h = let same : 0 - max (suc a) 1 ≡ 0 = omega arith in same
number (negsuc a) length = refl

pub within-places : {A : Type 0} (start length : ℤ) (xs : List A) → at_places (is_within start length) xs ≡ take (places_within start length) (drop (places_before start) xs)
within-places start length xs =
    kept-same (is_within start length) (λ k. leb (natural start) k && ltb k (natural (start +ℤ length))) (λ k. ap₂ (λ (a b : Bool). a && b) (le-natural start k) (lt-natural k (start +ℤ length))) 1 xs
    ∙ kept-within (natural start) (natural (start +ℤ length)) 1 xs
    ∙ ap (λ (n : ℕ). take n (drop (natural start - 1) xs)) (number start length)
