-- Tokens between two places.
use Rattle.std.proofs.Common.{◌≡◌, ℕ, zero, suc, ◌+◌, ◌-◌, ◌<◌, ◌≤◌, List, [], ◌∷◌, drop, take, Some, slice_get, refl, sym, ◌∙◌, ap, arith}
use Rattle.std.specs.Prelude.{slice_range}

pub drop_front : {A : Type 0} (xs : List A) (at : ℕ) (x : A) → slice_get xs at ≡ Some x → drop at xs ≡ x ∷ drop (at + 1) xs
drop_front [] zero x e = absurd cc
drop_front [] (suc at) x e = absurd cc
drop_front (y ∷ ys) zero x e = cc
drop_front (y ∷ ys) (suc at) x e =
    let k : suc at + 1 ≡ suc (at + 1) = omega arith in
    drop_front ys at x e ∙ ap (λ l. x ∷ l) (sym (ap (λ n. drop n (y ∷ ys)) k))

-- a range without tokens
pub range_none : {A : Type 0} (xs : List A) (at end : ℕ) → end ≤ at → slice_range xs at end ≡ []
range_none xs at end le = let e : end - at ≡ 0 = omega arith in ap (λ n. take n (drop at xs)) e ∙ none (drop at xs)
  where
    none : {A : Type 0} (ys : List A) → take 0 ys ≡ []
    none [] = refl
    none (y ∷ ys) = refl

-- its first token
pub range_front : {A : Type 0} (xs : List A) (at end : ℕ) (x : A) → at < end → slice_get xs at ≡ Some x → slice_range xs at end ≡ x ∷ slice_range xs (at + 1) end
range_front xs at end x lt e =
    let k : end - at ≡ suc (end - (at + 1)) = omega arith in
    ap (λ n. take n (drop at xs)) k ∙ ap (take (suc (end - (at + 1)))) (drop_front xs at x e)
