-- The keys of rules that are active, as a loop gathers them.
use Rattle.std.proofs.Common.{◌≡◌, ◌≤◌, ◌+◌, ◌++◌, ◌∙◌, ℕ, zero, suc, Bool, true, false, cond, List, [], ◌∷◌, ap, append_assoc, arith, drop, length, refl, sym}
use Rattle.pj_fitting.specs.Right.{Key}
use Rattle.pj_left_cache.specs.Missing.{keys_of_active}

put_key : (b : Bool) (k : Key) (held more rest : List Key) → more ≡ cond b (held ++ k ∷ []) held → more ++ rest ≡ held ++ cond b (k ∷ rest) rest
put_key true k held more rest is = ap (λ (l : List Key). l ++ rest) is ∙ append_assoc held (k ∷ []) rest
put_key false k held more rest is = ap (λ (l : List Key). l ++ rest) is

pub next_key : (keys : List Key) (active : List Bool) (at : ℕ) (k : Key) (a : Bool) (held more all : List Key) → drop at keys ≡ k ∷ drop (at + 1) keys → drop at active ≡ a ∷ drop (at + 1) active
    → more ≡ cond a (held ++ k ∷ []) held → held ++ keys_of_active (drop at keys) (drop at active) ≡ all → more ++ keys_of_active (drop (at + 1) keys) (drop (at + 1) active) ≡ all
next_key keys active at k a held more all left still is so_far =
    put_key a k held more (keys_of_active (drop (at + 1) keys) (drop (at + 1) active)) is
    ∙ (λ i. held ++ keys_of_active (sym left i) (sym still i))
    ∙ so_far

none_active : (keys : List Key) → keys_of_active keys [] ≡ []
none_active [] = refl
none_active (k ∷ ks) = refl

-- behind the last key there is none
pub behind_all : (n : ℕ) (keys : List Key) (active : List Bool) → length keys ≤ n → keys_of_active (drop n keys) (drop n active) ≡ []
behind_all zero [] active past = refl
behind_all (suc n) [] active past = refl
behind_all zero (k ∷ ks) active past = absurd (omega (arith, past))
behind_all (suc n) (k ∷ ks) [] past = none_active (drop n ks)
behind_all (suc n) (k ∷ ks) (a ∷ more) past = behind_all n ks more (omega (arith, past))
