-- Tokens before and behind a place, and runs of them.
use Rattle.std.proofs.Common.{ℕ, zero, suc, ◌≡◌, ◌+◌, ◌-◌, ◌<◌, ◌≤◌, Bool, true, false, cond, List, [], ◌∷◌, length, take, drop, map, reverse, get_or, refl, ap, sym, ◌∙◌, arith, add-one}
use Rattle.std.specs.Prelude.{filter}
use Rattle.std.proofs.Math.Seq.{take-suc, drop-cons}
use Rattle.std.proofs.lemmas.List.{map-append, reverse-append, take_all, length-drop}
use Rattle.pj_lex.specs.declared.token.Token.{Token}
use Rattle.pj_grammar.specs.Words.{TokenSeen, seen, is_comment}
use Rattle.pj_properties.specs.Parentheses.{run}

-- ---- the tokens that pass a test, where they are the first ones

none_pass : (q : TokenSeen → Bool) (ts : List Token) → ((k : ℕ) (d : Token) → k < length ts → q (seen (get_or ts k d)) ≡ false) → filter q (map seen ts) ≡ []
none_pass q [] none = refl
none_pass q (t ∷ ts) none =
    ap (λ b. cond b (seen t ∷ filter q (map seen ts)) (filter q (map seen ts))) (none 0 t (omega arith))
    ∙ none_pass q ts (λ k d h. none (suc k) d (omega (arith, h)))

pub first_pass : (q : TokenSeen → Bool) (ts : List Token) (i : ℕ) → ((k : ℕ) (d : Token) → k < i → q (seen (get_or ts k d)) ≡ true)
    → ((k : ℕ) (d : Token) → i ≤ k → k < length ts → q (seen (get_or ts k d)) ≡ false) → filter q (map seen ts) ≡ map seen (take i ts)
first_pass q [] zero passed failed = refl
first_pass q [] (suc i) passed failed = refl
first_pass q (t ∷ ts) zero passed failed = none_pass q (t ∷ ts) (λ k d h. failed k d (omega arith) h)
first_pass q (t ∷ ts) (suc i) passed failed =
    ap (λ b. cond b (seen t ∷ filter q (map seen ts)) (filter q (map seen ts))) (passed 0 t (omega arith))
    ∙ ap (λ (x : List TokenSeen). seen t ∷ x) (first_pass q ts i (λ k d h. passed (suc k) d (omega (arith, h))) (λ k d low high. failed (suc k) d (omega (arith, low)) (omega (arith, high))))

all_pass : (q : TokenSeen → Bool) (ts : List Token) → ((k : ℕ) (d : Token) → k < length ts → q (seen (get_or ts k d)) ≡ true) → filter q (map seen ts) ≡ map seen ts
all_pass q [] all = refl
all_pass q (t ∷ ts) all =
    ap (λ b. cond b (seen t ∷ filter q (map seen ts)) (filter q (map seen ts))) (all 0 t (omega arith))
    ∙ ap (λ (x : List TokenSeen). seen t ∷ x) (all_pass q ts (λ k d h. all (suc k) d (omega (arith, h))))

pub later_pass : (q : TokenSeen → Bool) (ts : List Token) (i : ℕ) → ((k : ℕ) (d : Token) → k < i → q (seen (get_or ts k d)) ≡ false)
    → ((k : ℕ) (d : Token) → i ≤ k → k < length ts → q (seen (get_or ts k d)) ≡ true) → filter q (map seen ts) ≡ map seen (drop i ts)
later_pass q [] zero failed passed = refl
later_pass q [] (suc i) failed passed = refl
later_pass q (t ∷ ts) zero failed passed = all_pass q (t ∷ ts) (λ k d h. passed k d (omega arith) h)
later_pass q (t ∷ ts) (suc i) failed passed =
    ap (λ b. cond b (seen t ∷ filter q (map seen ts)) (filter q (map seen ts))) (failed 0 t (omega arith))
    ∙ later_pass q ts i (λ k d h. failed (suc k) d (omega (arith, h))) (λ k d low high. passed (suc k) d (omega (arith, low)) (omega (arith, high)))

-- ---- one token more

-- from the last token back
pub last_token : (ts : List Token) (i : ℕ) (t : Token) → i < length ts → t ≡ get_or ts i t → reverse (map seen (take (i + 1) ts)) ≡ seen t ∷ reverse (map seen (take i ts))
last_token ts i t h is =
    ap (λ n. reverse (map seen (take n ts))) (add-one i)
    ∙ (ap (λ (x : List Token). reverse (map seen x)) (take-suc ts i t h)
    ∙ (ap reverse (map-append seen (take i ts) (get_or ts i t ∷ []))
    ∙ (reverse-append (map seen (take i ts)) (seen (get_or ts i t) ∷ [])
    ∙ ap (λ (x : Token). seen x ∷ reverse (map seen (take i ts))) (sym is))))

-- from the first token on
pub next_token : (ts : List Token) (i : ℕ) (t : Token) → i < length ts → t ≡ get_or ts i t → map seen (drop i ts) ≡ seen t ∷ map seen (drop (i + 1) ts)
next_token ts i t h is =
    ap (map seen) (drop-cons ts i t h)
    ∙ (ap (λ (x : Token). seen x ∷ map seen (drop (suc i) ts)) (sym is)
    ∙ ap (λ n. seen t ∷ map seen (drop n ts)) (sym (add-one i)))

-- ---- runs

pub run_comment : (p : TokenSeen → Bool) (t : TokenSeen) (ts : List TokenSeen) → is_comment t.kind ≡ true → run p (t ∷ ts) ≡ run p ts
run_comment p t ts is = ap (λ b. cond b (run p ts) (cond (p t) (1 + run p ts) 0)) is

pub run_more : (p : TokenSeen → Bool) (t : TokenSeen) (ts : List TokenSeen) → is_comment t.kind ≡ false → p t ≡ true → run p (t ∷ ts) ≡ 1 + run p ts
run_more p t ts failed passed = ap (λ b. cond b (run p ts) (cond (p t) (1 + run p ts) 0)) failed ∙ ap (λ b. cond b (1 + run p ts) 0) passed

pub run_ends : (p : TokenSeen → Bool) (t : TokenSeen) (ts : List TokenSeen) → is_comment t.kind ≡ false → p t ≡ false → run p (t ∷ ts) ≡ 0
run_ends p t ts failed stop = ap (λ b. cond b (run p ts) (cond (p t) (1 + run p ts) 0)) failed ∙ ap (λ b. cond b (1 + run p ts) 0) stop

-- the rest of a list, as a slice of it
pub rest_is : (ts : List Token) (i : ℕ) → take (length ts - i) (drop i ts) ≡ drop i ts
rest_is ts i = take_all (length ts - i) (drop i ts) (omega (arith, length-drop i ts))
