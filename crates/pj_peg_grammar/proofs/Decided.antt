-- A test of whether a grammar is well-formed, for a proof by computation.
use Rattle.std.proofs.Common.{◌≡◌, ℕ, zero, suc, ◌+◌, ◌<◌, Bool, true, false, List, [], ◌∷◌, length, Some, refl, ◌∙◌, ap, subst, inl, inr, arith}
use Rattle.std.specs.Prelude.{slice_get, ◌&&◌, ◌||◌, not, nat_lt}
use Rattle.std.proofs.lemmas.Bool.{ltb-true}
use Rattle.pj_peg_grammar.specs.Form.{Form, token, any, rule, nothing, seq, never, choice, star, maybe, ahead, not_ahead}
use Rattle.pj_peg_grammar.specs.WellFormed.{Begins, Reaches, calls, calls_on, IsWellFormed}
use Rattle.pj_peg_grammar.specs.Analysis.{nullable_by, knows_by, repeats_by}
use Rattle.pj_peg_grammar.proofs.Lists.{some_one}
use Rattle.pj_peg_grammar.proofs.Nullable.{nullable_closed}
use Rattle.pj_peg_grammar.proofs.Checking.{known, fed}

-- whether each rule that the form can call where it begins has the property
abbrev pub begins_by : (ℕ → Bool) → (ℕ → Bool) → Form → Bool
begins_by e p (token k) = true
begins_by e p any = true
begins_by e p (rule r) = p r
begins_by e p nothing = true
begins_by e p (seq a b) = begins_by e p a && (not (nullable_by e a) || begins_by e p b)
begins_by e p never = true
begins_by e p (choice a b) = begins_by e p a && begins_by e p b
begins_by e p (star a) = begins_by e p a
begins_by e p (maybe a) = begins_by e p a
begins_by e p (ahead a) = begins_by e p a
begins_by e p (not_ahead a) = begins_by e p a

abbrev pub rule_by : ℕ → (ℕ → Bool) → (ℕ → ℕ) → ℕ → Form → Bool
rule_by n e at r f = (knows_by n f && repeats_by e f) && ((not (nullable_by e f) || e r) && begins_by e (λ s. nat_lt (at s) (at r)) f)

abbrev pub rules_by : ℕ → (ℕ → Bool) → (ℕ → ℕ) → ℕ → List Form → Bool
rules_by n e at r [] = true
rules_by n e at r (f ∷ fs) = rule_by n e at r f && rules_by n e at (r + 1) fs

-- The test of n rules. The hints are the rules that can take nothing, or more of them, and a place for each rule that lies
-- behind the places of those that it can call where it begins.
abbrev pub well_formed_by : ℕ → (ℕ → Bool) → (ℕ → ℕ) → List Form → Bool
well_formed_by n e at rules = rules_by n e at 0 rules

and_first : (a b : Bool) → (a && b) ≡ true → a ≡ true
and_first true b e = refl
and_first false b e = absurd (let z = e in cc)

and_second : (a b : Bool) → (a && b) ≡ true → b ≡ true
and_second true b e = e
and_second false b e = absurd (let z = e in cc)

implies : (a b : Bool) → (not a || b) ≡ true → a ≡ true → b ≡ true
implies true b e h = e
implies false b e h = absurd (let z = h in cc)

plus_none : (i : ℕ) → i ≡ i + 0
plus_none i = omega arith

rule_at : (n : ℕ) (e : ℕ → Bool) (at : ℕ → ℕ) (i : ℕ) (fs : List Form) (k : ℕ) (f : Form) →
    rules_by n e at i fs ≡ true → slice_get fs k ≡ Some f → rule_by n e at (i + k) f ≡ true
rule_at n e at i [] k f t is = absurd (let z = is in cc)
rule_at n e at i (g ∷ fs) zero f t is =
    subst (λ x. rule_by n e at x f ≡ true) (plus_none i) (subst (λ x. rule_by n e at i x ≡ true) (some_one is) (and_first _ _ t))
rule_at n e at i (g ∷ fs) (suc k) f t is =
    let j : (i + 1) + k ≡ i + suc k = omega arith in
    subst (λ x. rule_by n e at x f ≡ true) j (rule_at n e at (i + 1) fs k f (and_second (rule_by n e at i g) _ t) is)

module _ (rules : List Form) (e : ℕ → Bool) (closed : (r : ℕ) (f : Form) → slice_get rules r ≡ Some f → nullable_by e f ≡ true → e r ≡ true) where
  begun : (p : ℕ → Bool) (f : Form) (s : ℕ) → begins_by e p f ≡ true → Begins rules f s → p s ≡ true
  begun p (token k) s t b = absurd b
  begun p any s t b = absurd b
  begun p (rule r) s t b = ap p b ∙ t
  begun p nothing s t b = absurd b
  begun p (seq f g) s t (inl b) = begun p f s (and_first _ _ t) b
  begun p (seq f g) s t (inr b) = begun p g s (implies (nullable_by e f) _ (and_second (begins_by e p f) _ t) (nullable_closed rules e closed b.0)) b.1
  begun p never s t b = absurd b
  begun p (choice f g) s t (inl b) = begun p f s (and_first _ _ t) b
  begun p (choice f g) s t (inr b) = begun p g s (and_second (begins_by e p f) _ t) b
  begun p (star f) s t b = begun p f s t b
  begun p (maybe f) s t b = begun p f s t b
  begun p (ahead f) s t b = begun p f s t b
  begun p (not_ahead f) s t b = begun p f s t b

pub well_formed_from_test : (n : ℕ) (e : ℕ → Bool) (at : ℕ → ℕ) (rules : List Form) → length rules ≡ n → well_formed_by n e at rules ≡ true → IsWellFormed rules
well_formed_from_test n e at rules len t = record {
  none = λ r lt. record {
    no_unknown_rule = λ (f, is, (s, (names, le))). let s_lt = known n f s (first r f is) names in omega arith;
    no_left_recursion = λ x. let lower = falls r r x in omega arith;
    no_empty_repeat = λ (f, is, (p, (repeats, empty))). fed rules e closed f p (second r f is) repeats empty;
  };
}
  where
    row : (r : ℕ) (f : Form) → slice_get rules r ≡ Some f → rule_by n e at r f ≡ true
    row r f is = let z : 0 + r ≡ r = omega arith in subst (λ x. rule_by n e at x f ≡ true) z (rule_at n e at 0 rules r f t is)

    first : (r : ℕ) (f : Form) → slice_get rules r ≡ Some f → knows_by n f ≡ true
    first r f is = and_first _ _ (and_first _ _ (row r f is))

    second : (r : ℕ) (f : Form) → slice_get rules r ≡ Some f → repeats_by e f ≡ true
    second r f is = and_second (knows_by n f) _ (and_first _ _ (row r f is))

    closed : (r : ℕ) (f : Form) → slice_get rules r ≡ Some f → nullable_by e f ≡ true → e r ≡ true
    closed r f is = implies (nullable_by e f) (e r) (and_first _ _ (and_second (knows_by n f && repeats_by e f) _ (row r f is)))

    lower_at : (r s : ℕ) (f : Form) → slice_get rules r ≡ Some f → Begins rules f s → at s < at r
    lower_at r s f is b = ltb-true (at s) (at r) (begun rules e closed (λ x. nat_lt (at x) (at r)) f s
        (and_second (not (nullable_by e f) || e r) _ (and_second (knows_by n f && repeats_by e f) _ (row r f is))) b)

    falls : (r s : ℕ) → Reaches rules r s → at s < at r
    falls r s (calls f is b) = lower_at r s f is b
    falls r s (calls_on {s = q} x y) = let a = falls r q x in let b = falls q s y in omega arith
