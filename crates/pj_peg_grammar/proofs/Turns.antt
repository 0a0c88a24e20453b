-- A turn that adds rules which can take nothing.
use Rattle.std.proofs.Common.{◌≡◌, ℕ, ◌+◌, ◌<◌, ◌≤◌, ◌⊎◌, Bool, true, false, List, length, Option, Some, refl, sym, ◌∙◌, subst, ap, inl, inr, ⊎_elim, arith}
use Rattle.std.specs.Prelude.{slice_get, slice_set}
use Rattle.std.proofs.lemmas.Bool.{cases_lt}
use Rattle.std.proofs.lemmas.List.{length-set}
use Rattle.pj_peg_grammar.specs.Analysis.{is_set, unset, root_bit, AddsRules}
use Rattle.pj_peg_grammar.proofs.Sets.{set_cases, set_fewer}

pub record IsTurn (bits : List Bool) (roots : List ℕ) (old now : List Bool) (added : Bool) (k : ℕ) : Type 0 where
  pub adds : AddsRules bits roots old now
  pub same : added ≡ false → now ≡ old
  pub most : unset now ≤ unset old
  pub fewer : added ≡ true → unset now < unset old
  pub closed : added ≡ false → (r : ℕ) → r < k → root_bit bits roots r ≡ true → is_set old r ≡ true

pub turn_start : (bits : List Bool) (roots : List ℕ) (old : List Bool) → IsTurn bits roots old old false 0
turn_start bits roots old = record {
  adds = record { count = refl; sound = λ r t. inl t };
  same = λ e. refl;
  most = omega arith;
  fewer = λ e. absurd (let z = e in cc);
  closed = λ e r lt. absurd (omega arith);
}

-- the rule at k is not to be added
pub turn_skips : (bits : List Bool) (roots : List ℕ) (old now : List Bool) (added : Bool) (k : ℕ) → IsTurn bits roots old now added k →
    ((root_bit bits roots k ≡ true → ⊥) ⊎ (is_set now k ≡ true)) → IsTurn bits roots old now added (k + 1)
turn_skips bits roots old now added k turn skips = record {
  adds = turn.adds;
  same = turn.same;
  most = turn.most;
  fewer = turn.fewer;
  closed = λ e r lt t. ⊎_elim
      (λ (before : r < k). turn.closed e r before t)
      (λ (le : k ≤ r).
      let here : r ≡ k = omega arith in
      ⊎_elim
      (λ (no : root_bit bits roots k ≡ true → ⊥). absurd (no (subst (λ n. root_bit bits roots n ≡ true) here t)))
      (λ (is : is_set now k ≡ true). ap (is_set old) here ∙ ap (λ set. is_set set k) (sym (turn.same e)) ∙ is)
      skips)
      (cases_lt r k);
}

-- the rule at k is added
pub turn_adds : (bits : List Bool) (roots : List ℕ) (old now new : List Bool) (added : Bool) (k : ℕ) → IsTurn bits roots old now added k →
    root_bit bits roots k ≡ true → is_set now k ≡ false → k < length now → new ≡ slice_set now k true → IsTurn bits roots old new true (k + 1)
turn_adds bits roots old now new added k turn t not_yet lt is = subst (λ set. IsTurn bits roots old set true (k + 1)) (sym is) (record {
  adds = record {
    count = length-set now k true ∙ turn.adds.count;
    sound = λ r e. ⊎_elim
        (λ (h : is_set now r ≡ true). turn.adds.sound r h)
        (λ (h : r ≡ k). inr (ap (root_bit bits roots) h ∙ t))
        (set_cases now k r e);
  };
  same = λ e. absurd (let z = e in cc);
  most = let m = turn.most in let f = set_fewer now k lt not_yet in omega arith;
  fewer = λ _. let m = turn.most in let f = set_fewer now k lt not_yet in omega arith;
  closed = λ e. absurd (let z = e in cc);
})

pub root_is : (bits : List Bool) (roots : List ℕ) (r k : ℕ) (b : Bool) → slice_get roots r ≡ Some k → slice_get bits k ≡ Some b → root_bit bits roots r ≡ b
root_is bits roots r k b at is = of (slice_get roots r) (slice_get bits k) at is
  where
    of : (o : Option ℕ) (p : Option Bool) → slice_get roots r ≡ Some k → slice_get bits k ≡ Some b → root_bit bits roots r ≡ b
    of o p e h = simp (e, h) refl
