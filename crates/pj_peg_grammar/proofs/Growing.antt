-- A turn that adds kinds to the sets of rules.
use Rattle.std.proofs.Common.{◌≡◌, ℕ, zero, suc, ◌+◌, ◌^◌, ◌<◌, ◌≤◌, Bool, true, false, List, [], ◌∷◌, length, Some, refl, sym, ◌∙◌, subst, ap, ⊎_elim, arith, get_or}
use Rattle.std.specs.Prelude.{slice_get, slice_set}
use Rattle.std.specs.Int.RustNames.{bit_or}
use Rattle.std.proofs.lemmas.Bool.{cases_lt}
use Rattle.std.proofs.lemmas.List.{length-set}
use Rattle.pj_peg_grammar.specs.declared.firsts.Beginning.{Beginning}
use Rattle.pj_peg_grammar.specs.Firsts.{set_at, missing}
use Rattle.pj_peg_grammar.proofs.Lists.{some_same}

-- where a set has more, less is missing
missing_less : (sets : List ℕ) (r set : ℕ) → r < length sets → set_at sets r < set → set < 2 ^ 128 → missing (slice_set sets r set) < missing sets
missing_less [] r set lt more small = absurd (omega arith)
missing_less (s ∷ ss) zero set lt more small = omega arith
missing_less (s ∷ ss) (suc r) set lt more small = let h = missing_less ss r set (omega arith) more small in omega arith

-- the set that was read
pub set_read : (sets : List ℕ) (r set : ℕ) → r < length sets → set ≡ get_or sets r set → set_at sets r ≡ set
set_read [] r set lt is = absurd (omega arith)
set_read (s ∷ ss) zero set lt is = sym is
set_read (s ∷ ss) (suc r) set lt is = set_read ss r set (omega arith) is

pub record IsGrowing (roots : List ℕ) (all : List Beginning) (old now : List ℕ) (added : Bool) (n : ℕ) : Type 0 where
  pub count : length now ≡ length old
  pub same : added ≡ false → now ≡ old
  pub most : missing now ≤ missing old
  pub fewer : added ≡ true → missing now < missing old
  pub closed : added ≡ false → (r k : ℕ) (b : Beginning) → r < n → slice_get roots r ≡ Some k → slice_get all k ≡ Some b → bit_or (set_at old r) b.firsts ≡ set_at old r

pub growing_start : (roots : List ℕ) (all : List Beginning) (old : List ℕ) → IsGrowing roots all old old false 0
growing_start roots all old = record {
  count = refl;
  same = λ e. refl;
  most = omega arith;
  fewer = λ e. absurd (let z = e in cc);
  closed = λ e r k b lt. absurd (omega arith);
}

-- the set of the rule at n has all kinds already
pub growing_skips : (roots : List ℕ) (all : List Beginning) (old now : List ℕ) (added : Bool) (n k : ℕ) (b : Beginning) → IsGrowing roots all old now added n →
    slice_get roots n ≡ Some k → slice_get all k ≡ Some b → bit_or (set_at now n) b.firsts ≡ set_at now n → IsGrowing roots all old now added (n + 1)
growing_skips roots all old now added n k b turn root is none = record {
  count = turn.count;
  same = turn.same;
  most = turn.most;
  fewer = turn.fewer;
  closed = λ e r m c lt at there. ⊎_elim
      (λ (before : r < n). turn.closed e r m c before at there)
      (λ (le : n ≤ r).
      let here : r ≡ n = omega arith in
      let same_root : m ≡ k = some_same at (ap (slice_get roots) here ∙ root) in
      let same_b : c ≡ b = some_same there (ap (slice_get all) same_root ∙ is) in
      let old_is : set_at now n ≡ set_at old n = ap (λ s. set_at s n) (turn.same e) in
      ap (λ x. bit_or (set_at old x) c.firsts) here ∙ ap (λ (x : Beginning). bit_or (set_at old n) x.firsts) same_b ∙ ap (λ x. bit_or x b.firsts) (sym old_is) ∙ none ∙ old_is ∙ ap (set_at old) (sym here))
      (cases_lt r n);
}

-- the set of the rule at n gets more
pub growing_adds : (roots : List ℕ) (all : List Beginning) (old now new : List ℕ) (added : Bool) (n set : ℕ) → IsGrowing roots all old now added n →
    n < length now → set_at now n < set → set < 2 ^ 128 → new ≡ slice_set now n set → IsGrowing roots all old new true (n + 1)
growing_adds roots all old now new added n set turn lt more small is = subst (λ s. IsGrowing roots all old s true (n + 1)) (sym is) (record {
  count = length-set now n set ∙ turn.count;
  same = λ e. absurd (let z = e in cc);
  most = let m = turn.most in let f = missing_less now n set lt more small in omega arith;
  fewer = λ _. let m = turn.most in let f = missing_less now n set lt more small in omega arith;
  closed = λ e. absurd (let z = e in cc);
})
