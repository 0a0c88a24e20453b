-- What a load says where a call below it refuses.
use Rattle.std.proofs.Common.{◌≡◌, ◌≢◌, ℕ, List, Option, Result, Ok, Err, IfOk, IfSome, refl, sym, subst}
use Rattle.std.specs.Prelude.{IsErrAnd}
use Rattle.pj_outside.specs.Files.{Files}
use Rattle.pj_rule_sets.specs.Rules.{EffectiveRules}
use Rattle.pj_rule_texts.specs.Values.{Text}
use Rattle.pj_rules.specs.Gathering.{IsTooMany}
use Rattle.pj_rules.specs.Load.{AreTops, IsFirstFault, TopRules, effective}
use Rattle.pj_rules.specs.Counts.{CountsFaults}
use Rattle.pj_rules.specs.Outcome.{IsRefused}
use Rattle.pj_rules.specs.Refusals.{IfFault}
use Rattle.pj_rules.specs.declared.fault.RuleRefused.{RuleRefused}
use Rattle.pj_rules.specs.declared.fault.RuleRefused.TheVariants.{Rule, TooManyRules, Failed, Memory}
use Rattle.pj_rules.proofs.Told.{all_told}

-- ---- counts of faults

fault_counts : (A B : Type 0) (r : RuleRefused) (old new : ℕ) → CountsFaults {A = A} old new (Err r) → CountsFaults {A = B} old new (Err r)
fault_counts A B (Rule fault) old new h = h
fault_counts A B (TooManyRules count) old new h = h
fault_counts A B Failed old new h = h
fault_counts A B Memory old new h = h

many_counts : (B : Type 0) (rules : EffectiveRules) (r : RuleRefused) (old new : ℕ) → new ≡ old → IsTooMany rules r → CountsFaults {A = B} old new (Err r)
many_counts B rules (Rule fault) old new e h = absurd h
many_counts B rules (TooManyRules count) old new e h = e
many_counts B rules Failed old new e h = absurd h
many_counts B rules Memory old new e h = e

of_result : {B : Type 0} (result : Result B RuleRefused) (r : RuleRefused) (old new : ℕ) → IsErrAnd result (λ given. given ≡ r) → CountsFaults {A = B} old new (Err r) → CountsFaults old new result
of_result (Ok value) r old new same h = absurd same
of_result {B} (Err given) r old new same h = subst (λ x. CountsFaults {A = B} old new (Err x)) (sym same) h

pub counts_below : (A : Type 0) {B : Type 0} (result : Result B RuleRefused) (r : RuleRefused) (old new : ℕ) → IsErrAnd result (λ given. given ≡ r) → CountsFaults {A = A} old new (Err r) →
    CountsFaults old new result
counts_below A {B} result r old new same h = of_result result r old new same (fault_counts A B r old new h)

pub counts_many : {B : Type 0} (rules : EffectiveRules) (result : Result B RuleRefused) (r : RuleRefused) (old new : ℕ) → IsErrAnd result (λ given. given ≡ r) → new ≡ old → IsTooMany rules r →
    CountsFaults old new result
counts_many {B} rules result r old new same e h = of_result result r old new same (many_counts B rules r old new e h)

-- ---- what files say

not_ok : {B : Type 0} (result : Result B RuleRefused) (r : RuleRefused) (P : B → Type 0) → IsErrAnd result (λ given. given ≡ r) → IfOk result P
not_ok (Ok value) r P same = absurd same
not_ok (Err given) r P same = tt

pub no_rules : {B : Type 0} (o : Option Files) (result : Result B RuleRefused) (r : RuleRefused) (P : Files → B → Type 0) → IsErrAnd result (λ given. given ≡ r) → IfSome o (λ files. IfOk result (P files))
no_rules o result r P same = all_told o (λ files. IfOk result (P files)) (λ files told. not_ok result r (P files) same)

module _ (files : Files) (paths : List Text) (minimum : ℕ) (marker : Text) where
  pub refused_below : (r : RuleRefused) → IfFault (IsFirstFault files paths) r → IsRefused files paths minimum marker r
  refused_below (Rule fault) h = h
  refused_below (TooManyRules count) h = absurd h
  refused_below Failed h = tt
  refused_below Memory h = tt

  pub refused_many : (tops : List TopRules) (r : RuleRefused) → AreTops files paths tops → IsTooMany (effective minimum marker tops) r → IsRefused files paths minimum marker r
  refused_many tops (Rule fault) are h = absurd h
  refused_many tops (TooManyRules count) are h =
      record { rules = effective minimum marker tops; effective_rules = record { tops = tops; are_tops = are; is = refl }; counted = h.0; too_many = h.1 }
  refused_many tops Failed are h = absurd h
  refused_many tops Memory are h = tt

-- ---- a tree that never fails

-- that there are too many rules is no failure of the tree
pub many_steady : (rules : EffectiveRules) (r : RuleRefused) → IsTooMany rules r → r ≢ Failed
many_steady rules (Rule fault) h e = absurd h
many_steady rules (TooManyRules count) h e = absurd (cc)
many_steady rules Failed h e = absurd h
many_steady rules Memory h e = absurd (cc)
