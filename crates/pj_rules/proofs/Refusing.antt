-- What refusals say.
use Rattle.std.proofs.Common.{◌≡◌, ◌≢◌, ◌∙◌, ℕ, Result, Ok, Err, IfErr, sym, ap₂, subst}
use Rattle.std.specs.Prelude.{IsErrAnd}
use Rattle.std.proofs.lemmas.Result.{err_from_is_err_and}
use Rattle.pj_rule_texts.specs.Values.{Text}
use Rattle.pj_rules.specs.Counts.{CountsFaults}
use Rattle.pj_rules.specs.Refusals.{IfFault, IfOwn}
use Rattle.pj_rules.specs.declared.fault.RuleFault.{RuleFault}
use Rattle.pj_rules.specs.declared.fault.RuleWhat.{RuleWhat}
use Rattle.pj_rules.specs.declared.fault.RuleRefused.{RuleRefused}
use Rattle.pj_rules.specs.declared.fault.RuleRefused.TheVariants.{Rule, TooManyRules, Failed, Memory}

-- a fault by its path and what it is
pub same_fault : (fault : RuleFault) (path : Text) (w : RuleWhat) → fault.path ≡ path → fault.what ≡ w → fault ≡ record { path = path; what = w }
same_fault fault path w p e = ap₂ (λ (q : Text) (v : RuleWhat). made q v) p e
  where
    made : Text → RuleWhat → RuleFault
    made q v = record { path = q; what = v }

pub own_weaker : (r : RuleRefused) (P Q : RuleFault → Type 0) → ((fault : RuleFault) → P fault → Q fault) → IfOwn P r → IfOwn Q r
own_weaker (Rule fault) P Q f h = f fault h
own_weaker (TooManyRules count) P Q f h = h
own_weaker Failed P Q f h = h
own_weaker Memory P Q f h = h

pub fault_weaker : (r : RuleRefused) (P Q : RuleFault → Type 0) → ((fault : RuleFault) → P fault → Q fault) → IfFault P r → IfFault Q r
fault_weaker (Rule fault) P Q f h = f fault h
fault_weaker (TooManyRules count) P Q f h = h
fault_weaker Failed P Q f h = h
fault_weaker Memory P Q f h = h

pub own_fault : (r : RuleRefused) (P Q : RuleFault → Type 0) → ((fault : RuleFault) → P fault → Q fault) → IfOwn P r → IfFault Q r
own_fault (Rule fault) P Q f h = f fault h
own_fault (TooManyRules count) P Q f h = h
own_fault Failed P Q f h = absurd h
own_fault Memory P Q f h = h

-- a call that reads no file raises no count
pub own_counts : (A : Type 0) (r : RuleRefused) (P : RuleFault → Type 0) (old new : ℕ) → new ≡ old → IfOwn P r → CountsFaults {A = A} old new (Err r)
own_counts A (Rule fault) P old new e h = e
own_counts A (TooManyRules count) P old new e h = e
own_counts A Failed P old new e h = absurd h
own_counts A Memory P old new e h = e

-- ---- an exit with a refusal

pub leaves : {A : Type 0} (P : RuleRefused → Type 0) (r : Result A RuleRefused) (refused : RuleRefused) → IsErrAnd r (λ y. y ≡ refused) → P refused → IfErr r P
leaves P r refused e h =
    let exit = err_from_is_err_and r e in subst (λ q. IfErr q P) (sym exit.1) (subst P (sym exit.2) h)

-- a call that reads no file leaves the count
pub own_result : {A : Type 0} (r : Result A RuleRefused) (P : RuleFault → Type 0) (old new : ℕ) → new ≡ old → IfErr r (IfOwn P) → CountsFaults old new r
own_result (Ok value) P old new e h = e
own_result {A} (Err refused) P old new e h = own_counts A refused P old new e h

-- ---- a tree that never fails

-- a refusal that is handed on is no failure of the tree, where it was none
pub stays_steady : {A : Type 0} (r : Result A RuleRefused) (refused : RuleRefused) → IsErrAnd r (λ y. y ≡ refused) → refused ≢ Failed → r ≢ Err Failed
stays_steady (Ok value) refused e n same = absurd e
stays_steady (Err given) refused e n same = let fails : given ≡ Failed = cc in n (sym e ∙ fails)

-- a call that reads no file is no failure of the tree
pub own_steady : (r : RuleRefused) (P : RuleFault → Type 0) → IfOwn P r → r ≢ Failed
own_steady (Rule fault) P h e = absurd (cc)
own_steady (TooManyRules count) P h e = absurd h
own_steady Failed P h e = absurd h
own_steady Memory P h e = absurd (cc)

pub own_result_steady : {A : Type 0} (r : Result A RuleRefused) (P : RuleFault → Type 0) → IfErr r (IfOwn P) → r ≢ Err Failed
own_result_steady (Ok value) P h e = absurd (cc)
own_result_steady (Err refused) P h e = let fails : refused ≡ Failed = cc in own_steady refused P h fails
