-- Mentions without a fault, and what is bound behind them.
use Rattle.std.proofs.Common.{◌≡◌, List, [], ◌∷◌, ◌++◌, Option, Some, None, refl, ◌∙◌, ap, subst}
use Rattle.pj_xexpressions.specs.Expressions.{Scope}
use Rattle.pj_xreadings.specs.Mentions.{Mention}
use Rattle.pj_xparse.specs.NameFaults.{Fault, fault_in, scope_behind, earlier, first_fault_from}

-- the variables that are there behind mentions
abbrev pub scope_after : Scope → List Mention → Scope
scope_after s [] = s
scope_after s (m ∷ ms) = scope_after (scope_behind s m) ms

pub after-append : (s : Scope) (ms ns : List Mention) → scope_after s (ms ++ ns) ≡ scope_after (scope_after s ms) ns
after-append s [] ns = refl
after-append s (m ∷ ms) ns = after-append (scope_behind s m) ms ns

-- Nothing is bound behind the mentions that was not before.
pub record AreBalanced (ms : List Mention) : Type 0 where
  pub kept : (s : Scope) → scope_after s ms ≡ s

pub none_balanced : AreBalanced []
none_balanced = record { kept = λ s. refl }

pub both_balanced : {ms ns : List Mention} → AreBalanced ms → AreBalanced ns → AreBalanced (ms ++ ns)
both_balanced {ms} {ns} a b = record { kept = λ s. after-append s ms ns ∙ ap (λ (x : Scope). scope_after x ns) (a.kept s) ∙ b.kept s }

pub one_balanced : {m : Mention} {ms : List Mention} → ((s : Scope) → scope_behind s m ≡ s) → AreBalanced ms → AreBalanced (m ∷ ms)
one_balanced {m} {ms} a b = record { kept = λ s. ap (λ (x : Scope). scope_after x ms) (a s) ∙ b.kept s }

pub earlier_none : (a b : Option Fault) → earlier a b ≡ None → (a ≡ None) × (b ≡ None)
earlier_none None b e = (refl, e)
earlier_none (Some x) b e = absurd (let z = e in cc)

pub first_none : (s : Scope) (m : Mention) (ms : List Mention) → first_fault_from s (m ∷ ms) ≡ None → (fault_in s m ≡ None) × (first_fault_from (scope_behind s m) ms ≡ None)
first_none s m ms e = earlier_none (fault_in s m) (first_fault_from (scope_behind s m) ms) e

-- Where mentions have no fault, the first of them have none, and those behind have none.
pub split_none : (s : Scope) (ms ns : List Mention) → first_fault_from s (ms ++ ns) ≡ None → (first_fault_from s ms ≡ None) × (first_fault_from (scope_after s ms) ns ≡ None)
split_none s [] ns e = (refl, e)
split_none s (m ∷ ms) ns e =
    let (here, more) = first_none s m (ms ++ ns) e in
    let (left, right) = split_none (scope_behind s m) ms ns more in
    (ap (λ (x : Option Fault). earlier x (first_fault_from (scope_behind s m) ms)) here ∙ left, right)

pub both_none : (s : Scope) {ms : List Mention} (ns : List Mention) → AreBalanced ms → first_fault_from s (ms ++ ns) ≡ None → (first_fault_from s ms ≡ None) × (first_fault_from s ns ≡ None)
both_none s {ms} ns balanced e =
    let (left, right) = split_none s ms ns e in
    (left, subst (λ (x : Scope). first_fault_from x ns ≡ None) (balanced.kept s) right)
