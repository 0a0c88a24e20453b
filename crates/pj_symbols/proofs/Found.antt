-- A class is found among classes in the order of their nodes.
use Rattle.std.proofs.Common.{ℕ, zero, suc, ◌≡◌, ◌≢◌, ◌+◌, ◌<◌, ◌≤◌, List, [], ◌∷◌, length, None, Some, refl, ap, ◌∙◌, arith, rules, cond, true, get_or}
use Rattle.std.proofs.Math.Dec.{ltb}
use Rattle.std.specs.List.{slice_get}
use Rattle.std.specs.List.Sorted.{IsNonDecreasingBy}
use Rattle.std.proofs.lemmas.Bool.{eq-eqb, ne_eqb, ltb-true}
use Rattle.pj_tree.specs.declared.node.Node.{Node}
use Rattle.pj_symbols.specs.Order.{IsRisingFrom}
use Rattle.pj_symbols.specs.Symbols.{class_in}
use Rattle.pj_symbols.specs.declared.class.Class.{Class}

abbrev pub node_numbered : ℕ → Node
node_numbered n = record { 0 = n }

-- ---- one class

pub class_other : (e : Class) (es : List Class) (n : ℕ) → e.node.0 ≢ n → class_in (e ∷ es) (node_numbered n) ≡ class_in es (node_numbered n)
class_other e es n ne = ap (λ b. cond b (Some e) (class_in es (node_numbered n))) (ne_eqb e.node.0 n ne)

pub class_same : (e : Class) (es : List Class) (n : ℕ) → e.node.0 ≡ n → class_in (e ∷ es) (node_numbered n) ≡ Some e
class_same e es n is = ap (λ b. cond b (Some e) (class_in es (node_numbered n))) (eq-eqb e.node.0 n is)

-- no class is of a node before the first
none_before : (es : List Class) (k n : ℕ) → IsRisingFrom k es → n < k → class_in es (node_numbered n) ≡ None
none_before [] k n rising before = refl
none_before (e ∷ es) k n rising before =
    class_other e es n (λ is. omega (arith, rising.0, before, is))
    ∙ none_before es (e.node.0 + 1) n rising.1 (omega (arith, rising.0, before))

-- ---- a search

-- the classes before place i are of nodes before n
abbrev AreBefore : List Class → ℕ → ℕ → Type 0
AreBefore es n i = (k : ℕ) (d : Class) → 0 ≤ k → k < i → ltb (get_or es k d).node.0 n ≡ true

before_later : (e : Class) (es : List Class) (n i : ℕ) → AreBefore (e ∷ es) n (suc i) → AreBefore es n i
before_later e es n i before k d low high = before (suc k) d (omega arith) (omega (arith, high))

first_other : (e : Class) (es : List Class) (n i : ℕ) → AreBefore (e ∷ es) n (suc i) → e.node.0 ≢ n
first_other e es n i before is = omega (arith, ltb-true e.node.0 n (before 0 e (omega arith) (omega arith)), is)

-- the class at the place where those of earlier nodes end is the first of its node
pub found_at : (es : List Class) (n i : ℕ) (e : Class) → AreBefore es n i → slice_get es i ≡ Some e → e.node.0 ≡ n → class_in es (node_numbered n) ≡ Some e
found_at [] n zero e before at is = absurd (search (rules, at))
found_at [] n (suc i) e before at is = absurd (search (rules, at))
found_at (f ∷ es) n zero e before at is =
    let same : f ≡ e = search (rules, at) in
    class_same f es n (ap (λ (x : Class). x.node.0) same ∙ is) ∙ ap (λ (x : Class). Some x) same
found_at (f ∷ es) n (suc i) e before at is = class_other f es n (first_other f es n i before) ∙ found_at es n i e (before_later f es n i before) at is

-- where that place has a class of a later node, or none, no class is of the node
pub none_at : (es : List Class) (k n i : ℕ) → IsRisingFrom k es → AreBefore es n i → ((e : Class) → slice_get es i ≡ Some e → n < e.node.0) → class_in es (node_numbered n) ≡ None
none_at [] k n i rising before later = refl
none_at (f ∷ es) k n zero rising before later =
    let behind : n < f.node.0 = later f refl in
    class_other f es n (λ is. omega (arith, behind, is)) ∙ none_before es (f.node.0 + 1) n rising.1 (omega (arith, behind))
none_at (f ∷ es) k n (suc i) rising before later = class_other f es n (first_other f es n i before) ∙ none_at es (f.node.0 + 1) n i rising.1 (before_later f es n i before) later

-- the nodes of classes that rise do not decrease
at_least : (es : List Class) (k i : ℕ) (d : Class) → IsRisingFrom k es → i < length es → k ≤ (get_or es i d).node.0
at_least [] k i d rising h = absurd (omega (arith, h))
at_least (e ∷ es) k zero d rising h = rising.0
at_least (e ∷ es) k (suc i) d rising h = omega (arith, rising.0, at_least es (e.node.0 + 1) i d rising.1 (omega (arith, h)))

pub rising_order : (es : List Class) (k : ℕ) → IsRisingFrom k es → IsNonDecreasingBy (λ (e : Class). e.node.0) es
rising_order [] k rising i j d le h = absurd (omega (arith, h))
rising_order (e ∷ es) k rising zero zero d le h = omega arith
rising_order (e ∷ es) k rising zero (suc j) d le h = omega (arith, at_least es (e.node.0 + 1) j d rising.1 (omega (arith, h)))
rising_order (e ∷ es) k rising (suc i) zero d le h = absurd (omega (arith, le))
rising_order (e ∷ es) k rising (suc i) (suc j) d le h = rising_order es (e.node.0 + 1) rising.1 i j d (omega (arith, le)) (omega (arith, h))
