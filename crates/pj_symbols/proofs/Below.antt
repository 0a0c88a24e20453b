-- The classes of the nodes below a number.
use Rattle.std.proofs.Common.{ℕ, zero, suc, ◌≡◌, ◌≢◌, ◌+◌, ◌<◌, ◌≤◌, true, false, List, [], ◌∷◌, ◌++◌, length, Option, None, Some, refl, ap, sym, ◌∙◌, arith, cond, inl, inr, append-nil}
use Rattle.std.proofs.lemmas.Bool.{cases_eq, cases_lt}
use Rattle.std.specs.Option.{option_map, option_map_or}
use Rattle.std.proofs.lemmas.Option.{slice_get_past}
use Rattle.pj_tree.specs.Tree.{Tree, TreeNode}
use Rattle.pj_tree.specs.declared.node.Node.{Node}
use Rattle.pj_symbols.specs.Kinds.{is_class, declares_class}
use Rattle.pj_symbols.specs.Order.{IsRisingFrom}
use Rattle.pj_symbols.specs.Symbols.{class_in, class_of, class_at, one_class, classes_below, FindsClasses}
use Rattle.pj_symbols.specs.declared.class.Class.{Class}
use Rattle.pj_symbols.proofs.Found.{node_numbered, class_other, class_same}

-- ---- where they are found

in_behind : (xs ys : List Class) (n : ℕ) → class_in xs (node_numbered n) ≡ None → class_in (xs ++ ys) (node_numbered n) ≡ class_in ys (node_numbered n)
in_behind [] ys n none = refl
in_behind (x ∷ xs) ys n none = elim (cases_eq x.node.0 n) [
  | inl is ↦ (let found : Some x ≡ None = sym (class_same x xs n is) ∙ none in absurd (cc))
  | inr other ↦ class_other x (xs ++ ys) n other ∙ in_behind xs ys n (sym (class_other x xs n other) ∙ none)
]

in_front : (xs ys : List Class) (n : ℕ) (e : Class) → class_in xs (node_numbered n) ≡ Some e → class_in (xs ++ ys) (node_numbered n) ≡ Some e
in_front [] ys n e some = absurd (cc)
in_front (x ∷ xs) ys n e some = elim (cases_eq x.node.0 n) [
  | inl is ↦ class_same x (xs ++ ys) n is ∙ sym (class_same x xs n is) ∙ some
  | inr other ↦ class_other x (xs ++ ys) n other ∙ in_front xs ys n e (sym (class_other x xs n other) ∙ some)
]

one_other : (t : Tree) (k n : ℕ) → k ≢ n → class_in (one_class (class_at t (node_numbered k))) (node_numbered n) ≡ None
one_other t k n ne = elim (declares_class t (node_numbered k)) as (λ b. class_in (one_class (cond b (Some (class_of t (node_numbered k))) None)) (node_numbered n) ≡ None) [
  | true ↦ class_other (class_of t (node_numbered k)) [] n ne
  | false ↦ refl
]

one_same : (t : Tree) (n : ℕ) → class_in (one_class (class_at t (node_numbered n))) (node_numbered n) ≡ class_at t (node_numbered n)
one_same t n = elim (declares_class t (node_numbered n)) as (λ b. class_in (one_class (cond b (Some (class_of t (node_numbered n))) None)) (node_numbered n) ≡ cond b (Some (class_of t (node_numbered n))) None) [
  | true ↦ class_same (class_of t (node_numbered n)) [] n refl
  | false ↦ refl
]

pub none_from : (t : Tree) (k n : ℕ) → k ≤ n → class_in (classes_below t k) (node_numbered n) ≡ None
none_from t zero n le = refl
none_from t (suc k) n le =
    in_behind (classes_below t k) (one_class (class_at t (node_numbered k))) n (none_from t k n (omega (arith, le)))
    ∙ one_other t k n (λ is. omega (arith, is, le))

-- a class of a node below is found, and no other
pub found_below : (t : Tree) (k n : ℕ) → n < k → class_in (classes_below t k) (node_numbered n) ≡ class_at t (node_numbered n)
found_below t zero n h = absurd (omega (arith, h))
found_below t (suc k) n h = elim (cases_eq k n) [
  | inl is ↦ in_behind (classes_below t k) (one_class (class_at t (node_numbered k))) n (none_from t k n (omega (arith, is)))
      ∙ ap (λ (j : ℕ). class_in (one_class (class_at t (node_numbered j))) (node_numbered n)) is ∙ one_same t n
  | inr other ↦ before other (class_at t (node_numbered n)) (found_below t k n (omega (arith, h, other)))
]
  where
    before : k ≢ n → (o : Option Class) → class_in (classes_below t k) (node_numbered n) ≡ o → class_in (classes_below t (suc k)) (node_numbered n) ≡ o
    before ne None e = in_behind (classes_below t k) (one_class (class_at t (node_numbered k))) n e ∙ one_other t k n ne
    before ne (Some class) e = in_front (classes_below t k) (one_class (class_at t (node_numbered k))) n class e

-- ---- their order

abbrev AreBelow : ℕ → List Class → Type 0
AreBelow n [] = Unit {0}
AreBelow n (e ∷ es) = (e.node.0 < n) × AreBelow n es

below_more : (n m : ℕ) (es : List Class) → n ≤ m → AreBelow n es → AreBelow m es
below_more n m [] le below = tt
below_more n m (e ∷ es) le below = (omega (arith, below.0, le), below_more n m es le below.1)

below_append : (n : ℕ) (xs ys : List Class) → AreBelow n xs → AreBelow n ys → AreBelow n (xs ++ ys)
below_append n [] ys a b = b
below_append n (x ∷ xs) ys a b = (a.0, below_append n xs ys a.1 b)

rising_append : (k n : ℕ) (es : List Class) (e : Class) → IsRisingFrom k es → AreBelow n es → k ≤ n → e.node.0 ≡ n → IsRisingFrom k (es ++ e ∷ [])
rising_append k n [] e rising below le is = (omega (arith, le, is), tt)
rising_append k n (f ∷ es) e rising below le is = (rising.0, rising_append (f.node.0 + 1) n es e rising.1 below.1 (omega (arith, below.0)) is)

one_below : (t : Tree) (k : ℕ) → AreBelow (suc k) (one_class (class_at t (node_numbered k)))
one_below t k = elim (declares_class t (node_numbered k)) as (λ b. AreBelow (suc k) (one_class (cond b (Some (class_of t (node_numbered k))) None))) [
  | true ↦ (omega arith, tt)
  | false ↦ tt
]

are_below : (t : Tree) (k : ℕ) → AreBelow k (classes_below t k)
are_below t zero = tt
are_below t (suc k) = below_append (suc k) (classes_below t k) (one_class (class_at t (node_numbered k))) (below_more k (suc k) (classes_below t k) (omega arith) (are_below t k)) (one_below t k)

pub rise_below : (t : Tree) (k : ℕ) → IsRisingFrom 0 (classes_below t k)
rise_below t zero = tt
rise_below t (suc k) = elim (declares_class t (node_numbered k)) as (λ b. IsRisingFrom 0 (classes_below t k ++ one_class (cond b (Some (class_of t (node_numbered k))) None))) [
  | true ↦ rising_append 0 k (classes_below t k) (class_of t (node_numbered k)) (rise_below t k) (are_below t k) (omega arith) refl
  | false ↦ rw (append-nil (classes_below t k)) (rise_below t k)
]

-- ---- the class around a node, among those before it

pub class_is : (t : Tree) (n : Node) → declares_class t n ≡ true → class_at t n ≡ Some (class_of t n)
class_is t n is = ap (λ b. cond b (Some (class_of t n)) None) is

pub class_none : (t : Tree) (n : Node) → declares_class t n ≡ false → class_at t n ≡ None
class_none t n is = ap (λ b. cond b (Some (class_of t n)) None) is

-- what is found of a class among the classes of the nodes below is that class
pub found_is : (t : Tree) (known : List Class) (k : ℕ) (n : Node) → known ≡ classes_below t k → n.0 < k → declares_class t n ≡ true → class_in known n ≡ Some (class_of t n)
found_is t known k n same below is = ap (λ (cs : List Class). class_in cs n) same ∙ found_below t k n.0 below ∙ class_is t n is

-- ---- all nodes

past_all : (t : Tree) (n : Node) → length t.nodes ≤ n.0 → declares_class t n ≡ false
past_all t n past = ap (λ (o : Option TreeNode). option_map_or is_class (option_map (λ (x : TreeNode). x.kind) o) false) (slice_get_past t.nodes n.0 past)

pub all_found : (t : Tree) → FindsClasses t (classes_below t (length t.nodes))
all_found t n = elim (cases_lt n.0 (length t.nodes)) [
  | inl below ↦ found_below t (length t.nodes) n.0 below
  | inr past ↦ none_from t (length t.nodes) n.0 past ∙ sym (class_none t n (past_all t n past))
]
