-- The nearest of several declarations, whatever their order.
use Rattle.std.proofs.Common.{ℕ, ◌≡◌, ◌<◌, ◌≤◌, ◌⊎◌, Bool, true, false, cond, ◌&&◌, ◌||◌, nat_lt, ◌==◌, List, [], ◌∷◌, filter, Option, None, Some, refl, ap, sym, ◌∙◌, subst, inl, inr, ⊎_elim, arith, true≢false}
use Rattle.std.proofs.lemmas.Bool.{cases_Bool, and_parts, or_parts, ltb-true, ltb-false, eqb-true, eqb-false}
use Rattle.pj_tree.specs.declared.node.Node.{Node}
use Rattle.pj_declared.specs.declared.named.Named.{Named}
use Rattle.pj_declared.specs.declared.nearest.Declared.{Declared}
use Rattle.pj_declared.specs.Nearest.{declared_by, is_nearer, nearer_of, nearest}

-- ---- the order of declarations

-- m is nearer than d, or both are opened by one node, and m stands first or is d
abbrev pub IsUpTo : Declared → Declared → Type 0
IsUpTo d m = (d.opened < m.opened) ⊎ ((d.opened ≡ m.opened) × (m.node.0 ≤ d.node.0))

pub up_to_is : (d m : Declared) → is_nearer d m ≡ false → IsUpTo d m
up_to_is d m is =
    let parts = or_parts (nat_lt m.opened d.opened) (d.opened == m.opened && nat_lt d.node.0 m.node.0) is in
    let le : d.opened ≤ m.opened = ltb-false _ _ parts.0 in
    elim (cases_Bool (d.opened == m.opened)) [
      | inl same ↦ inr (eqb-true _ _ same, ltb-false _ _ (ap (λ b. b && nat_lt d.node.0 m.node.0) (sym same) ∙ parts.1))
      | inr other ↦ (let ne = eqb-false _ _ other in inl (less d.opened m.opened le ne))
    ]
  where
    less : (a b : ℕ) → a ≤ b → (a ≡ b → ⊥) → a < b
    less a b le ne = omega arith

pub up_to_from : (d m : Declared) → IsUpTo d m → is_nearer d m ≡ false
up_to_from d m up = elim (cases_Bool (is_nearer d m)) [
  | inl is ↦ absurd (refuted is)
  | inr is ↦ is
]
  where
    refuted : is_nearer d m ≡ true → ⊥
    refuted is = elim (cases_Bool (nat_lt m.opened d.opened)) [
      | inl lt ↦ (let l : m.opened < d.opened = ltb-true _ _ lt in ⊎_elim (λ a. omega arith) (λ a. omega arith) up)
      | inr ge ↦ (
          let both : (d.opened == m.opened && nat_lt d.node.0 m.node.0) ≡ true = ap (λ b. b || (d.opened == m.opened && nat_lt d.node.0 m.node.0)) (sym ge) ∙ is in
          let parts = and_parts _ _ both in
          let same : d.opened ≡ m.opened = eqb-true _ _ parts.0 in
          let lower : d.node.0 < m.node.0 = ltb-true _ _ parts.1 in
          ⊎_elim (λ a. omega arith) (λ a. omega arith) up)
    ]

pub up_to_itself : (d : Declared) → IsUpTo d d
up_to_itself d = inr (refl, omega arith)

pub up_to_chain : (a b c : Declared) → IsUpTo a b → IsUpTo b c → IsUpTo a c
up_to_chain a b c p q = ⊎_elim
    (λ l. inl (⊎_elim (λ k. omega arith) (λ k. omega arith) q))
    (λ l. ⊎_elim (λ k. inl (omega arith)) (λ k. inr (l.0 ∙ k.0, omega arith)) q) p

node_same : (a b : Node) → a.0 ≡ b.0 → a ≡ b
node_same a b e = ap (λ (k : ℕ). let n : Node = record { 0 = k } in n) e

pub up_to_both : (a b : Declared) → IsUpTo a b → IsUpTo b a → a ≡ b
up_to_both a b p q =
    let opened : a.opened ≡ b.opened = ⊎_elim (λ l. ⊎_elim (λ k. absurd (omega arith)) (λ k. absurd (omega arith)) q) (λ l. l.0) p in
    let node : a.node.0 ≡ b.node.0 = ⊎_elim (λ l. absurd (omega arith)) (λ l. ⊎_elim (λ k. absurd (omega arith)) (λ k. omega arith) q) p in
    λ i. record { node = node_same a.node b.node node i; opened = opened i }

up_to_or : (a b : Declared) → IsUpTo a b ⊎ IsUpTo b a
up_to_or a b = elim (cases_Bool (is_nearer a b)) [
  | inr is ↦ inl (up_to_is a b is)
  | inl is ↦ inr (back is)
]
  where
    back : is_nearer a b ≡ true → IsUpTo b a
    back is = elim (cases_Bool (nat_lt b.opened a.opened)) [
      | inl lt ↦ inl (ltb-true _ _ lt)
      | inr ge ↦ (
          let both : (a.opened == b.opened && nat_lt a.node.0 b.node.0) ≡ true = ap (λ c. c || (a.opened == b.opened && nat_lt a.node.0 b.node.0)) (sym ge) ∙ is in
          let parts = and_parts _ _ both in
          let lower : a.node.0 < b.node.0 = ltb-true _ _ parts.1 in
          inr (sym (eqb-true _ _ parts.0), omega arith))
    ]

-- ---- the nearest of which P holds

abbrev pub IsNearest : (Declared → Type 0) → Option Declared → Type 0
IsNearest P None = (d : Declared) → P d → ⊥
IsNearest P (Some m) = P m × ((d : Declared) → P d → IsUpTo d m)

pub nearest_one : (P : Declared → Type 0) (r s : Option Declared) → IsNearest P r → IsNearest P s → r ≡ s
nearest_one P None None p q = refl
nearest_one P None (Some m) p q = absurd (p m q.0)
nearest_one P (Some m) None p q = absurd (q m p.0)
nearest_one P (Some m) (Some n) p q = ap Some (up_to_both m n (q.1 m p.0) (p.1 n q.0))

pub nearest_same : (P Q : Declared → Type 0) (r : Option Declared) → ((d : Declared) → P d → Q d) → ((d : Declared) → Q d → P d) → IsNearest P r → IsNearest Q r
nearest_same P Q None to from p = λ d q. p d (from d q)
nearest_same P Q (Some m) to from p = (to m p.0, λ d q. p.1 d (from d q))

nearer_is : (P Q : Declared → Type 0) (m n : Declared) (b : Bool) → is_nearer n m ≡ b → IsNearest P (Some m) → IsNearest Q (Some n) → IsNearest (λ d. P d ⊎ Q d) (Some (cond b n m))
nearer_is P Q m n true is p q =
    let below : IsUpTo m n = ⊎_elim (λ l. l) (λ l. absurd (true≢false (sym is ∙ up_to_from n m l))) (up_to_or m n) in
    (inr q.0, λ d. ⊎_elim (λ h. up_to_chain d m n (p.1 d h) below) (λ h. q.1 d h))
nearer_is P Q m n false is p q =
    let below : IsUpTo n m = up_to_is n m is in
    (inl p.0, λ d. ⊎_elim (λ h. p.1 d h) (λ h. up_to_chain d n m (q.1 d h) below))

pub nearest_either : (P Q : Declared → Type 0) (r s : Option Declared) → IsNearest P r → IsNearest Q s → IsNearest (λ d. P d ⊎ Q d) (nearer_of r s)
nearest_either P Q None None p q = λ d. ⊎_elim (p d) (q d)
nearest_either P Q None (Some n) p q = (inr q.0, λ d. ⊎_elim (λ h. absurd (p d h)) (q.1 d))
nearest_either P Q (Some m) None p q = (inl p.0, λ d. ⊎_elim (p.1 d) (λ h. absurd (q d h)))
nearest_either P Q (Some m) (Some n) p q = nearer_is P Q m n (is_nearer n m) refl p q

is_itself : (r : Option Declared) → IsNearest (λ d. r ≡ Some d) r
is_itself None = λ d e. absurd (cc)
is_itself (Some m) = (refl, λ d e. subst (λ x. IsUpTo x m) (inner m d e) (up_to_itself m))
  where
    inner : (a b : Declared) → Some a ≡ Some b → a ≡ b
    inner a b e = cc

-- taking the nearer one is associative
pub nearer_assoc : (r s u : Option Declared) → nearer_of r (nearer_of s u) ≡ nearer_of (nearer_of r s) u
nearer_assoc r s u =
    let P : Declared → Type 0 = λ d. r ≡ Some d in
    let Q : Declared → Type 0 = λ d. s ≡ Some d in
    let R : Declared → Type 0 = λ d. u ≡ Some d in
    let right = nearest_either P (λ d. Q d ⊎ R d) r (nearer_of s u) (is_itself r) (nearest_either Q R s u (is_itself s) (is_itself u)) in
    let left = nearest_either (λ d. P d ⊎ Q d) R (nearer_of r s) u (nearest_either P Q r s (is_itself r) (is_itself s)) (is_itself u) in
    nearest_one (λ d. P d ⊎ (Q d ⊎ R d)) (nearer_of r (nearer_of s u)) (nearer_of (nearer_of r s) u) right (nearest_same (λ d. (P d ⊎ Q d) ⊎ R d) (λ d. P d ⊎ (Q d ⊎ R d)) (nearer_of (nearer_of r s) u)
    (λ d. ⊎_elim (⊎_elim (λ h. inl h) (λ h. inr (inl h))) (λ h. inr (inr h)))
    (λ d. ⊎_elim (λ h. inl (inl h)) (⊎_elim (λ h. inl (inr h)) (λ h. inr h)))
    left)

-- ---- of a list

-- a row of the list that passes the test declares it
abbrev pub IsOf : (Named → Bool) → List Named → Declared → Type 0
IsOf keep [] d = ⊥
IsOf keep (x ∷ xs) d = ((keep x ≡ true) × (declared_by x.scope ≡ d)) ⊎ IsOf keep xs d

one_of : (x : Named) → IsNearest (λ d. declared_by x.scope ≡ d) (Some (declared_by x.scope))
one_of x = (refl, λ d e. subst (λ y. IsUpTo y (declared_by x.scope)) e (up_to_itself (declared_by x.scope)))

with_first : (keep : Named → Bool) (x : Named) (xs : List Named) (b : Bool) → keep x ≡ b → IsNearest (IsOf keep xs) (nearest (filter keep xs)) → IsNearest (IsOf keep (x ∷ xs)) (nearest (cond b (x ∷ filter keep xs) (filter keep xs)))
with_first keep x xs true is rest =
    nearest_same (λ d. (declared_by x.scope ≡ d) ⊎ IsOf keep xs d) (IsOf keep (x ∷ xs)) (nearer_of (Some (declared_by x.scope)) (nearest (filter keep xs)))
    (λ d. ⊎_elim (λ e. inl (is, e)) (λ h. inr h)) (λ d. ⊎_elim (λ e. inl e.1) (λ h. inr h))
    (nearest_either (λ d. declared_by x.scope ≡ d) (IsOf keep xs) (Some (declared_by x.scope)) (nearest (filter keep xs)) (one_of x) rest)
with_first keep x xs false is rest =
    nearest_same (IsOf keep xs) (IsOf keep (x ∷ xs)) (nearest (filter keep xs)) (λ d h. inr h) (λ d. ⊎_elim (λ e. absurd (true≢false (sym e.0 ∙ is))) (λ h. h)) rest

pub nearest_is : (keep : Named → Bool) (xs : List Named) → IsNearest (IsOf keep xs) (nearest (filter keep xs))
nearest_is keep [] = λ d h. h
nearest_is keep (x ∷ xs) = with_first keep x xs (keep x) refl (nearest_is keep xs)
