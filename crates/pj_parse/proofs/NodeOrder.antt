-- Where the nodes of parts stand that stand in order themselves.
use Rattle.std.proofs.Common.{◌≡◌, ℕ, zero, suc, ◌+◌, ◌-◌, ◌<◌, ◌≤◌, ◌⊎◌, inl, inr, Option, Some, List, [], ◌∷◌, ◌++◌, length, slice_get, refl, sym, ◌∙◌, ap, subst, arith}
use Rattle.pj_tree.specs.Nested.{Parts, NoMore, Token, Child, preorder, tokens_of, node_count}
use Rattle.pj_tree.specs.Tree.{TreeNode}
use Rattle.pj_tree.specs.declared.kind.Kind.{Kind}
use Rattle.pj_tree.specs.declared.node.Node.{Node}
use Rattle.pj_tree.proofs.NestedLaws.{length-preorder}
use Rattle.pj_shape.specs.InOrder.{StandInOrder}

abbrev pub numbered : ℕ → Node
numbered n = record { 0 = n }

abbrev pub written : Kind → Option Node → ℕ → ℕ → Parts → TreeNode
written kind parent from to inside = record { kind = kind; parent = parent; span = record { from = from; to = to }; own = tokens_of inside }

-- the parts of a node `parent`, the first of whose nodes has the number `number`, have this node of the number n, whose parts are `inside`
abbrev pub Has : Option Node → ℕ → Parts → ℕ → TreeNode → Parts → Type 0
Has parent number NoMore n x inside = ⊥
Has parent number (Token token rest) n x inside = Has parent number rest n x inside
Has parent number (Child kind from within to rest) n x inside =
    ((n ≡ number) × (x ≡ written kind parent from to within) × (inside ≡ within))
    ⊎ (Has (Some (numbered number)) (number + 1) within n x inside ⊎ Has parent (number + 1 + node_count within) rest n x inside)

-- ---- by their numbers

get-append_left : (xs ys : List TreeNode) (k : ℕ) → k < length xs → slice_get (xs ++ ys) k ≡ slice_get xs k
get-append_left [] ys k h = absurd (omega (arith, h))
get-append_left (x ∷ xs) ys zero h = refl
get-append_left (x ∷ xs) ys (suc k) h = get-append_left xs ys k (omega (arith, h))

get-append_right : (xs ys : List TreeNode) (k : ℕ) → length xs ≤ k → slice_get (xs ++ ys) k ≡ slice_get ys (k - length xs)
get-append_right [] ys k h = let e : k ≡ k - 0 = omega arith in ap (slice_get ys) e
get-append_right (x ∷ xs) ys zero h = absurd (omega (arith, h))
get-append_right (x ∷ xs) ys (suc k) h = get-append_right xs ys k (omega (arith, h)) ∙ ap (slice_get ys) (let e : k - length xs ≡ suc k - suc (length xs) = omega arith in e)

decide_lt : (a b : ℕ) → (a < b) ⊎ (b ≤ a)
decide_lt zero zero = inr (omega arith)
decide_lt zero (suc b) = inl (omega arith)
decide_lt (suc a) zero = inr (omega arith)
decide_lt (suc a) (suc b) = elim (decide_lt a b) [ inl h ↦ inl (omega arith) | inr h ↦ inr (omega arith) ]

abbrev Found : Option Node → ℕ → Parts → ℕ → TreeNode → Type 0
Found parent number parts n x = (inside : Parts) × Has parent number parts n x inside

pub has_at : (parent : Option Node) (number : ℕ) (parts : Parts) (k : ℕ) (x : TreeNode) → slice_get (preorder parent number parts) k ≡ Some x → Found parent number parts (number + k) x
has_at parent number NoMore zero x is = absurd (cc)
has_at parent number NoMore (suc k) x is = absurd (cc)
has_at parent number (Token token rest) k x is = has_at parent number rest k x is
has_at parent number (Child kind from within to rest) zero x is =
    let same : written kind parent from to within ≡ x = cc in
    (within, inl (let e : number + 0 ≡ number = omega arith in e, sym same, refl))
has_at parent number (Child kind from within to rest) (suc k) x is =
    let below : List TreeNode = preorder (Some (numbered number)) (number + 1) within in
    let later : List TreeNode = preorder parent (number + 1 + node_count within) rest in
    elim (decide_lt k (length below)) [
      | inl h ↦
          let r = has_at (Some (numbered number)) (number + 1) within k x (sym (get-append_left below later k h) ∙ is) in
          let e : number + 1 + k ≡ number + suc k = omega arith in
          subst (λ m. Found parent number (Child kind from within to rest) m x) e (r.0, inr (inl r.1))
      | inr h ↦
          let r = has_at parent (number + 1 + node_count within) rest (k - length below) x (sym (get-append_right below later k h) ∙ is) in
          let count = length-preorder (Some (numbered number)) (number + 1) within in
          let e : number + 1 + node_count within + (k - length below) ≡ number + suc k = omega arith in
          subst (λ m. Found parent number (Child kind from within to rest) m x) e (r.0, inr (inr r.1))
    ]

pub low : (parent : Option Node) (number : ℕ) (parts : Parts) (n : ℕ) (x : TreeNode) (inside : Parts) → Has parent number parts n x inside → (number ≤ n) × (n < number + node_count parts)
low parent number NoMore n x inside h = absurd h
low parent number (Token token rest) n x inside h = low parent number rest n x inside h
low parent number (Child kind from within to rest) n x inside (inl h) = (let e = h.0 in omega arith, let e = h.0 in omega arith)
low parent number (Child kind from within to rest) n x inside (inr (inl h)) = let r = low (Some (numbered number)) (number + 1) within n x inside h in (let a = r.0 in omega arith, let b = r.1 in omega arith)
low parent number (Child kind from within to rest) n x inside (inr (inr h)) = let r = low parent (number + 1 + node_count within) rest n x inside h in (let a = r.0 in omega arith, let b = r.1 in omega arith)

pub get_of : (parent : Option Node) (number : ℕ) (parts : Parts) (n : ℕ) (x : TreeNode) (inside : Parts) → Has parent number parts n x inside → slice_get (preorder parent number parts) (n - number) ≡ Some x
get_of parent number NoMore n x inside h = absurd h
get_of parent number (Token token rest) n x inside h = get_of parent number rest n x inside h
get_of parent number (Child kind from within to rest) n x inside (inl h) =
    let e : n - number ≡ 0 = (let a = h.0 in omega arith) in
    ap (slice_get (preorder parent number (Child kind from within to rest))) e ∙ ap (λ (y : TreeNode). Some y) (sym h.1)
get_of parent number (Child kind from within to rest) n x inside (inr (inl h)) =
    let below : List TreeNode = preorder (Some (numbered number)) (number + 1) within in
    let later : List TreeNode = preorder parent (number + 1 + node_count within) rest in
    let r = low (Some (numbered number)) (number + 1) within n x inside h in
    let a = r.0 in let b = r.1 in
    let count = length-preorder (Some (numbered number)) (number + 1) within in
    let e : n - number ≡ suc (n - (number + 1)) = omega arith in
    ap (slice_get (preorder parent number (Child kind from within to rest))) e
    ∙ get-append_left below later (n - (number + 1)) (omega arith)
    ∙ get_of (Some (numbered number)) (number + 1) within n x inside h
get_of parent number (Child kind from within to rest) n x inside (inr (inr h)) =
    let below : List TreeNode = preorder (Some (numbered number)) (number + 1) within in
    let later : List TreeNode = preorder parent (number + 1 + node_count within) rest in
    let r = low parent (number + 1 + node_count within) rest n x inside h in
    let a = r.0 in
    let count = length-preorder (Some (numbered number)) (number + 1) within in
    let e : n - number ≡ suc (n - (number + 1)) = omega arith in
    let f : n - (number + 1) - length below ≡ n - (number + 1 + node_count within) = omega arith in
    ap (slice_get (preorder parent number (Child kind from within to rest))) e
    ∙ get-append_right below later (n - (number + 1)) (omega arith)
    ∙ ap (slice_get later) f
    ∙ get_of parent (number + 1 + node_count within) rest n x inside h

-- ---- where they stand

pub stand_le : (from to : ℕ) (parts : Parts) → StandInOrder from to parts → from ≤ to
stand_le from to NoMore s = s
stand_le from to (Token token rest) s = let a = s.0 in let b = s.1 in let c = stand_le token.to to rest s.2 in omega arith
stand_le from to (Child kind begin within end rest) s = let a = s.0 in let b = stand_le begin end within s.1 in let c = stand_le end to rest s.2 in omega arith

-- a node stands between the offsets, its parts stand in order in it, and its parent is the one that is given, or one among the parts
pub record IsSeated (parent : Option Node) (number from to n : ℕ) (x : TreeNode) (inside : Parts) : Type 0 where
  pub begins : from ≤ x.span.from
  pub ends : x.span.to ≤ to
  pub in_order : StandInOrder x.span.from x.span.to inside
  pub own_are : x.own ≡ tokens_of inside
  pub under : (x.parent ≡ parent) ⊎ ((q : ℕ) × ((x.parent ≡ Some (numbered q)) × (number ≤ q) × (q < n)))

pub seated : (parent : Option Node) (number from to : ℕ) (parts : Parts) (n : ℕ) (x : TreeNode) (inside : Parts) → StandInOrder from to parts → Has parent number parts n x inside → IsSeated parent number from to n x inside
seated parent number from to NoMore n x inside s h = absurd h
seated parent number from to (Token token rest) n x inside s h =
    let r = seated parent number token.to to rest n x inside s.2 h in
    let a = s.0 in let b = s.1 in let c = r.begins in
    record { begins = omega arith; ends = r.ends; in_order = r.in_order; own_are = r.own_are; under = r.under }
seated parent number from to (Child kind begin within end rest) n x inside s (inl h) =
    let y : TreeNode = written kind parent begin end within in
    let b = stand_le end to rest s.2 in
    let here : IsSeated parent number from to n y within = record { begins = s.0; ends = b; in_order = s.1; own_are = refl; under = inl refl } in
    subst (λ (z : TreeNode). IsSeated parent number from to n z inside) (sym h.1) (subst (λ (p : Parts). IsSeated parent number from to n y p) (sym h.2) here)
seated parent number from to (Child kind begin within end rest) n x inside s (inr (inl h)) =
    let r = seated (Some (numbered number)) (number + 1) begin end within n x inside s.1 h in
    let l = low (Some (numbered number)) (number + 1) within n x inside h in
    let a = s.0 in let b = stand_le end to rest s.2 in let c = r.begins in let d = r.ends in let f = l.0 in
    record {
      begins = omega arith;
      ends = omega arith;
      in_order = r.in_order;
      own_are = r.own_are;
      under = elim r.under [
        | inl e ↦ inr (number, (e, (let z : number ≤ number = omega arith in z), omega arith))
        | inr (q, u) ↦ inr (q, (u.0, (let z = u.1 in omega arith), u.2))
      ];
    }
seated parent number from to (Child kind begin within end rest) n x inside s (inr (inr h)) =
    let r = seated parent (number + 1 + node_count within) end to rest n x inside s.2 h in
    let a = s.0 in let b = stand_le begin end within s.1 in let c = r.begins in
    record {
      begins = omega arith;
      ends = r.ends;
      in_order = r.in_order;
      own_are = r.own_are;
      under = elim r.under [ inl e ↦ inl e | inr (q, u) ↦ inr (q, (u.0, (let z = u.1 in omega arith), u.2)) ];
    }

-- ---- two nodes

abbrev IsEarlier : Option Node → ℕ → Type 0
IsEarlier parent number = (q : ℕ) → parent ≡ Some (numbered q) → q < number

same_number : (a b : ℕ) → Some (numbered a) ≡ Some (numbered b) → a ≡ b
same_number a b e = let same : numbered a ≡ numbered b = cc in ap (λ (n : Node). n.0) same

inner_earlier : (number : ℕ) → IsEarlier (Some (numbered number)) (number + 1)
inner_earlier number q e = let same = same_number number q e in omega arith

later_earlier : (parent : Option Node) (number more : ℕ) → number ≤ more → IsEarlier parent number → IsEarlier parent more
later_earlier parent number more le earlier q e = let lt = earlier q e in omega arith

-- where the parent of a node stands
parent_range : (parent : Option Node) (number from to n : ℕ) (x : TreeNode) (inside : Parts) (m : ℕ) → IsEarlier parent number → IsSeated parent number from to n x inside → x.parent ≡ Some (numbered m) → (m < number) ⊎ ((number ≤ m) × (m < n))
parent_range parent number from to n x inside m earlier s e = elim s.under [
  | inl p ↦ inl (earlier m (sym p ∙ e))
  | inr (q, u) ↦ (let same = same_number q m (sym u.0 ∙ e) in let a = u.1 in let b = u.2 in inr (omega arith, omega arith))
]

-- a node stands among the parts of its parent
pub child_in : (parent : Option Node) (number from to : ℕ) (parts : Parts) (n m : ℕ) (x y : TreeNode) (i j : Parts) → StandInOrder from to parts → IsEarlier parent number → Has parent number parts n x i → Has parent number parts m y j →
    y.parent ≡ Some (numbered n) → Has (Some (numbered n)) (n + 1) i m y j
child_in parent number from to NoMore n m x y i j s earlier a b e = absurd a
child_in parent number from to (Token token rest) n m x y i j s earlier a b e = child_in parent number token.to to rest n m x y i j s.2 earlier a b e
child_in parent number from to (Child kind begin within end rest) n m x y i j s earlier (inl a) (inl b) e =
    let lt = earlier n (sym (ap (λ (z : TreeNode). z.parent) b.1) ∙ e) in
    let same = a.0 in
    absurd (omega arith)
child_in parent number from to (Child kind begin within end rest) n m x y i j s earlier (inl a) (inr (inl b)) e =
    subst (λ k. Has (Some (numbered k)) (k + 1) i m y j) (sym a.0) (subst (λ (p : Parts). Has (Some (numbered number)) (number + 1) p m y j) (sym a.2) b)
child_in parent number from to (Child kind begin within end rest) n m x y i j s earlier (inl a) (inr (inr b)) e =
    let more = number + 1 + node_count within in
    let same = a.0 in
    elim (parent_range parent more end to m y j n (later_earlier parent number more (omega arith) earlier) (seated parent more end to rest m y j s.2 b) e) [
      | inl lt ↦
          elim (seated parent more end to rest m y j s.2 b).under [
            | inl p ↦ (let under = earlier n (sym p ∙ e) in absurd (omega arith))
            | inr (q, u) ↦ (let is = same_number q n (sym u.0 ∙ e) in let f = u.1 in absurd (omega arith))
          ]
      | inr le ↦ (let f = le.0 in absurd (omega arith))
    ]
child_in parent number from to (Child kind begin within end rest) n m x y i j s earlier (inr (inl a)) (inl b) e =
    let lt = earlier n (sym (ap (λ (z : TreeNode). z.parent) b.1) ∙ e) in
    let l = (low (Some (numbered number)) (number + 1) within n x i a).0 in
    absurd (omega arith)
child_in parent number from to (Child kind begin within end rest) n m x y i j s earlier (inr (inl a)) (inr (inl b)) e =
    child_in (Some (numbered number)) (number + 1) begin end within n m x y i j s.1 (inner_earlier number) a b e
child_in parent number from to (Child kind begin within end rest) n m x y i j s earlier (inr (inl a)) (inr (inr b)) e =
    let more = number + 1 + node_count within in
    let l = low (Some (numbered number)) (number + 1) within n x i a in
    let above = l.0 in let below = l.1 in
    elim (seated parent more end to rest m y j s.2 b).under [
      | inl p ↦ (let under = earlier n (sym p ∙ e) in absurd (omega arith))
      | inr (q, u) ↦ (let is = same_number q n (sym u.0 ∙ e) in let f = u.1 in absurd (omega arith))
    ]
child_in parent number from to (Child kind begin within end rest) n m x y i j s earlier (inr (inr a)) (inl b) e =
    let lt = earlier n (sym (ap (λ (z : TreeNode). z.parent) b.1) ∙ e) in
    let l = (low parent (number + 1 + node_count within) rest n x i a).0 in
    absurd (omega arith)
child_in parent number from to (Child kind begin within end rest) n m x y i j s earlier (inr (inr a)) (inr (inl b)) e =
    let l = (low parent (number + 1 + node_count within) rest n x i a).0 in
    let below = (low (Some (numbered number)) (number + 1) within m y j b).1 in
    elim (seated (Some (numbered number)) (number + 1) begin end within m y j s.1 b).under [
      | inl p ↦ (let is = same_number number n (sym p ∙ e) in absurd (omega arith))
      | inr (q, u) ↦ (let is = same_number q n (sym u.0 ∙ e) in let f = u.2 in absurd (omega arith))
    ]
child_in parent number from to (Child kind begin within end rest) n m x y i j s earlier (inr (inr a)) (inr (inr b)) e =
    child_in parent (number + 1 + node_count within) end to rest n m x y i j s.2 (later_earlier parent number (number + 1 + node_count within) (omega arith) earlier) a b e

-- of two nodes with one parent the earlier one ends before the later one begins
pub siblings_apart : (parent : Option Node) (number from to : ℕ) (parts : Parts) (n m : ℕ) (x y : TreeNode) (i j : Parts) → StandInOrder from to parts → IsEarlier parent number → Has parent number parts n x i → Has parent number parts m y j →
    n < m → x.parent ≡ y.parent → x.span.to ≤ y.span.from
siblings_apart parent number from to NoMore n m x y i j s earlier a b lt e = absurd a
siblings_apart parent number from to (Token token rest) n m x y i j s earlier a b lt e = siblings_apart parent number token.to to rest n m x y i j s.2 earlier a b lt e
siblings_apart parent number from to (Child kind begin within end rest) n m x y i j s earlier (inl a) (inl b) lt e = let f = a.0 in let g = b.0 in absurd (omega arith)
siblings_apart parent number from to (Child kind begin within end rest) n m x y i j s earlier (inl a) (inr (inl b)) lt e =
    let mine : parent ≡ y.parent = sym (ap (λ (z : TreeNode). z.parent) a.1) ∙ e in
    elim (seated (Some (numbered number)) (number + 1) begin end within m y j s.1 b).under [
      | inl p ↦ (let f = earlier number (mine ∙ p) in absurd (omega arith))
      | inr (q, u) ↦ (let f = earlier q (mine ∙ u.0) in let g = u.1 in absurd (omega arith))
    ]
siblings_apart parent number from to (Child kind begin within end rest) n m x y i j s earlier (inl a) (inr (inr b)) lt e =
    let f : x.span.to ≡ end = ap (λ (z : TreeNode). z.span.to) a.1 in
    let g = (seated parent (number + 1 + node_count within) end to rest m y j s.2 b).begins in
    omega arith
siblings_apart parent number from to (Child kind begin within end rest) n m x y i j s earlier (inr (inl a)) (inl b) lt e =
    let f = (low (Some (numbered number)) (number + 1) within n x i a).0 in let g = b.0 in absurd (omega arith)
siblings_apart parent number from to (Child kind begin within end rest) n m x y i j s earlier (inr (inl a)) (inr (inl b)) lt e =
    siblings_apart (Some (numbered number)) (number + 1) begin end within n m x y i j s.1 (inner_earlier number) a b lt e
siblings_apart parent number from to (Child kind begin within end rest) n m x y i j s earlier (inr (inl a)) (inr (inr b)) lt e =
    let f = (seated (Some (numbered number)) (number + 1) begin end within n x i s.1 a).ends in
    let g = (seated parent (number + 1 + node_count within) end to rest m y j s.2 b).begins in
    omega arith
siblings_apart parent number from to (Child kind begin within end rest) n m x y i j s earlier (inr (inr a)) (inl b) lt e =
    let f = (low parent (number + 1 + node_count within) rest n x i a).0 in let g = b.0 in absurd (omega arith)
siblings_apart parent number from to (Child kind begin within end rest) n m x y i j s earlier (inr (inr a)) (inr (inl b)) lt e =
    let f = (low parent (number + 1 + node_count within) rest n x i a).0 in
    let g = (low (Some (numbered number)) (number + 1) within m y j b).1 in
    absurd (omega arith)
siblings_apart parent number from to (Child kind begin within end rest) n m x y i j s earlier (inr (inr a)) (inr (inr b)) lt e =
    siblings_apart parent (number + 1 + node_count within) end to rest n m x y i j s.2 (later_earlier parent number (number + 1 + node_count within) (omega arith) earlier) a b lt e
