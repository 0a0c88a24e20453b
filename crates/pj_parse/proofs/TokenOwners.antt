-- The own tokens of the nodes of parts that stand in order.
use Rattle.std.proofs.Common.{◌≡◌, ℕ, zero, suc, ◌+◌, ◌<◌, ◌≤◌, ◌⊎◌, inl, inr, Option, Some, List, [], ◌∷◌, ◌++◌, length, refl, sym, ◌∙◌, ap, subst, arith}
use Rattle.std.specs.Prelude.{Contains}
use Rattle.pj_tree.specs.Nested.{Parts, NoMore, Token, Child, tokens_of, node_count}
use Rattle.pj_tree.specs.Tree.{TreeNode}
use Rattle.pj_tree.specs.declared.node.Node.{Node}
use Rattle.pj_tree.specs.declared.node.Span.{Span}
use Rattle.pj_shape.specs.InOrder.{StandInOrder, all_tokens}
use Rattle.pj_shape.specs.Words.{AreInOrder, BeginsFrom}
use Rattle.pj_parse.proofs.NodeOrder.{Has, numbered, written, low, stand_le, IsSeated, seated}

-- ---- members of lists

abbrev pub Among : List Span → Span → Type 0
Among [] s = ⊥
Among (x ∷ xs) s = (x ≡ s) ⊎ Among xs s

pub among_contains : (xs : List Span) (s : Span) → Contains xs s → Among xs s
among_contains [] s (k, lt, e) = absurd (omega arith)
among_contains (x ∷ xs) s (zero, lt, e) = inl e
among_contains (x ∷ xs) s (suc k, lt, e) = inr (among_contains xs s (k, (let l : length (x ∷ xs) ≡ suc (length xs) = refl in omega arith), e))

pub contains_among : (xs : List Span) (s : Span) → Among xs s → Contains xs s
contains_among [] s h = absurd h
contains_among (x ∷ xs) s (inl e) = (0, (let l : length (x ∷ xs) ≡ suc (length xs) = refl in omega arith), e)
contains_among (x ∷ xs) s (inr h) = let r = contains_among xs s h in (suc r.0, (let lt = r.1 in let l : length (x ∷ xs) ≡ suc (length xs) = refl in omega arith), r.2)

among_left : (xs ys : List Span) (s : Span) → Among xs s → Among (xs ++ ys) s
among_left [] ys s h = absurd h
among_left (x ∷ xs) ys s (inl e) = inl e
among_left (x ∷ xs) ys s (inr h) = inr (among_left xs ys s h)

among_right : (xs ys : List Span) (s : Span) → Among ys s → Among (xs ++ ys) s
among_right [] ys s h = h
among_right (x ∷ xs) ys s h = inr (among_right xs ys s h)

among_cases : (xs ys : List Span) (s : Span) → Among (xs ++ ys) s → Among xs s ⊎ Among ys s
among_cases [] ys s h = inr h
among_cases (x ∷ xs) ys s (inl e) = inl (inl e)
among_cases (x ∷ xs) ys s (inr h) = elim (among_cases xs ys s h) [ inl a ↦ inl (inr a) | inr b ↦ inr b ]

-- ---- own tokens

-- an own token stands between the offsets of the parts
pub token_within : (from to : ℕ) (parts : Parts) (s : Span) → StandInOrder from to parts → Among (tokens_of parts) s → (from ≤ s.from) × (s.to ≤ to)
token_within from to NoMore s st h = absurd h
token_within from to (Token token rest) s st (inl e) =
    let a = st.0 in let b = stand_le token.to to rest st.2 in
    (subst (λ (x : Span). from ≤ x.from) e a, subst (λ (x : Span). x.to ≤ to) e b)
token_within from to (Token token rest) s st (inr h) =
    let r = token_within token.to to rest s st.2 h in
    let a = st.0 in let b = st.1 in let c = r.0 in
    (omega arith, r.1)
token_within from to (Child kind begin within end rest) s st h =
    let r = token_within end to rest s st.2 h in
    let a = st.0 in let b = stand_le begin end within st.1 in let c = r.0 in
    (omega arith, r.1)

begins_from : (offset to : ℕ) (parts : Parts) → StandInOrder offset to parts → BeginsFrom offset (tokens_of parts)
begins_from offset to NoMore st = tt
begins_from offset to (Token token rest) st = st.0
begins_from offset to (Child kind begin within end rest) st = from_end (tokens_of rest) (begins_from end to rest st.2)
  where
    from_end : (ts : List Span) → BeginsFrom end ts → BeginsFrom offset ts
    from_end [] b = tt
    from_end (t ∷ ts) b = (let a = st.0 in let c = stand_le begin end within st.1 in let d : end ≤ t.from = b in omega arith)

pub own_in_order : (from to : ℕ) (parts : Parts) → StandInOrder from to parts → AreInOrder (tokens_of parts)
own_in_order from to NoMore st = tt
own_in_order from to (Token token rest) st = (begins_from token.to to rest st.2, own_in_order token.to to rest st.2)
own_in_order from to (Child kind begin within end rest) st = own_in_order end to rest st.2

-- the tokens of a node's parts lie outside of each node in these
pub token_apart : (parent : Option Node) (number from to : ℕ) (parts : Parts) (n : ℕ) (x : TreeNode) (i : Parts) (s : Span) → StandInOrder from to parts → Among (tokens_of parts) s → Has parent number parts n x i → (s.to ≤ x.span.from) ⊎ (x.span.to ≤ s.from)
token_apart parent number from to NoMore n x i s st h a = absurd a
token_apart parent number from to (Token token rest) n x i s st (inl e) a =
    let b = (seated parent number token.to to rest n x i st.2 a).begins in
    inl (subst (λ (y : Span). y.to ≤ x.span.from) e b)
token_apart parent number from to (Token token rest) n x i s st (inr h) a = token_apart parent number token.to to rest n x i s st.2 h a
token_apart parent number from to (Child kind begin within end rest) n x i s st h (inl a) =
    let f : x.span.to ≡ end = ap (λ (z : TreeNode). z.span.to) a.1 in
    let g = (token_within end to rest s st.2 h).0 in
    inr (omega arith)
token_apart parent number from to (Child kind begin within end rest) n x i s st h (inr (inl a)) =
    let f = (seated (Some (numbered number)) (number + 1) begin end within n x i st.1 a).ends in
    let g = (token_within end to rest s st.2 h).0 in
    inr (omega arith)
token_apart parent number from to (Child kind begin within end rest) n x i s st h (inr (inr a)) =
    token_apart parent (number + 1 + node_count within) end to rest n x i s st.2 h a

-- ---- owners

all_of : (parts : Parts) (s : Span) → Among (tokens_of parts) s → Among (all_tokens parts) s
all_of NoMore s h = absurd h
all_of (Token token rest) s (inl e) = inl e
all_of (Token token rest) s (inr h) = inr (all_of rest s h)
all_of (Child kind begin within end rest) s h = among_right (all_tokens within) (all_tokens rest) s (all_of rest s h)

-- what a node owns is among all tokens
pub owned_among : (parent : Option Node) (number : ℕ) (parts : Parts) (n : ℕ) (x : TreeNode) (i : Parts) (s : Span) → Has parent number parts n x i → Among (tokens_of i) s → Among (all_tokens parts) s
owned_among parent number NoMore n x i s a h = absurd a
owned_among parent number (Token token rest) n x i s a h = inr (owned_among parent number rest n x i s a h)
owned_among parent number (Child kind begin within end rest) n x i s (inl a) h =
    among_left (all_tokens within) (all_tokens rest) s (all_of within s (subst (λ (p : Parts). Among (tokens_of p) s) a.2 h))
owned_among parent number (Child kind begin within end rest) n x i s (inr (inl a)) h =
    among_left (all_tokens within) (all_tokens rest) s (owned_among (Some (numbered number)) (number + 1) within n x i s a h)
owned_among parent number (Child kind begin within end rest) n x i s (inr (inr a)) h =
    among_right (all_tokens within) (all_tokens rest) s (owned_among parent (number + 1 + node_count within) rest n x i s a h)

-- a node owns the token
pub record IsOwned (parent : Option Node) (number : ℕ) (parts : Parts) (s : Span) : Type 0 where
  pub n : ℕ
  pub x : TreeNode
  pub inside : Parts
  pub has : Has parent number parts n x inside
  pub own : Among (tokens_of inside) s

-- each of all tokens stands outside of the nodes, or a node owns it
pub owner_of : (parent : Option Node) (number : ℕ) (parts : Parts) (s : Span) → Among (all_tokens parts) s → Among (tokens_of parts) s ⊎ IsOwned parent number parts s
owner_of parent number NoMore s h = absurd h
owner_of parent number (Token token rest) s (inl e) = inl (inl e)
owner_of parent number (Token token rest) s (inr h) = elim (owner_of parent number rest s h) [
  | inl a ↦ inl (inr a)
  | inr o ↦ inr (record { n = o.n; x = o.x; inside = o.inside; has = o.has; own = o.own })
]
owner_of parent number (Child kind begin within end rest) s h = elim (among_cases (all_tokens within) (all_tokens rest) s h) [
  | inl a ↦ elim (owner_of (Some (numbered number)) (number + 1) within s a) [
    | inl mine ↦ inr (record { n = number; x = written kind parent begin end within; inside = within; has = inl (refl, refl, refl); own = mine })
    | inr o ↦ inr (record { n = o.n; x = o.x; inside = o.inside; has = inr (inl o.has); own = o.own })
  ]
  | inr b ↦ elim (owner_of parent (number + 1 + node_count within) rest s b) [
    | inl outer ↦ inl outer
    | inr o ↦ inr (record { n = o.n; x = o.x; inside = o.inside; has = inr (inr o.has); own = o.own })
  ]
]

-- where an owned token lies
pub owned_within : (parent : Option Node) (number from to n : ℕ) (x : TreeNode) (i : Parts) (s : Span) → IsSeated parent number from to n x i → Among (tokens_of i) s → (x.span.from ≤ s.from) × (s.to ≤ x.span.to)
owned_within parent number from to n x i s seat h = token_within x.span.from x.span.to i s seat.in_order h

-- a token that is not empty has one owner
pub one_owner : (parent : Option Node) (number from to : ℕ) (parts : Parts) (n m : ℕ) (x y : TreeNode) (i j : Parts) (s : Span) → StandInOrder from to parts → s.from < s.to → Has parent number parts n x i → Has parent number parts m y j →
    Among (tokens_of i) s → Among (tokens_of j) s → n ≡ m
one_owner parent number from to NoMore n m x y i j s st some a b h g = absurd a
one_owner parent number from to (Token token rest) n m x y i j s st some a b h g = one_owner parent number token.to to rest n m x y i j s st.2 some a b h g
one_owner parent number from to (Child kind begin within end rest) n m x y i j s st some (inl a) (inl b) h g = a.0 ∙ sym b.0
one_owner parent number from to (Child kind begin within end rest) n m x y i j s st some (inl a) (inr (inl b)) h g =
    let mine : Among (tokens_of within) s = subst (λ (p : Parts). Among (tokens_of p) s) a.2 h in
    let seat = seated (Some (numbered number)) (number + 1) begin end within m y j st.1 b in
    let at = owned_within (Some (numbered number)) (number + 1) begin end m y j s seat g in
    let low = at.0 in let high = at.1 in
    elim (token_apart (Some (numbered number)) (number + 1) begin end within m y j s st.1 mine b) [ inl p ↦ absurd (omega arith) | inr p ↦ absurd (omega arith) ]
one_owner parent number from to (Child kind begin within end rest) n m x y i j s st some (inl a) (inr (inr b)) h g =
    let mine : Among (tokens_of within) s = subst (λ (p : Parts). Among (tokens_of p) s) a.2 h in
    let seat = seated parent (number + 1 + node_count within) end to rest m y j st.2 b in
    let at = owned_within parent (number + 1 + node_count within) end to m y j s seat g in
    let p = (token_within begin end within s st.1 mine).1 in let q = seat.begins in let r = at.0 in
    absurd (omega arith)
one_owner parent number from to (Child kind begin within end rest) n m x y i j s st some (inr (inl a)) (inl b) h g =
    let mine : Among (tokens_of within) s = subst (λ (p : Parts). Among (tokens_of p) s) b.2 g in
    let seat = seated (Some (numbered number)) (number + 1) begin end within n x i st.1 a in
    let at = owned_within (Some (numbered number)) (number + 1) begin end n x i s seat h in
    let low = at.0 in let high = at.1 in
    elim (token_apart (Some (numbered number)) (number + 1) begin end within n x i s st.1 mine a) [ inl p ↦ absurd (omega arith) | inr p ↦ absurd (omega arith) ]
one_owner parent number from to (Child kind begin within end rest) n m x y i j s st some (inr (inl a)) (inr (inl b)) h g =
    one_owner (Some (numbered number)) (number + 1) begin end within n m x y i j s st.1 some a b h g
one_owner parent number from to (Child kind begin within end rest) n m x y i j s st some (inr (inl a)) (inr (inr b)) h g =
    let first = seated (Some (numbered number)) (number + 1) begin end within n x i st.1 a in
    let second = seated parent (number + 1 + node_count within) end to rest m y j st.2 b in
    let p = (owned_within (Some (numbered number)) (number + 1) begin end n x i s first h).1 in
    let q = (owned_within parent (number + 1 + node_count within) end to m y j s second g).0 in
    let r = first.ends in let t = second.begins in
    absurd (omega arith)
one_owner parent number from to (Child kind begin within end rest) n m x y i j s st some (inr (inr a)) (inl b) h g =
    let mine : Among (tokens_of within) s = subst (λ (p : Parts). Among (tokens_of p) s) b.2 g in
    let seat = seated parent (number + 1 + node_count within) end to rest n x i st.2 a in
    let at = owned_within parent (number + 1 + node_count within) end to n x i s seat h in
    let p = (token_within begin end within s st.1 mine).1 in let q = seat.begins in let r = at.0 in
    absurd (omega arith)
one_owner parent number from to (Child kind begin within end rest) n m x y i j s st some (inr (inr a)) (inr (inl b)) h g =
    let first = seated (Some (numbered number)) (number + 1) begin end within m y j st.1 b in
    let second = seated parent (number + 1 + node_count within) end to rest n x i st.2 a in
    let p = (owned_within (Some (numbered number)) (number + 1) begin end m y j s first g).1 in
    let q = (owned_within parent (number + 1 + node_count within) end to n x i s second h).0 in
    let r = first.ends in let t = second.begins in
    absurd (omega arith)
one_owner parent number from to (Child kind begin within end rest) n m x y i j s st some (inr (inr a)) (inr (inr b)) h g =
    one_owner parent (number + 1 + node_count within) end to rest n m x y i j s st.2 some a b h g
