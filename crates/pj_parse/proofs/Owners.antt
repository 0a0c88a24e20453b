-- The own tokens of the nodes of a tree, by their numbers.
use Rattle.std.proofs.Common.{◌≡◌, ℕ, ◌+◌, ◌-◌, ◌<◌, inl, inr, None, Some, List, [], length, sym, ◌∙◌, ap, subst, arith}
use Rattle.std.specs.Prelude.{Contains, slice_get}
use Rattle.pj_tree.specs.Nested.{Parts, preorder, tokens_of}
use Rattle.pj_tree.specs.Tree.{Tree, TreeNode, node_of}
use Rattle.pj_tree.specs.declared.node.Node.{Node}
use Rattle.pj_tree.specs.declared.node.Span.{Span}
use Rattle.pj_shape.specs.InOrder.{all_tokens}
use Rattle.pj_shape.specs.Words.{AreInOrder}
use Rattle.pj_parse.specs.OwnTokens.{HasEachWord, Owns, HasOneOwner, HasOwnTokens}
use Rattle.pj_parse.proofs.NodeOrder.{Has, numbered, has_at, get_of, child_in, siblings_apart, IsSeated, seated}
use Rattle.pj_parse.proofs.TokenOwners.{Among, among_contains, contains_among, own_in_order, token_apart, owned_within, owned_among, IsOwned, owner_of, one_owner}

module _ (t : Tree) (ws : List Span) (each : HasEachWord t ws) (some : (s : Span) → Contains ws s → s.from < s.to) where
  abbrev parts : Parts
  parts = each.parts

  abbrev end : ℕ
  end = length t.text

  -- the node of a number, and what is in it
  record IsNode (n : Node) (x : TreeNode) : Type 0 where
    inside : Parts
    has : Has None 0 parts n.0 x inside
    seat : IsSeated None 0 0 end n.0 x inside

  node_at : (n : Node) (x : TreeNode) → node_of t n ≡ Some x → IsNode n x
  node_at n x is =
      let r = has_at None 0 parts n.0 x (ap (λ (l : List TreeNode). slice_get l n.0) (sym each.nodes_are) ∙ is) in
      let e : 0 + n.0 ≡ n.0 = omega arith in
      let has : Has None 0 parts n.0 x r.0 = subst (λ k. Has None 0 parts k x r.0) e r.1 in
      record { inside = r.0; has = has; seat = seated None 0 0 end parts n.0 x r.0 each.in_order has }

  none_earlier : (q : ℕ) → None ≡ Some (numbered q) → q < 0
  none_earlier q e = absurd (cc)

  own_among : (n : Node) (x : TreeNode) (s : Span) (i : IsNode n x) → Contains x.own s → Among (tokens_of i.inside) s
  own_among n x s i c = among_contains (tokens_of i.inside) s (subst (λ (l : List Span). Contains l s) i.seat.own_are c)

  is_word : (n : Node) (s : Span) → Owns t n s → Contains ws s
  is_word n s o =
      let i = node_at n o.0 o.1 in
      contains_among ws s (subst (λ (l : List Span). Among l s) each.words_are (owned_among None 0 parts n.0 o.0 i.inside s i.has (own_among n o.0 s i o.2)))

  owns_one : (s : Span) → s.from < s.to → (n m : Node) → Owns t n s → Owns t m s → n ≡ m
  owns_one s lt n m o p =
      let i = node_at n o.0 o.1 in
      let j = node_at m p.0 p.1 in
      ap numbered (one_owner None 0 0 end parts n.0 m.0 o.0 p.0 i.inside j.inside s each.in_order lt i.has j.has (own_among n o.0 s i o.2) (own_among m p.0 s j p.2))

  owned_by : (s : Span) → IsOwned None 0 parts s → (n : Node) × Owns t n s
  owned_by s o =
      let e : o.n - 0 ≡ o.n = omega arith in
      let get : node_of t (numbered o.n) ≡ Some o.x = ap (λ (l : List TreeNode). slice_get l o.n) each.nodes_are ∙ ap (slice_get (preorder None 0 parts)) (sym e) ∙ get_of None 0 parts o.n o.x o.inside o.has in
      let seat = seated None 0 0 end parts o.n o.x o.inside each.in_order o.has in
      (numbered o.n, (o.x, get, subst (λ (l : List Span). Contains l s) (sym seat.own_are) (contains_among (tokens_of o.inside) s o.own)))

  one : (s : Span) → Contains ws s → HasOneOwner t s
  one s c =
      let lt = some s c in
      let all : Among (all_tokens parts) s = subst (λ (l : List Span). Among l s) (sym each.words_are) (among_contains ws s c) in
      let o : (n : Node) × Owns t n s = elim (owner_of None 0 parts s all) [
        | inl outer ↦ (let none : Among [] s = subst (λ (l : List Span). Among l s) each.rooted outer in absurd none)
        | inr o ↦ owned_by s o
      ] in
      record { owner = o.0; owns = o.1; one = λ n p. owns_one s lt n o.0 p o.1 }

  child : (n m : Node) (x y : TreeNode) (i : IsNode n x) (j : IsNode m y) → y.parent ≡ Some n → Has (Some (numbered n.0)) (n.0 + 1) i.inside m.0 y j.inside
  child n m x y i j e = child_in None 0 0 end parts n.0 m.0 x y i.inside j.inside each.in_order none_earlier i.has j.has e

  child_seat : (n m : Node) (x y : TreeNode) (i : IsNode n x) (j : IsNode m y) → y.parent ≡ Some n → IsSeated (Some (numbered n.0)) (n.0 + 1) x.span.from x.span.to m.0 y j.inside
  child_seat n m x y i j e = seated (Some (numbered n.0)) (n.0 + 1) x.span.from x.span.to i.inside m.0 y j.inside i.seat.in_order (child n m x y i j e)

  pub own_tokens : HasOwnTokens t ws
  own_tokens = record {
    owned = one;
    words = is_word;
    in_order = λ n x is. (let i = node_at n x is in subst AreInOrder (sym i.seat.own_are) (own_in_order x.span.from x.span.to i.inside i.seat.in_order));
    inside = λ n x s is c. (let i = node_at n x is in owned_within None 0 0 end n.0 x i.inside s i.seat (own_among n x s i c));
    outside = λ n m x y s is it e c.
        (let i = node_at n x is in
        let j = node_at m y it in
        token_apart (Some (numbered n.0)) (n.0 + 1) x.span.from x.span.to i.inside m.0 y j.inside s i.seat.in_order (own_among n x s i c) (child n m x y i j e));
    children = λ n m x y is it e.
        (let i = node_at n x is in
        let j = node_at m y it in
        let s = child_seat n m x y i j e in
        (s.begins, s.ends));
    siblings = λ n m x y is it e lt.
        (let i = node_at n x is in
        let j = node_at m y it in
        siblings_apart None 0 0 end parts n.0 m.0 x y i.inside j.inside each.in_order none_earlier i.has j.has lt e);
  }
