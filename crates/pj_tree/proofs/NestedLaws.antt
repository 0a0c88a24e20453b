-- What the calls of nested nodes make.
use Rattle.std.proofs.Common.{ℕ, zero, suc, ◌≡◌, ◌+◌, ◌<◌, ◌≤◌, List, [], ◌∷◌, ◌++◌, length, get_or, map, refl, ap, sym, ◌∙◌, arith, Option, None, Some, IsSome, append_assoc, append-nil, length-append, max, ◌-◌}
use Rattle.std.specs.List.{fold, All}
use Rattle.std.proofs.lemmas.List.{length-map, length_push, get_or_at, map-append, get_or_append_left, get_or-map}
use Rattle.std.proofs.lemmas.List.Elements.{All-nil, All-cons, All-append}
use Rattle.pj_tree.specs.Tree.{TreeNode, IsSpanOf, parents, parent_in, ancestors, ancestors_after, ancestors_by, greatest_depth}
use Rattle.pj_tree.specs.Building.{Building, Call, Close, after_call, built, started, closed, owned, new_node, amended, ends_at, IsWhole}
use Rattle.pj_tree.specs.Nested.{Parts, NoMore, Token, Child, calls_of, tokens_of, node_count, preorder, AreSpansOf, WritesPreorder, deepest_below}
use Rattle.pj_tree.specs.declared.kind.Kind.{Kind}
use Rattle.pj_tree.specs.declared.node.Node.{Node}
use Rattle.pj_tree.specs.declared.node.Span.{Span}

-- ---- lists of calls

pub after_calls : (b : Building) (calls more : List Call) → fold after_call b (calls ++ more) ≡ fold after_call (fold after_call b calls) more
after_calls b [] more = refl
after_calls b (c ∷ cs) more = after_calls (after_call b c) cs more

-- calls behind calls
pub built-append : (text : List ℕ) (calls more : List Call) → built text (calls ++ more) ≡ fold after_call (built text calls) more
built-append text calls more = after_calls (started text) calls more

-- one call more
pub built-push : (text : List ℕ) (calls : List Call) (c : Call) → built text (calls ++ c ∷ []) ≡ after_call (built text calls) c
built-push text calls c = built-append text calls (c ∷ [])

-- ---- nodes that get tokens

abbrev pub with_tokens : List Span → TreeNode → TreeNode
with_tokens tokens x = record { kind = x.kind; parent = x.parent; span = x.span; own = x.own ++ tokens }

-- the tokens go to the open node, where there is one
abbrev pub given : Option Node → List Span → List TreeNode → List TreeNode
given None tokens nodes = nodes
given (Some n) tokens nodes = amended (with_tokens tokens) nodes n.0

amended-same : (change : TreeNode → TreeNode) → ((x : TreeNode) → change x ≡ x) → (nodes : List TreeNode) (n : ℕ) → amended change nodes n ≡ nodes
amended-same change same [] n = refl
amended-same change same (x ∷ xs) zero = rw (same x) refl
amended-same change same (x ∷ xs) (suc n) = ap (λ (ys : List TreeNode). x ∷ ys) (amended-same change same xs n)

amended-twice : (f g h : TreeNode → TreeNode) → ((x : TreeNode) → g (f x) ≡ h x) → (nodes : List TreeNode) (n : ℕ) → amended g (amended f nodes n) n ≡ amended h nodes n
amended-twice f g h both [] n = refl
amended-twice f g h both (x ∷ xs) zero = rw (both x) refl
amended-twice f g h both (x ∷ xs) (suc n) = ap (λ (ys : List TreeNode). x ∷ ys) (amended-twice f g h both xs n)

amended-append : (f : TreeNode → TreeNode) (nodes more : List TreeNode) (n : ℕ) → n < length nodes → amended f (nodes ++ more) n ≡ amended f nodes n ++ more
amended-append f [] more n h = absurd (omega arith)
amended-append f (x ∷ xs) more zero h = refl
amended-append f (x ∷ xs) more (suc n) h = ap (λ (ys : List TreeNode). x ∷ ys) (amended-append f xs more n (omega arith))

amended-at : (f : TreeNode → TreeNode) (nodes more : List TreeNode) (x : TreeNode) (n : ℕ) → n ≡ length nodes → amended f (nodes ++ x ∷ more) n ≡ nodes ++ f x ∷ more
amended-at f [] more x zero e = refl
amended-at f [] more x (suc n) e = absurd (omega arith)
amended-at f (y ∷ ys) more x zero e = absurd (omega arith)
amended-at f (y ∷ ys) more x (suc n) e = ap (λ (zs : List TreeNode). y ∷ zs) (amended-at f ys more x n (omega arith))

pub length-amended : (f : TreeNode → TreeNode) (nodes : List TreeNode) (n : ℕ) → length (amended f nodes n) ≡ length nodes
length-amended f [] n = refl
length-amended f (x ∷ xs) zero = refl
length-amended f (x ∷ xs) (suc n) = ap suc (length-amended f xs n)

-- the open node is one of them
abbrev pub IsOpenIn : Option Node → List TreeNode → Type 0
IsOpenIn None nodes = Unit {0}
IsOpenIn (Some n) nodes = n.0 < length nodes

open_still : (o : Option Node) (nodes more : List TreeNode) → length nodes ≤ length more → IsOpenIn o nodes → IsOpenIn o more
open_still None nodes more le is = tt
open_still (Some n) nodes more le is = omega arith

given-none : (o : Option Node) (nodes : List TreeNode) → given o [] nodes ≡ nodes
given-none None nodes = refl
given-none (Some n) nodes = amended-same (with_tokens []) (λ x. rw (append-nil x.own) refl) nodes n.0

given-more : (o : Option Node) (t : Span) (ts : List Span) (nodes : List TreeNode) → given o ts (given o (t ∷ []) nodes) ≡ given o (t ∷ ts) nodes
given-more None t ts nodes = refl
given-more (Some n) t ts nodes = amended-twice (with_tokens (t ∷ [])) (with_tokens ts) (with_tokens (t ∷ ts)) (λ x. rw (append_assoc x.own (t ∷ []) ts) refl) nodes n.0

given-append : (o : Option Node) (ts : List Span) (nodes more : List TreeNode) → IsOpenIn o nodes → given o ts (nodes ++ more) ≡ given o ts nodes ++ more
given-append None ts nodes more is = refl
given-append (Some n) ts nodes more is = amended-append (with_tokens ts) nodes more n.0 is

length-given : (o : Option Node) (ts : List Span) (nodes : List TreeNode) → length (given o ts nodes) ≡ length nodes
length-given None ts nodes = refl
length-given (Some n) ts nodes = length-amended (with_tokens ts) nodes n.0

pub length-preorder : (parent : Option Node) (n : ℕ) (parts : Parts) → length (preorder parent n parts) ≡ node_count parts
length-preorder parent n NoMore = refl
length-preorder parent n (Token t rest) = length-preorder parent n rest
length-preorder parent n (Child kind from inside to rest) =
    omega (
      arith,
      length-append (preorder (Some (record { 0 = n })) (n + 1) inside) (preorder parent (n + 1 + node_count inside) rest),
      length-preorder (Some (record { 0 = n })) (n + 1) inside,
      length-preorder parent (n + 1 + node_count inside) rest,
    )

-- ---- the three calls on such nodes

abbrev building : List ℕ → List TreeNode → Option Node → Building
building text nodes current = record { text = text; nodes = nodes; current = current }

owned-is : (text : List ℕ) (nodes : List TreeNode) (o : Option Node) (t : Span) → owned (building text nodes o) t ≡ building text (given o (t ∷ []) nodes) o
owned-is text nodes None t = refl
owned-is text nodes (Some n) t = refl

-- the node that was opened behind the nodes closes
closed-is : (text : List ℕ) (nodes more : List TreeNode) (x : TreeNode) (o : Option Node) (to n : ℕ) → n ≡ length nodes → x.parent ≡ o
    → closed (building text (nodes ++ x ∷ more) (Some (record { 0 = n }))) to ≡ building text (nodes ++ ends_at to x ∷ more) o
closed-is text nodes more x o to n e parent =
    let ps : parents (nodes ++ x ∷ more) ≡ parents nodes ++ x.parent ∷ parents more = map-append (λ (y : TreeNode). y.parent) nodes (x ∷ more) in
    let len : length (parents nodes) ≡ n = omega (arith, length-map nodes (λ (y : TreeNode). y.parent)) in
    let is : parent_in (parents (nodes ++ x ∷ more)) (record { 0 = n }) ≡ o = ap (λ (qs : List (Option Node)). get_or qs n None) ps ∙ (get_or_at (parents nodes) x.parent (parents more) None n len ∙ parent) in
    rw (amended-at (ends_at to) nodes more x n e, is) refl

-- ---- the law

-- the calls of parts, behind other calls: the tokens go to the open node, and the nodes of the parts stand behind the others
pub parts-written : (text : List ℕ) (nodes : List TreeNode) (o : Option Node) (parts : Parts) → IsOpenIn o nodes
    → fold after_call (building text nodes o) (calls_of parts) ≡ building text (given o (tokens_of parts) nodes ++ preorder o (length nodes) parts) o
parts-written text nodes o NoMore is = ap (λ (xs : List TreeNode). building text xs o) (sym (append-nil (given o [] nodes) ∙ given-none o nodes))
parts-written text nodes o (Token t rest) is =
    let len : length (given o (t ∷ []) nodes) ≡ length nodes = length-given o (t ∷ []) nodes in
    ap (λ (b : Building). fold after_call b (calls_of rest)) (owned-is text nodes o t)
    ∙ (parts-written text (given o (t ∷ []) nodes) o rest (open_still o nodes (given o (t ∷ []) nodes) (omega arith) is)
    ∙ ap (λ (xs : List TreeNode). building text xs o)
    (ap (λ (ys : List TreeNode). ys ++ preorder o (length (given o (t ∷ []) nodes)) rest) (given-more o t (tokens_of rest) nodes)
    ∙ ap (λ (n : ℕ). given o (t ∷ tokens_of rest) nodes ++ preorder o n rest) len))
parts-written text nodes o (Child kind from inside to rest) is =
    let new : TreeNode = new_node kind o from in
    let mine : Option Node = Some (record { 0 = length nodes }) in
    let behind : List TreeNode = preorder mine (length nodes + 1) inside in
    let node : TreeNode = record { kind = kind; parent = o; span = record { from = from; to = to }; own = tokens_of inside } in
    let len : length (nodes ++ new ∷ []) ≡ length nodes + 1 = length_push nodes new in
    -- the inner parts
    let inner : fold after_call (building text (nodes ++ new ∷ []) mine) (calls_of inside) ≡ building text (nodes ++ with_tokens (tokens_of inside) new ∷ behind) mine
    = parts-written text (nodes ++ new ∷ []) mine inside (omega (arith, len))
    ∙ ap (λ (xs : List TreeNode). building text xs mine)
    (ap (λ (ys : List TreeNode). ys ++ preorder mine (length (nodes ++ new ∷ [])) inside) (amended-at (with_tokens (tokens_of inside)) nodes [] new (length nodes) refl)
    ∙ (append_assoc nodes (with_tokens (tokens_of inside) new ∷ []) (preorder mine (length (nodes ++ new ∷ [])) inside)
    ∙ ap (λ (n : ℕ). nodes ++ with_tokens (tokens_of inside) new ∷ preorder mine n inside) len)) in
    -- its end
    let shut : closed (building text (nodes ++ with_tokens (tokens_of inside) new ∷ behind) mine) to ≡ building text (nodes ++ node ∷ behind) o
    = closed-is text nodes behind (with_tokens (tokens_of inside) new) o to (length nodes) refl refl in
    let all : length (nodes ++ node ∷ behind) ≡ length nodes + 1 + node_count inside
    = omega (arith, length-append nodes (node ∷ behind), length-preorder mine (length nodes + 1) inside) in
    after_calls (building text (nodes ++ new ∷ []) mine) (calls_of inside) (Close to ∷ calls_of rest)
    ∙ (ap (λ (b : Building). fold after_call (closed b to) (calls_of rest)) inner
    ∙ (ap (λ (b : Building). fold after_call b (calls_of rest)) shut
    ∙ (parts-written text (nodes ++ node ∷ behind) o rest (open_still o nodes (nodes ++ node ∷ behind) (omega (arith, all)) is)
    ∙ ap (λ (xs : List TreeNode). building text xs o)
    (ap (λ (ys : List TreeNode). ys ++ preorder o (length (nodes ++ node ∷ behind)) rest) (given-append o (tokens_of rest) nodes (node ∷ behind) is)
    ∙ (append_assoc (given o (tokens_of rest) nodes) (node ∷ behind) (preorder o (length (nodes ++ node ∷ behind)) rest)
    ∙ ap (λ (n : ℕ). given o (tokens_of rest) nodes ++ (node ∷ (behind ++ preorder o n rest))) all)))))

-- ---- depths

-- the ancestors of the nodes of the parts, where `up` are those of the node itself with it in front
lineages : List Node → ℕ → Parts → List (List Node)
lineages up n NoMore = []
lineages up n (Token t rest) = lineages up n rest
lineages up n (Child kind from inside to rest) = up ∷ (lineages (record { 0 = n } ∷ up) (n + 1) inside ++ lineages up (n + 1 + node_count inside) rest)

length-lineages : (up : List Node) (n : ℕ) (parts : Parts) → length (lineages up n parts) ≡ node_count parts
unfolding lineages
length-lineages up n NoMore = refl
length-lineages up n (Token t rest) = length-lineages up n rest
length-lineages up n (Child kind from inside to rest) =
    omega (
      arith,
      length-append (lineages (record { 0 = n } ∷ up) (n + 1) inside) (lineages up (n + 1 + node_count inside) rest),
      length-lineages (record { 0 = n } ∷ up) (n + 1) inside,
      length-lineages up (n + 1 + node_count inside) rest,
    )

after_ancestors : (known : List (List Node)) (ps qs : List (Option Node)) → ancestors_after known (ps ++ qs) ≡ ancestors_after (ancestors_after known ps) qs
after_ancestors known [] qs = refl
after_ancestors known (p ∷ ps) qs = after_ancestors (known ++ ancestors_by known p ∷ []) ps qs

-- the parent is known
abbrev IsKnown : Option Node → ℕ → Type 0
IsKnown None n = Unit {0}
IsKnown (Some p) n = p.0 < n

known_still : (o : Option Node) (m n : ℕ) → m ≤ n → IsKnown o m → IsKnown o n
known_still None m n le is = tt
known_still (Some p) m n le is = omega arith

by_known : (known more : List (List Node)) (o : Option Node) → IsKnown o (length known) → ancestors_by (known ++ more) o ≡ ancestors_by known o
by_known known more None is = refl
by_known known more (Some p) is = ap (λ (up : List Node). p ∷ up) (get_or_append_left known more [] p.0 is)

known_lineages : (known : List (List Node)) (o : Option Node) (n : ℕ) (parts : Parts) → n ≡ length known → IsKnown o n
    → ancestors_after known (parents (preorder o n parts)) ≡ known ++ lineages (ancestors_by known o) n parts
unfolding lineages
known_lineages known o n NoMore e is = sym (append-nil known)
known_lineages known o n (Token t rest) e is = known_lineages known o n rest e is
known_lineages known o n (Child kind from inside to rest) e is =
    let up : List Node = ancestors_by known o in
    let mine : Option Node = Some (record { 0 = n }) in
    let first : List (List Node) = known ++ up ∷ [] in
    let len : length first ≡ length known + 1 = length_push known up in
    let inner : List (List Node) = lineages (record { 0 = n } ∷ up) (n + 1) inside in
    let here : ancestors_by first mine ≡ record { 0 = n } ∷ up = ap (λ (ns : List Node). record { 0 = n } ∷ ns) (get_or_at known up [] [] n (omega arith)) in
    let below : ancestors_after first (parents (preorder mine (n + 1) inside)) ≡ first ++ inner
    = known_lineages first mine (n + 1) inside (omega arith) (omega arith) ∙ ap (λ (us : List Node). first ++ lineages us (n + 1) inside) here in
    let all : length (first ++ inner) ≡ n + 1 + node_count inside = omega (arith, length-append first inner, length-lineages (record { 0 = n } ∷ up) (n + 1) inside) in
    let same : ancestors_by (first ++ inner) o ≡ up = by_known first inner o (known_still o n (length first) (omega arith) is) ∙ by_known known (up ∷ []) o (known_still o n (length known) (omega arith) is) in
    ap (ancestors_after first) (map-append (λ (x : TreeNode). x.parent) (preorder mine (n + 1) inside) (preorder o (n + 1 + node_count inside) rest))
    ∙ (after_ancestors first (parents (preorder mine (n + 1) inside)) (parents (preorder o (n + 1 + node_count inside) rest))
    ∙ (ap (λ (ks : List (List Node)). ancestors_after ks (parents (preorder o (n + 1 + node_count inside) rest))) below
    ∙ (known_lineages (first ++ inner) o (n + 1 + node_count inside) rest (sym all) (known_still o n (n + 1 + node_count inside) (omega arith) is)
    ∙ (ap (λ (us : List Node). (first ++ inner) ++ lineages us (n + 1 + node_count inside) rest) same
    ∙ (append_assoc first inner (lineages up (n + 1 + node_count inside) rest)
    ∙ append_assoc known (up ∷ []) (inner ++ lineages up (n + 1 + node_count inside) rest))))))

fold_max-append : (a : ℕ) (xs ys : List ℕ) → fold max a (xs ++ ys) ≡ fold max (fold max a xs) ys
fold_max-append a [] ys = refl
fold_max-append a (x ∷ xs) ys = fold_max-append (max a x) xs ys

abbrev deep : List (List Node) → List ℕ
deep ls = map (λ up. length up + 1) ls

deepest_lineage : (a : ℕ) (up : List Node) (n : ℕ) (parts : Parts) → fold max a (deep (lineages up n parts)) ≡ max a (deepest_below (length up) parts)
unfolding lineages
deepest_lineage a up n NoMore = omega arith
deepest_lineage a up n (Token t rest) = deepest_lineage a up n rest
deepest_lineage a up n (Child kind from inside to rest) =
    let inner : List (List Node) = lineages (record { 0 = n } ∷ up) (n + 1) inside in
    let outer : List (List Node) = lineages up (n + 1 + node_count inside) rest in
    let len : suc (length up) ≡ length up + 1 = omega arith in
    let low : fold max (max a (length up + 1)) (deep inner) ≡ max (max a (length up + 1)) (deepest_below (length up + 1) inside)
    = deepest_lineage (max a (length up + 1)) (record { 0 = n } ∷ up) (n + 1) inside ∙ ap (λ (d : ℕ). max (max a (length up + 1)) (deepest_below d inside)) len in
    ap (fold max (max a (length up + 1))) (map-append (λ (us : List Node). length us + 1) inner outer)
    ∙ (fold_max-append (max a (length up + 1)) (deep inner) (deep outer)
    ∙ (ap (λ (m : ℕ). fold max m (deep outer)) low
    ∙ (deepest_lineage (max (max a (length up + 1)) (deepest_below (length up + 1) inside)) up (n + 1 + node_count inside) rest
    ∙ omega arith)))

pub greatest_depth-preorder : (parts : Parts) → greatest_depth (preorder None 0 parts) ≡ deepest_below 0 parts
unfolding ancestors
greatest_depth-preorder parts =
    ap (λ (ls : List (List Node)). fold max 0 (deep ls)) (known_lineages [] None 0 parts refl tt)
    ∙ (deepest_lineage 0 [] 0 parts ∙ omega arith)

-- ---- nodes that can be finished

-- what holds of each child and each inner node holds of each node
spans-preorder : (text : List ℕ) (o : Option Node) (n : ℕ) (parts : Parts) → AreSpansOf text parts → All (λ x. IsSpanOf text x.span) (preorder o n parts)
spans-preorder text o n NoMore are = All-nil (λ (x : TreeNode). IsSpanOf text x.span)
spans-preorder text o n (Token t rest) are = spans-preorder text o n rest are.1
spans-preorder text o n (Child kind from inside to rest) are =
    All-cons (λ (x : TreeNode). IsSpanOf text x.span) _ _ are.0
    (All-append (λ (x : TreeNode). IsSpanOf text x.span) (preorder (Some (record { 0 = n })) (n + 1) inside) (preorder o (n + 1 + node_count inside) rest)
    (spans-preorder text (Some (record { 0 = n })) (n + 1) inside are.1) (spans-preorder text o (n + 1 + node_count inside) rest are.2))

spans-tokens : (text : List ℕ) (parts : Parts) → AreSpansOf text parts → All (IsSpanOf text) (tokens_of parts)
spans-tokens text NoMore are = All-nil (IsSpanOf text)
spans-tokens text (Token t rest) are = All-cons (IsSpanOf text) t (tokens_of rest) are.0 (spans-tokens text rest are.1)
spans-tokens text (Child kind from inside to rest) are = spans-tokens text rest are.2

tokens-preorder : (text : List ℕ) (o : Option Node) (n : ℕ) (parts : Parts) → AreSpansOf text parts → All (λ x. All (IsSpanOf text) x.own) (preorder o n parts)
tokens-preorder text o n NoMore are = All-nil (λ (x : TreeNode). All (IsSpanOf text) x.own)
tokens-preorder text o n (Token t rest) are = tokens-preorder text o n rest are.1
tokens-preorder text o n (Child kind from inside to rest) are =
    All-cons (λ (x : TreeNode). All (IsSpanOf text) x.own) _ _ (spans-tokens text inside are.1)
    (All-append (λ (x : TreeNode). All (IsSpanOf text) x.own) (preorder (Some (record { 0 = n })) (n + 1) inside) (preorder o (n + 1 + node_count inside) rest)
    (tokens-preorder text (Some (record { 0 = n })) (n + 1) inside are.1) (tokens-preorder text o (n + 1 + node_count inside) rest are.2))

-- all nodes of a node's parts have parents
parents-some : (p : Node) (n : ℕ) (parts : Parts) → All (λ x. IsSome x.parent) (preorder (Some p) n parts)
parents-some p n NoMore = All-nil (λ (x : TreeNode). IsSome x.parent)
parents-some p n (Token t rest) = parents-some p n rest
parents-some p n (Child kind from inside to rest) =
    All-cons (λ (x : TreeNode). IsSome x.parent) _ _ refl
    (All-append (λ (x : TreeNode). IsSome x.parent) (preorder (Some (record { 0 = n })) (n + 1) inside) (preorder (Some p) (n + 1 + node_count inside) rest)
    (parents-some (record { 0 = n }) (n + 1) inside) (parents-some p (n + 1 + node_count inside) rest))

pub whole-preorder : (text : List ℕ) (kind : Kind) (from to : ℕ) (inside : Parts) → AreSpansOf text (Child kind from inside to NoMore)
    → IsWhole (building text (preorder None 0 (Child kind from inside to NoMore)) None)
whole-preorder text kind from to inside are = record {
  rooted = omega arith;
  one_root = some;
  all_closed = refl;
  spans = spans-preorder text None 0 (Child kind from inside to NoMore) are;
  tokens = tokens-preorder text None 0 (Child kind from inside to NoMore) are;
}
  where
    root : TreeNode
    root = record { kind = kind; parent = None; span = record { from = from; to = to }; own = tokens_of inside }

    rest : List TreeNode
    rest = preorder (Some (record { 0 = 0 })) (0 + 1) inside ++ []

    all : All (λ x. IsSome x.parent) rest
    all = All-append (λ (x : TreeNode). IsSome x.parent) (preorder (Some (record { 0 = 0 })) (0 + 1) inside) [] (parents-some (record { 0 = 0 }) (0 + 1) inside) (All-nil (λ (x : TreeNode). IsSome x.parent))

    some : (n : Node) → 0 < n.0 → n.0 < length (root ∷ rest) → IsSome (parent_in (parents (root ∷ rest)) n)
    some n past h =
        let k : ℕ = n.0 - 1 in
        let at : n.0 ≡ suc k = omega arith in
        let in_rest : k < length rest = omega arith in
        let is : parent_in (parents (root ∷ rest)) n ≡ (get_or rest k root).parent = ap (λ (j : ℕ). get_or (parents (root ∷ rest)) j None) at ∙ get_or-map (λ (x : TreeNode). x.parent) rest k root None in_rest in
        rw is (all k root in_rest)

pub writes_preorder : (text : List ℕ) → WritesPreorder text
writes_preorder text = record {
  nodes = λ parts. parts-written text [] None parts tt;
  depth = greatest_depth-preorder;
  whole = λ kind from to inside are. rw (parts-written text [] None (Child kind from inside to NoMore) tt) (whole-preorder text kind from to inside are);
}
