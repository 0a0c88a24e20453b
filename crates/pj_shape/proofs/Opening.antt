-- Nodes that are open in one another.
use Rattle.std.proofs.Common.{◌≡◌, ℕ, zero, suc, ◌+◌, ◌<◌, List, [], ◌∷◌, ◌++◌, length, Option, Some, None, IsSome, slice_get, refl, sym, ◌∙◌, ap, subst, arith, length-append}
use Rattle.std.specs.Prelude.{slice_index_or, slice_range}
use Rattle.std.specs.List.{fold}
use Rattle.std.proofs.lemmas.List.{length-map}
use Rattle.pj_tree.specs.Tree.{TreeNode, parents, parent_in}
use Rattle.pj_tree.specs.Building.{Building, Call, after_call, opened, closed, closed_at, owned, owned_at, new_node, amended, ends_at, gains}
use Rattle.pj_tree.specs.declared.kind.Kind.{Kind}
use Rattle.pj_tree.specs.declared.node.Node.{Node}
use Rattle.pj_tree.specs.declared.node.Span.{Span}
use Rattle.pj_shape.specs.Writing.{owns}
use Rattle.pj_shape.proofs.Ranges.{range_front}

-- so many nodes are open in one another, the innermost one first
abbrev pub AreOpenIn : List (Option Node) → Option Node → ℕ → Type 0
AreOpenIn ps current zero = Unit {0}
AreOpenIn ps current (suc depth) = (n : Node) × (current ≡ Some n) × (n.0 < length ps) × AreOpenIn ps (parent_in ps n) depth

abbrev pub AreOpen : Building → ℕ → Type 0
AreOpen b depth = AreOpenIn (parents b.nodes) b.current depth

pub some_open : (b : Building) (depth : ℕ) → AreOpen b (suc depth) → IsSome b.current
some_open b depth o = subst IsSome (sym o.1) refl

index_left : {A : Type 0} (xs ys : List A) (n : ℕ) (d : A) → n < length xs → slice_index_or (xs ++ ys) n d ≡ slice_index_or xs n d
index_left [] ys n d lt = absurd (omega arith)
index_left (x ∷ xs) ys zero d lt = refl
index_left (x ∷ xs) ys (suc n) d lt = index_left xs ys n d (omega arith)

index_last : {A : Type 0} (xs : List A) (x d : A) (n : ℕ) → n ≡ length xs → slice_index_or (xs ++ x ∷ []) n d ≡ x
index_last [] x d zero e = refl
index_last [] x d (suc n) e = absurd (omega arith)
index_last (y ∷ xs) x d zero e = absurd (omega arith)
index_last (y ∷ xs) x d (suc n) e = index_last xs x d n (omega arith)

still_open : (ps qs : List (Option Node)) (current : Option Node) (depth : ℕ) → AreOpenIn ps current depth → AreOpenIn (ps ++ qs) current depth
still_open ps qs current zero o = tt
still_open ps qs current (suc depth) o =
    let within : o.0.0 < length (ps ++ qs) = (let lt = o.2 in let len = length-append ps qs in omega arith) in
    let same : parent_in ps o.0 ≡ parent_in (ps ++ qs) o.0 = sym (index_left ps qs o.0.0 None o.2) in
    (o.0, o.1, within, subst (λ p. AreOpenIn (ps ++ qs) p depth) same (still_open ps qs (parent_in ps o.0) depth o.3))

parents_append : (xs ys : List TreeNode) → parents (xs ++ ys) ≡ parents xs ++ parents ys
parents_append [] ys = refl
parents_append (x ∷ xs) ys = ap (λ l. x.parent ∷ l) (parents_append xs ys)

pub open_opened : (b : Building) (kind : Kind) (from depth : ℕ) → AreOpen b depth → AreOpen (opened b kind from) (suc depth)
open_opened b kind from depth o =
    let ps = parents b.nodes in
    let all : parents b.nodes ++ b.current ∷ [] ≡ parents (b.nodes ++ new_node kind b.current from ∷ []) = sym (parents_append b.nodes (new_node kind b.current from ∷ [])) in
    let len : length ps ≡ length b.nodes = length-map b.nodes (λ (x : TreeNode). x.parent) in
    let within : length b.nodes < length (ps ++ b.current ∷ []) = (let l = length-append ps (b.current ∷ []) in omega arith) in
    let last : b.current ≡ parent_in (ps ++ b.current ∷ []) record { 0 = length b.nodes } = sym (index_last ps b.current None (length b.nodes) (sym len)) in
    subst (λ l. AreOpenIn l (Some record { 0 = length b.nodes }) (suc depth)) all
    (record { 0 = length b.nodes }, refl, within, subst (λ p. AreOpenIn (ps ++ b.current ∷ []) p depth) last (still_open ps (b.current ∷ []) b.current depth o))

same_parents : (change : TreeNode → TreeNode) → ((x : TreeNode) → (change x).parent ≡ x.parent) → (nodes : List TreeNode) (n : ℕ) → parents (amended change nodes n) ≡ parents nodes
same_parents change same [] n = refl
same_parents change same (x ∷ xs) zero = ap (λ p. p ∷ parents xs) (same x)
same_parents change same (x ∷ xs) (suc n) = ap (λ l. x.parent ∷ l) (same_parents change same xs n)

pub open_closed : (b : Building) (to depth : ℕ) → AreOpen b (suc depth) → AreOpen (closed b to) depth
open_closed b to depth o =
    subst (λ c. AreOpen (closed_at b to c) depth) (sym o.1)
    (subst (λ l. AreOpenIn l (parent_in (parents b.nodes) o.0) depth) (sym (same_parents (ends_at to) (λ x. refl) b.nodes o.0.0)) o.3)

pub open_owned : (b : Building) (token : Span) (depth : ℕ) → AreOpen b (suc depth) → AreOpen (owned b token) (suc depth)
open_owned b token depth o =
    subst (λ c. AreOpen (owned_at b token c) (suc depth)) (sym o.1)
    (subst (λ l. AreOpenIn l b.current (suc depth)) (sym (same_parents (gains token) (λ x. refl) b.nodes o.0.0)) o)

pub open_owns : (b : Building) (tokens : List Span) (depth : ℕ) → AreOpen b (suc depth) → AreOpen (fold after_call b (owns tokens)) (suc depth)
open_owns b [] depth o = o
open_owns b (token ∷ tokens) depth o = open_owns (owned b token) tokens depth (open_owned b token depth o)

-- one token leaves the innermost node open
pub owned_open : (b : Building) (token : Span) → IsSome b.current → IsSome (owned b token).current
owned_open b token some = go b.current refl some
  where
    go : (c : Option Node) → b.current ≡ c → IsSome c → IsSome (owned b token).current
    go None e s = absurd cc
    go (Some n) e s = subst (λ x. IsSome (owned_at b token x).current) (sym e) (subst IsSome (sym e) refl)

pub after_calls : (b : Building) (calls more : List Call) → fold after_call b (calls ++ more) ≡ fold after_call (fold after_call b calls) more
after_calls b [] more = refl
after_calls b (c ∷ cs) more = after_calls (after_call b c) cs more

-- one token of those between two places
pub own_step : (b b' : Building) (spans : List Span) (at to : ℕ) (token : Span) → at < to → slice_get spans at ≡ Some token → b' ≡ owned b token →
    fold after_call b' (owns (slice_range spans (at + 1) to)) ≡ fold after_call b (owns (slice_range spans at to))
own_step b b' spans at to token lt is e = ap (λ x. fold after_call x (owns (slice_range spans (at + 1) to))) e ∙ sym (ap (λ l. fold after_call b (owns l)) (range_front spans at to token lt is))
