-- What contracts see after each call of a builder.
use Rattle.std.proofs.Common.{ℕ, zero, suc, ◌≡◌, ◌<◌, ◌≤◌, List, [], ◌∷◌, ◌++◌, length, get_or, set, refl, ap, sym, ◌∙◌, arith, subst, inl, inr, Option, None, Some, IsSome, Ok, Err}
use Rattle.std.specs.List.{All}
use Rattle.std.proofs.lemmas.Bool.{cases_Bool, lt-ltb, le-ltb, eq-eqb}
use Rattle.std.proofs.lemmas.List.Elements.{All-head, All-tail}
use Rattle.pj_tree.specs.Tree.{TreeNode, parents, parent_in, greatest_depth, IsSpanOf}
use Rattle.pj_tree.specs.Building.{Building, new_node, opened, closed_at, owned_at, gains, amended, finished, tree_of, IsWhole}
use Rattle.pj_tree.specs.Rows.{IsBuilding, OwnersAre, nodes_seen, node_seen, row_at, token_at, owner_at, above, above_at, own_spans, belongs, no_row, TokenSpans}
use Rattle.pj_tree.specs.declared.node.Node.{Node}
use Rattle.pj_tree.specs.declared.node.Span.{Span}
use Rattle.pj_tree.specs.declared.row.Row.{Row}
use Rattle.pj_tree.specs.declared.row.OwnToken.{OwnToken}
use Rattle.pj_tree.specs.declared.shape_fault.ShapeFault.TheVariants.{TooDeep, TooMany}
use Rattle.pj_tree.proofs.Seen.{length-nodes_seen, get_or-nodes_seen, parents-nodes_seen, get_or-row_parents, nodes_seen-push, nodes_seen-set, nodes_seen-gain, ended_row}

abbrev pub building_seen : List ℕ → List Row → List OwnToken → Option Node → Building
building_seen text rows tokens current = record { text = text; nodes = nodes_seen rows tokens; current = current }

-- ---- the three calls

pub opened_seen : (text : List ℕ) (rows : List Row) (tokens : List OwnToken) (current : Option Node) (r : Row) → OwnersAre rows tokens → r.parent ≡ current → r.span.to ≡ r.span.from
    → building_seen text (rows ++ r ∷ []) tokens (Some (record { 0 = length rows })) ≡ opened (building_seen text rows tokens current) r.kind r.span.from
opened_seen text rows tokens current r owners parent_is to_is =
    let node : TreeNode = record { kind = r.kind; parent = r.parent; span = r.span; own = [] } in
    let same : node ≡ new_node r.kind current r.span.from = rw (← parent_is) (ap (λ (to : ℕ). spanning to) to_is) in
    let nodes : nodes_seen (rows ++ r ∷ []) tokens ≡ nodes_seen rows tokens ++ new_node r.kind current r.span.from ∷ [] = nodes_seen-push rows tokens r owners ∙ ap (λ (x : TreeNode). nodes_seen rows tokens ++ x ∷ []) same in
    rw (nodes, length-nodes_seen rows tokens) refl
  where
    spanning : ℕ → TreeNode
    spanning to = record { kind = r.kind; parent = r.parent; span = record { from = r.span.from; to = to }; own = [] }

pub closed_seen : (text : List ℕ) (rows : List Row) (tokens : List OwnToken) (current : Option Node) (n : Node) (to end : ℕ) → current ≡ Some n → n.0 < length rows
    → building_seen text (set rows n.0 (ended_row (row_at rows n.0) to end)) tokens (row_at rows n.0).parent ≡ closed_at (building_seen text rows tokens current) to current
closed_seen text rows tokens current n to end is h =
    let parent : parent_in (parents (nodes_seen rows tokens)) n ≡ (row_at rows n.0).parent = ap (λ (ps : List (Option Node)). get_or ps n.0 None) (parents-nodes_seen rows tokens) ∙ get_or-row_parents rows n.0 h in
    rw (nodes_seen-set rows tokens n.0 to end h, ← parent, is) refl

pub owned_seen : (text : List ℕ) (rows : List Row) (tokens : List OwnToken) (current : Option Node) (n : Node) (t : OwnToken) → current ≡ Some n → t.owner ≡ n → n.0 < length rows
    → building_seen text rows (tokens ++ t ∷ []) current ≡ owned_at (building_seen text rows tokens current) t.span current
owned_seen text rows tokens current n t is owner_is h =
    let nodes : nodes_seen rows (tokens ++ t ∷ []) ≡ amended (gains t.span) (nodes_seen rows tokens) n.0 = nodes_seen-gain rows tokens t (omega (arith, ap (λ (m : Node). m.0) owner_is)) ∙ ap (λ (m : Node). amended (gains t.span) (nodes_seen rows tokens) m.0) owner_is in
    rw (nodes, is) refl

-- ---- the end

pub greatest_depth-seen : (rows : List Row) (tokens : List OwnToken) (current : Option Node) (depth deepest last_child : ℕ) → IsBuilding rows tokens current depth deepest last_child → greatest_depth (nodes_seen rows tokens) ≡ deepest
greatest_depth-seen rows tokens current depth deepest last_child s = rw (parents-nodes_seen rows tokens) (sym s.deepest_is)

pub finished-deep : (b : Building) (d : ℕ) → greatest_depth b.nodes ≡ d → 1000 < d → finished b ≡ Err (TooDeep d)
finished-deep b d e h = rw (e, lt-ltb 1000 d h) refl

pub finished-many : (b : Building) (d n : ℕ) → greatest_depth b.nodes ≡ d → d ≤ 1000 → length b.nodes ≡ n → 2000000 < n → finished b ≡ Err (TooMany n)
finished-many b d n e h len many = rw (e, le-ltb 1000 d h, len, lt-ltb 2000000 n many) refl

pub finished-tree : (b : Building) (d n : ℕ) → greatest_depth b.nodes ≡ d → d ≤ 1000 → length b.nodes ≡ n → n ≤ 2000000 → finished b ≡ Ok (tree_of b)
finished-tree b d n e h len few = rw (e, le-ltb 1000 d h, len, le-ltb 2000000 n few) refl

above_some : (o : Option Node) → IsSome o → 0 < above o
above_some None is = cc
above_some (Some p) is = omega arith

pub roots : (text : List ℕ) (rows : List Row) (tokens : List OwnToken) (current : Option Node) → IsWhole (building_seen text rows tokens current) → (n : ℕ) → 0 < n → n < length rows → 0 < above_at rows n
roots text rows tokens current whole n past h =
    let some : IsSome (parent_in (parents (nodes_seen rows tokens)) (record { 0 = n })) = whole.one_root (record { 0 = n }) past (omega (arith, length-nodes_seen rows tokens)) in
    let parent : parent_in (parents (nodes_seen rows tokens)) (record { 0 = n }) ≡ (row_at rows n).parent = ap (λ (ps : List (Option Node)). get_or ps n None) (parents-nodes_seen rows tokens) ∙ get_or-row_parents rows n h in
    above_some (row_at rows n).parent (subst (λ (o : Option Node). IsSome o) parent some)

pub spans : (text : List ℕ) (rows : List Row) (tokens : List OwnToken) (current : Option Node) → IsWhole (building_seen text rows tokens current) → (n : ℕ) → n < length rows → IsSpanOf text (row_at rows n).span
spans text rows tokens current whole n h =
    let d : TreeNode = node_seen tokens (0, no_row) in
    subst (λ (x : TreeNode). IsSpanOf text x.span) (get_or-nodes_seen rows tokens n d h) (whole.spans n d (omega (arith, length-nodes_seen rows tokens)))

-- what holds of each own token of the owner holds of the token
own_spans-all : (P : Span → Type 0) (tokens : List OwnToken) (k n : ℕ) → k < length tokens → owner_at tokens k ≡ n → All P (own_spans tokens n) → P (token_at tokens k).span
own_spans-all P [] k n h e all = absurd (omega arith)
own_spans-all P (t ∷ ts) zero n h e all = All-head P t.span (own_spans ts n) (rw (eq-eqb t.owner.0 n e) at all)
own_spans-all P (t ∷ ts) (suc k) n h e all = elim (cases_Bool (belongs n t)) [
  | inl is ↦ own_spans-all P ts k n (omega arith) e (All-tail P t.span (own_spans ts n) (rw is at all))
  | inr is ↦ own_spans-all P ts k n (omega arith) e (rw is at all)
]

pub token_spans : (text : List ℕ) (rows : List Row) (tokens : List OwnToken) (current : Option Node) → IsWhole (building_seen text rows tokens current) → OwnersAre rows tokens → TokenSpans text tokens
token_spans text rows tokens current whole owners k h =
    let d : TreeNode = node_seen tokens (0, no_row) in
    let o : ℕ = owner_at tokens k in
    let in_rows : o < length rows = owners k h in
    own_spans-all (IsSpanOf text) tokens k o h refl
    (subst (λ (x : TreeNode). All (IsSpanOf text) x.own) (get_or-nodes_seen rows tokens o d in_rows) (whole.tokens o d (omega (arith, length-nodes_seen rows tokens))))
