-- What contracts see of the rows and tokens.
use Rattle.std.proofs.Common.{ℕ, zero, suc, ◌≡◌, ◌≢◌, ◌+◌, ◌<◌, true, false, List, [], ◌∷◌, ◌++◌, length, get_or, set, map, refl, inl, inr, add-zero, ap, sym, ◌∙◌, arith, zero-add, Option, None, Some}
use Rattle.std.specs.List.{enumerate_from, slice_get}
use Rattle.std.proofs.lemmas.List.{length-map, length-set, get_or-map, get_or-set_same, get_or-set_other, same_lists, ext_get_or, map_push, append-nil}
use Rattle.std.proofs.lemmas.Bool.{cases_Bool, cases_eq, eq-eqb, ne_eqb}
use Rattle.std.proofs.lemmas.List.FromFn.{length-enumerate_from, get_or-enumerate_from}
use Rattle.std.proofs.lemmas.Option.{slice_get-get_or}
use Rattle.pj_tree.specs.Tree.{TreeNode, parents, greatest_depth_in}
use Rattle.pj_tree.specs.Rows.{nodes_seen, node_seen, row_parents, row_at, no_row, no_token, owner_at, own_spans, belongs, bare_row, bare_token, SameRows, SameTokens, OwnersAre}
use Rattle.pj_tree.specs.Building.{amended, ends_at, gains}
use Rattle.pj_tree.specs.declared.node.Span.{Span}
use Rattle.pj_tree.specs.declared.row.Row.{Row}
use Rattle.pj_tree.specs.declared.row.OwnToken.{OwnToken}
use Rattle.pj_tree.specs.declared.node.Node.{Node}

pub length-nodes_seen : (rows : List Row) (tokens : List OwnToken) → length (nodes_seen rows tokens) ≡ length rows
length-nodes_seen rows tokens = simp (length-map, length-enumerate_from)

pub get_or-nodes_seen : (rows : List Row) (tokens : List OwnToken) (k : ℕ) (d : TreeNode) → k < length rows → get_or (nodes_seen rows tokens) k d ≡ node_seen tokens (k, row_at rows k)
get_or-nodes_seen rows tokens k d h =
    get_or-map (node_seen tokens) (enumerate_from 0 rows) k (0, no_row) d (omega (arith, length-enumerate_from 0 rows)) ∙ (ap (node_seen tokens) (get_or-enumerate_from 0 rows k (0, no_row) h) ∙ ap (λ (j : ℕ). node_seen tokens (j, row_at rows k)) (zero-add k))

pub slice_get-nodes_seen : (rows : List Row) (tokens : List OwnToken) (k : ℕ) → k < length rows → slice_get (nodes_seen rows tokens) k ≡ Some (node_seen tokens (k, row_at rows k))
slice_get-nodes_seen rows tokens k h =
    let d : TreeNode = node_seen tokens (0, no_row) in
    slice_get-get_or (nodes_seen rows tokens) k d (omega (arith, length-nodes_seen rows tokens)) ∙ ap Some (get_or-nodes_seen rows tokens k d h)

parents_from : (rows : List Row) (tokens : List OwnToken) (n : ℕ) → parents (map (node_seen tokens) (enumerate_from n rows)) ≡ row_parents rows
parents_from [] tokens n = refl
parents_from (r ∷ rs) tokens n = ap (λ (ps : List (Option Node)). r.parent ∷ ps) (parents_from rs tokens (n + 1))

pub parents-nodes_seen : (rows : List Row) (tokens : List OwnToken) → parents (nodes_seen rows tokens) ≡ row_parents rows
parents-nodes_seen rows tokens = parents_from rows tokens 0

pub get_or-row_parents : (rows : List Row) (k : ℕ) → k < length rows → get_or (row_parents rows) k None ≡ (row_at rows k).parent
get_or-row_parents rows k h = get_or-map (λ (r : Row). r.parent) rows k no_row None h

-- ---- the own tokens

-- only owners and spans are seen
own_spans-bare : (tokens : List OwnToken) (n : ℕ) → own_spans (map bare_token tokens) n ≡ own_spans tokens n
own_spans-bare [] n = refl
own_spans-bare (t ∷ ts) n = elim (cases_Bool (belongs n t)) [
  | inl e ↦ rw e (ap (λ (spans : List Span). t.span ∷ spans) (own_spans-bare ts n))
  | inr e ↦ rw e (own_spans-bare ts n)
]

own_spans-same : (old new : List OwnToken) (n : ℕ) → SameTokens old new → own_spans new n ≡ own_spans old n
own_spans-same old new n s =
    let bare : map bare_token new ≡ map bare_token old = ext_get_or (bare_token no_token) (map bare_token new) (map bare_token old) (omega (arith, s.len, length-map new bare_token, length-map old bare_token))
    (λ k h. get_or-map bare_token new k no_token (bare_token no_token) (omega (arith, length-map new bare_token)) ∙ (s.at k ∙ sym (get_or-map bare_token old k no_token (bare_token no_token) (omega (arith, s.len, length-map new bare_token))))) in
    sym (own_spans-bare new n) ∙ (ap (λ (ts : List OwnToken). own_spans ts n) bare ∙ own_spans-bare old n)

own_spans-push : (tokens : List OwnToken) (t : OwnToken) (n : ℕ) → own_spans (tokens ++ t ∷ []) n ≡ own_spans tokens n ++ own_spans (t ∷ []) n
own_spans-push [] t n = refl
own_spans-push (x ∷ xs) t n = elim (cases_Bool (belongs n x)) [
  | inl e ↦ rw e (ap (λ (spans : List Span). x.span ∷ spans) (own_spans-push xs t n))
  | inr e ↦ rw e (own_spans-push xs t n)
]

-- a node that is nobody's owner has none
own_spans-none : (tokens : List OwnToken) (n : ℕ) → ((k : ℕ) → k < length tokens → owner_at tokens k < n) → own_spans tokens n ≡ []
own_spans-none [] n below = refl
own_spans-none (t ∷ ts) n below =
    let other : belongs n t ≡ false = ne_eqb t.owner.0 n (λ e. omega (arith, below 0 (omega arith))) in
    rw other (own_spans-none ts n (λ k h. below (suc k) (omega arith)))

-- ---- changes

pub nodes_seen-same : (old new : List Row) (tokens after : List OwnToken) → SameRows old new → SameTokens tokens after → nodes_seen new after ≡ nodes_seen old tokens
nodes_seen-same old new tokens after s t =
    same_lists (nodes_seen new after) (nodes_seen old tokens) (omega (arith, s.len, length-nodes_seen new after, length-nodes_seen old tokens))
    (λ k d h. let in_new : k < length new = omega (arith, length-nodes_seen new after) in
    get_or-nodes_seen new after k d in_new
    ∙ (at k ∙ sym (get_or-nodes_seen old tokens k d (omega (arith, s.len)))))
  where
    bare_seen : List Span → Row → TreeNode
    bare_seen own r = record { kind = r.kind; parent = r.parent; span = r.span; own = own }

    at : (k : ℕ) → node_seen after (k, row_at new k) ≡ node_seen tokens (k, row_at old k)
    at k =
        let own : own_spans after k ≡ own_spans tokens k = own_spans-same tokens after k t in
        let row : bare_row (row_at new k) ≡ bare_row (row_at old k) = s.at k in
        rw own (ap (λ (r : Row). bare_seen (own_spans tokens k) r) row)

-- a row more
pub nodes_seen-push : (rows : List Row) (tokens : List OwnToken) (r : Row) → OwnersAre rows tokens → nodes_seen (rows ++ r ∷ []) tokens ≡ nodes_seen rows tokens ++ record { kind = r.kind; parent = r.parent; span = r.span; own = [] } ∷ []
nodes_seen-push rows tokens r owners =
    ap (map (node_seen tokens)) (enumerate_push 0 rows r)
    ∙ (map_push (node_seen tokens) (enumerate_from 0 rows) (0 + length rows, r)
    ∙ ap (λ (own : List Span). nodes_seen rows tokens ++ seen_with own ∷ []) (own_spans-none tokens (0 + length rows) (λ k h. omega (arith, owners k h))))
  where
    seen_with : List Span → TreeNode
    seen_with own = record { kind = r.kind; parent = r.parent; span = r.span; own = own }

    enumerate_push : (n : ℕ) (xs : List Row) (x : Row) → enumerate_from n (xs ++ x ∷ []) ≡ enumerate_from n xs ++ (n + length xs, x) ∷ []
    enumerate_push n [] x = rw add-zero refl
    enumerate_push n (y ∷ ys) x =
        let e : n + 1 + length ys ≡ n + suc (length ys) = omega arith in
        ap (λ (rest : List (ℕ × Row)). (n, y) ∷ rest) (enumerate_push (n + 1) ys x ∙ ap (λ (k : ℕ). enumerate_from (n + 1) ys ++ (k, x) ∷ []) e)

length-amended : (change : TreeNode → TreeNode) (xs : List TreeNode) (n : ℕ) → length (amended change xs n) ≡ length xs
length-amended change [] n = refl
length-amended change (x ∷ xs) zero = refl
length-amended change (x ∷ xs) (suc n) = ap suc (length-amended change xs n)

amended_here : (change : TreeNode → TreeNode) (xs : List TreeNode) (n : ℕ) (d : TreeNode) → n < length xs → get_or (amended change xs n) n d ≡ change (get_or xs n d)
amended_here change [] n d h = absurd (omega arith)
amended_here change (x ∷ xs) zero d h = refl
amended_here change (x ∷ xs) (suc n) d h = amended_here change xs n d (omega arith)

amended_else : (change : TreeNode → TreeNode) (xs : List TreeNode) (n k : ℕ) (d : TreeNode) → k ≢ n → get_or (amended change xs n) k d ≡ get_or xs k d
amended_else change [] n k d other = refl
amended_else change (x ∷ xs) zero zero d other = absurd (other refl)
amended_else change (x ∷ xs) zero (suc k) d other = refl
amended_else change (x ∷ xs) (suc n) zero d other = refl
amended_else change (x ∷ xs) (suc n) (suc k) d other = amended_else change xs n k d (λ e. other (ap suc e))

-- nodes that are seen as the others but for one that was changed
amended_by : (change : TreeNode → TreeNode) (old new : List Row) (tokens after : List OwnToken) (n : ℕ) → length new ≡ length old → n < length old
    → node_seen after (n, row_at new n) ≡ change (node_seen tokens (n, row_at old n))
    → ((k : ℕ) → k ≢ n → node_seen after (k, row_at new k) ≡ node_seen tokens (k, row_at old k))
    → nodes_seen new after ≡ amended change (nodes_seen old tokens) n
amended_by change old new tokens after n len h here else' =
    same_lists (nodes_seen new after) (amended change (nodes_seen old tokens) n) (omega (arith, len, length-nodes_seen new after, length-amended change (nodes_seen old tokens) n, length-nodes_seen old tokens))
    (λ k d l. let in_new : k < length new = omega (arith, length-nodes_seen new after) in
    let in_old : k < length old = omega (arith, len) in
    get_or-nodes_seen new after k d in_new ∙ elim (cases_eq k n) [
      | inl at ↦ rw at (here ∙ sym (amended_here change (nodes_seen old tokens) n d (omega (arith, length-nodes_seen old tokens)) ∙ ap change (get_or-nodes_seen old tokens n d h)))
      | inr other ↦ else' k other ∙ sym (amended_else change (nodes_seen old tokens) n k d other ∙ get_or-nodes_seen old tokens k d in_old)
    ])

-- a row that ends
abbrev pub ended_row : Row → ℕ → ℕ → Row
ended_row r to end = record { kind = r.kind; parent = r.parent; span = record { from = r.span.from; to = to }; end = end; sibling_before = r.sibling_before; first_own = r.first_own }

pub nodes_seen-set : (rows : List Row) (tokens : List OwnToken) (n to end : ℕ) → n < length rows
    → nodes_seen (set rows n (ended_row (row_at rows n) to end)) tokens ≡ amended (ends_at to) (nodes_seen rows tokens) n
nodes_seen-set rows tokens n to end h =
    amended_by (ends_at to) rows (set rows n (ended_row (row_at rows n) to end)) tokens tokens n (length-set rows n (ended_row (row_at rows n) to end)) h
    (rw (get_or-set_same rows n (ended_row (row_at rows n) to end) no_row h) refl)
    (λ k other. rw (get_or-set_other rows n k (ended_row (row_at rows n) to end) no_row other) refl)

-- a token more
pub nodes_seen-gain : (rows : List Row) (tokens : List OwnToken) (t : OwnToken) → t.owner.0 < length rows
    → nodes_seen rows (tokens ++ t ∷ []) ≡ amended (gains t.span) (nodes_seen rows tokens) t.owner.0
nodes_seen-gain rows tokens t h =
    amended_by (gains t.span) rows rows tokens (tokens ++ t ∷ []) t.owner.0 refl h
    (ap (seen_with t.owner.0) (own_spans-push tokens t t.owner.0 ∙ ap (λ (spans : List Span). own_spans tokens t.owner.0 ++ spans) (mine (eq-eqb t.owner.0 t.owner.0 refl))))
    (λ k other. ap (seen_with k) (own_spans-push tokens t k ∙ (ap (λ (spans : List Span). own_spans tokens k ++ spans) (others k (ne_eqb t.owner.0 k (λ e. other (sym e)))) ∙ append-nil (own_spans tokens k))))
  where
    seen_with : ℕ → List Span → TreeNode
    seen_with k own = record { kind = (row_at rows k).kind; parent = (row_at rows k).parent; span = (row_at rows k).span; own = own }

    mine : belongs t.owner.0 t ≡ true → own_spans (t ∷ []) t.owner.0 ≡ t.span ∷ []
    mine e = rw e refl

    others : (k : ℕ) → belongs k t ≡ false → own_spans (t ∷ []) k ≡ []
    others k e = rw e refl

-- linking changes no parent
row_parents-same : (old new : List Row) → SameRows old new → row_parents new ≡ row_parents old
row_parents-same old new s =
    ext_get_or None (row_parents new) (row_parents old) (omega (arith, s.len, length-map new (λ (r : Row). r.parent), length-map old (λ (r : Row). r.parent)))
    (λ k h. let in_new : k < length new = omega (arith, length-map new (λ (r : Row). r.parent)) in
    get_or-row_parents new k in_new ∙ (ap (λ (r : Row). r.parent) (s.at k) ∙ sym (get_or-row_parents old k (omega (arith, s.len)))))

-- and no depth
pub greatest_depth_same : (old new : List Row) → SameRows old new → greatest_depth_in (row_parents new) ≡ greatest_depth_in (row_parents old)
greatest_depth_same old new s = ap greatest_depth_in (row_parents-same old new s)
