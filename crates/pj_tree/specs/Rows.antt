-- What is kept of the nodes and tokens, beside what contracts see. No public clause names it.
use Rattle.std.specs.Prelude.{ℕ, ◌≡◌, ◌≢◌, ◌+◌, ◌<◌, ◌≤◌, ◌==◌, Bool, Option, None, Some, List, [], length, drop, map, filter, slice_index_or}
use Rattle.std.specs.List.{enumerate_from}
use Rattle.std.specs.Option.{option_map_or}
use Rattle.pj_tree.specs.Tree.{TreeNode, ancestors, node_numbered, is_parent, slice_at, IsSpanOf, greatest_depth_in}
use Rattle.pj_tree.specs.declared.kind.Kind.TheVariants.{CompilationUnit}
use Rattle.pj_tree.specs.declared.node.Node.{Node}
use Rattle.pj_tree.specs.declared.node.Span.{Span}
use Rattle.pj_tree.specs.declared.row.Row.{Row}
use Rattle.pj_tree.specs.declared.row.OwnToken.{OwnToken}

-- past every node and token
abbrev pub beyond : ℕ
beyond = 0xFFFF_FFFF

abbrev pub no_span : Span
no_span = record { from = 0; to = 0 }

abbrev pub no_row : Row
no_row = record { kind = CompilationUnit; parent = None; span = no_span; end = 0; sibling_before = 0; first_own = 0 }

abbrev pub no_token : OwnToken
no_token = record { owner = record { 0 = 0 }; span = no_span; next = 0 }

abbrev pub row_at : List Row → ℕ → Row
row_at rows k = slice_index_or rows k no_row

abbrev pub end_at : List Row → ℕ → ℕ
end_at rows k = (row_at rows k).end

abbrev pub token_at : List OwnToken → ℕ → OwnToken
token_at tokens k = slice_index_or tokens k no_token

abbrev pub owner_at : List OwnToken → ℕ → ℕ
owner_at tokens k = (token_at tokens k).owner.0

-- ---- what contracts see

abbrev pub belongs : ℕ → OwnToken → Bool
belongs n t = t.owner.0 == n

abbrev pub spans_of : List OwnToken → List Span
spans_of tokens = map (λ t. t.span) tokens

abbrev pub own_spans : List OwnToken → ℕ → List Span
own_spans tokens n = spans_of (filter (belongs n) tokens)

abbrev pub node_seen : List OwnToken → ℕ × Row → TreeNode
node_seen tokens p = record { kind = p.1.kind; parent = p.1.parent; span = p.1.span; own = own_spans tokens p.0 }

abbrev pub nodes_seen : List Row → List OwnToken → List TreeNode
nodes_seen rows tokens = map (node_seen tokens) (enumerate_from 0 rows)

abbrev pub row_parents : List Row → List (Option Node)
row_parents rows = map (λ r. r.parent) rows

-- ---- the ends of subtrees

-- one more than the number of the node, and 0 for none
abbrev pub above : Option Node → ℕ
above o = option_map_or (λ p. p.0 + 1) o 0

abbrev pub above_at : List Row → ℕ → ℕ
above_at rows k = above (row_at rows k).parent

-- a parent stands before its children, and they stand before its end
pub record HasEnds (rows : List Row) : Type 0 where
  -- a subtree has its node
  pub past : (n : ℕ) → n < length rows → n < end_at rows n
  -- a node has a smaller number than its children, and they stand before its end
  pub above_below : (m : ℕ) → m < length rows → above_at rows m ≤ m
  pub before_end : (m n : ℕ) → m < length rows → above_at rows m ≡ n + 1 → m < end_at rows n
  -- what stands between a node and its end has its parent there too, or is a child of it
  pub inside : (n m : ℕ) → n < m → m < length rows → m < end_at rows n → n < above_at rows m
  pub nested : (n m : ℕ) → n < m → m < length rows → m < end_at rows n → end_at rows m ≤ end_at rows n

-- no subtree is open
abbrev pub AllEnded : List Row → Type 0
AllEnded rows = (n : ℕ) → n < length rows → end_at rows n ≤ length rows

-- ---- siblings

-- j is the last row before i that stands below this parent, or is not before i where none does; the parent is given by one more than its number
pub record IsLastBelow (rows : List Row) (parent i j : ℕ) : Type 0 where
  pub is : j < i → above_at rows j ≡ parent
  pub none : (k : ℕ) → k < i → (j < i → j < k) → above_at rows k ≢ parent

-- each row leads to the sibling before
abbrev pub LeadsBack : List Row → Type 0
LeadsBack rows = (n : ℕ) → n < length rows → IsLastBelow rows (above_at rows n) n (row_at rows n).sibling_before

-- ---- own tokens

-- no token from i up to but not including j is one of n
abbrev pub NoneBetween : List OwnToken → ℕ → ℕ → ℕ → Type 0
NoneBetween tokens n i j = (k : ℕ) → i ≤ k → k < j → k < length tokens → owner_at tokens k ≢ n

-- j is the first token of n from i on, or past all tokens where there is none
pub record IsNextOf (tokens : List OwnToken) (n i j : ℕ) : Type 0 where
  pub from : i ≤ j
  pub none : NoneBetween tokens n i j
  pub is : j < length tokens → owner_at tokens j ≡ n

-- each token from i on leads to the next of its owner
abbrev pub LeadsOn : List OwnToken → ℕ → Type 0
LeadsOn tokens i = (k : ℕ) → i ≤ k → k < length tokens → IsNextOf tokens (owner_at tokens k) (k + 1) (token_at tokens k).next

-- each node leads to its first token from i on
abbrev pub LeadsIn : List Row → List OwnToken → ℕ → Type 0
LeadsIn rows tokens i = (n : ℕ) → n < length rows → IsNextOf tokens n i (row_at rows n).first_own

abbrev pub OwnersAre : List Row → List OwnToken → Type 0
OwnersAre rows tokens = (k : ℕ) → k < length tokens → owner_at tokens k < length rows

abbrev pub TokenSpans : List ℕ → List OwnToken → Type 0
TokenSpans text tokens = (k : ℕ) → k < length tokens → IsSpanOf text (token_at tokens k).span

-- no node leads to a token yet
abbrev pub Unlinked : List Row → Type 0
Unlinked rows = (n : ℕ) → n < length rows → (row_at rows n).first_own ≡ beyond

-- a row and a token but for what they lead to
abbrev pub bare_row : Row → Row
bare_row r = record { kind = r.kind; parent = r.parent; span = r.span; end = r.end; sibling_before = r.sibling_before; first_own = 0 }

abbrev pub bare_token : OwnToken → OwnToken
bare_token t = record { owner = t.owner; span = t.span; next = 0 }

-- the rows are the same but for what they lead to
pub record SameRows (old new : List Row) : Type 0 where
  pub len : length new ≡ length old
  pub at : (k : ℕ) → bare_row (row_at new k) ≡ bare_row (row_at old k)

-- and so are the tokens
pub record SameTokens (old new : List OwnToken) : Type 0 where
  pub len : length new ≡ length old
  pub at : (k : ℕ) → bare_token (token_at new k) ≡ bare_token (token_at old k)

-- ---- the invariants

-- the depth of the node, and 0 for none
abbrev pub depth_in : List (Option Node) → Option Node → ℕ
depth_in ps None = 0
depth_in ps (Some n) = length (slice_index_or (ancestors ps) n.0 []) + 1

-- of a builder
pub record IsBuilding (rows : List Row) (tokens : List OwnToken) (current : Option Node) (depth deepest last_child : ℕ) : Type 0 where
  pub few : length rows < beyond
  pub few_tokens : length tokens < beyond
  pub ends : HasEnds rows
  -- the open nodes are those without an end yet, and the current one is the last of them
  pub ended : (n : ℕ) → n < length rows → length rows < end_at rows n → (end_at rows n ≡ beyond) × (n < above current)
  pub current_below : above current ≤ length rows
  pub current_open : (n : ℕ) → above current ≡ n + 1 → end_at rows n ≡ beyond
  pub siblings : LeadsBack rows
  pub last_child_is : IsLastBelow rows (above current) (length rows) last_child
  pub owners : OwnersAre rows tokens
  pub unlinked : Unlinked rows
  pub depth_is : depth ≡ depth_in (row_parents rows) current
  pub deepest_is : deepest ≡ greatest_depth_in (row_parents rows)
  pub shallow : deepest ≤ length rows
  pub depth_small : depth ≤ deepest

-- of a tree
pub record IsTree (text : List ℕ) (rows : List Row) (tokens : List OwnToken) : Type 0 where
  pub few : length rows ≤ 2000000
  pub few_tokens : length tokens ≤ 4294967294
  pub shallow : greatest_depth_in (row_parents rows) ≤ 1000
  pub rooted : 0 < length rows
  pub ends : HasEnds rows
  pub ended : AllEnded rows
  pub siblings : LeadsBack rows
  pub one_root : (n : ℕ) → 0 < n → n < length rows → 0 < above_at rows n
  pub spans : (n : ℕ) → n < length rows → IsSpanOf text (row_at rows n).span
  pub leads_on : LeadsOn tokens 0
  pub leads_in : LeadsIn rows tokens 0
  pub token_spans : TokenSpans text tokens

-- of the children that are left to come, from the number next on
pub record IsAmongChildren (rows : List Row) (parent : Node) (next end : ℕ) : Type 0 where
  pub ends : HasEnds rows
  pub ended : AllEnded rows
  pub inside : parent.0 < length rows
  pub end_is : end ≡ end_at rows parent.0
  pub from : parent.0 < next
  pub to : next ≤ end
  pub is : next < end → above_at rows next ≡ parent.0 + 1

abbrev pub children_left : List Row → Node → ℕ → List Node
children_left rows parent next = map node_numbered (filter (λ p. is_parent parent p.1) (drop next (enumerate_from 0 (row_parents rows))))

-- of the own tokens that are left to come, from the index next on
pub record IsAmongTokens (text : List ℕ) (tokens : List OwnToken) (owner : Node) (next : ℕ) : Type 0 where
  pub leads_on : LeadsOn tokens 0
  pub token_spans : TokenSpans text tokens
  pub is : next < length tokens → owner_at tokens next ≡ owner.0

abbrev pub texts_left : List ℕ → List OwnToken → Node → ℕ → List (List ℕ)
texts_left text tokens owner next = map (slice_at text) (spans_of (filter (belongs owner.0) (drop next tokens)))

-- of the linking, once all tokens from i on were passed
pub record IsLinkedFrom (old_rows : List Row) (old_tokens : List OwnToken) (rows : List Row) (tokens : List OwnToken) (i : ℕ) : Type 0 where
  pub same_rows : SameRows old_rows rows
  pub same_tokens : SameTokens old_tokens tokens
  pub within : i ≤ length old_tokens
  pub leads_on : LeadsOn tokens i
  pub leads_in : LeadsIn rows tokens i
