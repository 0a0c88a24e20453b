-- The texts of a tree that are no stretches of its text.
use Rattle.std.specs.Prelude.{ℕ, ◌+◌, ◌≡◌, ◌==◌, if◌then◌else◌, Option, None, Some, List, [], ◌∷◌, ◌++◌, map}
use Rattle.std.specs.Option.{option_and_then}
use Rattle.pj_tree.specs.Tree.{TreeNode, Tree, node_of, slice_at}
use Rattle.pj_tree.specs.declared.kind.Kind.{Kind}
use Rattle.pj_tree.specs.declared.kind.Kind.TheVariants as k
use Rattle.pj_tree.specs.declared.node.Node.{Node}
use Rattle.pj_parse.specs.Names.{identifiers, dotted, dotted_qualifier, first_value}
use Rattle.pj_parse.specs.declared.content.Content.{Content}
use Rattle.pj_parse.specs.declared.entry.Entry.{Entry}
use Rattle.pj_parse.specs.declared.content.Content.TheVariants.{Value, Name, Qualifier, Nothing}

-- what is kept of a node of the kind
abbrev pub content_of : Kind → Content
content_of k.CharLiteral = Value
content_of k.StringLiteral = Value
content_of k.PackageDeclaration = Name
content_of k.ImportDeclaration = Name
content_of k.ClassType = Qualifier
content_of other = Nothing

-- the text that is kept, by the words of the node: the texts of its own tokens
abbrev pub text_by : Content → List (List ℕ) → Option (List ℕ)
text_by Value words = first_value words
text_by Name words = Some (dotted (identifiers words))
text_by Qualifier words = dotted_qualifier (identifiers words)
text_by Nothing words = None

abbrev pub kept_text : List ℕ → TreeNode → Option (List ℕ)
kept_text text x = text_by (content_of x.kind) (map (slice_at text) x.own)

-- the text that is kept of a node of a tree
abbrev pub pool_text : Tree → Node → Option (List ℕ)
pool_text t n = option_and_then (kept_text t.text) (node_of t n)

-- ---- pools

-- the text that a pool has of a node: that of its first entry of the node
abbrev pub text_in : List Entry → Node → Option (List ℕ)
text_in [] n = None
text_in (e ∷ es) n = if e.node.0 == n.0 then Some e.text else text_in es n

abbrev pub entry_of : ℕ → Option (List ℕ) → List Entry
entry_of n None = []
entry_of n (Some text) = record { node = record { 0 = n }; text = text } ∷ []

-- the entries of nodes, the first of which has this number
abbrev pub entries_from : List ℕ → ℕ → List TreeNode → List Entry
entries_from text n [] = []
entries_from text n (x ∷ xs) = entry_of n (kept_text text x) ++ entries_from text (n + 1) xs

-- the pool of a tree: an entry for each node of which a text is kept, in the order of the nodes
abbrev pub pool_of : Tree → List Entry
pool_of t = entries_from t.text 0 t.nodes

-- The pool has the texts of the tree, and no other.
abbrev pub IsPoolOf : Tree → List Entry → Type 0
IsPoolOf t pool = (n : Node) → text_in pool n ≡ pool_text t n
