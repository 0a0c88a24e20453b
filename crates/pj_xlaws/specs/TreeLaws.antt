-- What two expressions of one tree denote. An `Expr` keeps its parts in boxes and vectors, of whose places no contract
-- speaks, and a text spells a tree: so what follows from a text is what follows from the tree. And what patterns are kept in is
-- not seen: only which are among them.
use Rattle.std.specs.Prelude.{◌≡◌, ℕ, ◌<◌, List, length, Option, IfOk}
use Rattle.std.specs.Option.{ForSome}
use Rattle.pj_names.specs.Asking.{Asking, Return, Ask, Unbounded}
use Rattle.pj_names.specs.declared.answer.Answer.{Answer}
use Rattle.pj_tree.specs.Tree as syntax
use Rattle.pj_tree.specs.declared.node.Node.{Node}
use Rattle.pj_xsteps.specs.Context.{Around, Context, around}
use Rattle.pj_xsteps.specs.Context as bound
use Rattle.pj_xsteps.specs.Denotes.{denotes}
use Rattle.pj_xsteps.specs.Means.{Means}
use Rattle.pj_xexpressions.specs.Trees.{tree_of}
use Rattle.pj_xpatterns.specs.Meaning.{Pattern, has}
use Rattle.pj_xvalue.specs.Items.{ItemValue, IsOfTree}
use Rattle.pj_xvalue.specs.OfTree.{OfTree, ArgumentsOfTree, VariablesOfTree}
use Rattle.pj_xexpressions.specs.declared.expr.Expr.{Expr}
use Rattle.pj_xexpressions.specs.declared.pmd_function.PmdFunction.{PmdFunction}

-- what the functions of PMD reply
abbrev pub Reply : Type 0
Reply = PmdFunction → Option Node → List (List ItemValue) → Means (List ItemValue)

-- Expressions of one tree denote the same.
abbrev pub DenotesByTree : Type 0
DenotesByTree = (around : Around) (reply : Reply) (a b : Expr) → tree_of a ≡ tree_of b → denotes around reply a ≡ denotes around reply b

-- An expression denotes the same where the same patterns are among those that are known.
abbrev pub DenotesByPatterns : Type 0
DenotesByPatterns = (tree : syntax.Tree) (attribute_of : Node → List ℕ → Option ItemValue) (names_of : Node → List (List ℕ)) (reply : Reply) (some others : List Pattern) (e : Expr)
    → ((pattern : Pattern) → has some pattern ≡ has others pattern) → denotes (around tree attribute_of names_of some) reply e ≡ denotes (around tree attribute_of names_of others) reply e

-- ---- attributes

-- whatever the classes that are asked for are, and however deep recursions go, what a meaning comes to has the property
abbrev pub Always : {A : Type 0} → (A → Type 0) → Asking A → Type 0
Always P (Return value) = P value
Always P (Ask name rest) = (answer : Answer) → Always P (rest answer)
Always P (Unbounded recursion) = (depth : ℕ) → Always P (recursion depth)

-- The values of the attributes of a tree's nodes are of the tree.
abbrev pub ValuesOfTree : ℕ → (Node → List ℕ → Option ItemValue) → Type 0
ValuesOfTree nodes attribute_of = (n : Node) (name : List ℕ) → n.0 < nodes → ForSome (attribute_of n name) (IsOfTree nodes)

-- What the functions of PMD reply is of the tree, where they are called with what is of the tree.
abbrev pub RepliesOfTree : ℕ → Reply → Type 0
RepliesOfTree nodes reply = (function : PmdFunction) (at : Option Node) (arguments : List (List ItemValue)) → ForSome at (λ n. n.0 < nodes) → ArgumentsOfTree nodes arguments
    → Always (λ result. IfOk result (OfTree nodes)) (reply function at arguments)

-- An expression denotes the same, in what is of the tree, where the attributes of the tree's nodes have the same names and values.
abbrev pub DenotesByFacts : Type 0
DenotesByFacts = (t : syntax.Tree) (values others : Node → List ℕ → Option ItemValue) (names other_names : Node → List (List ℕ)) (patterns : List Pattern) (reply : Reply) (e : Expr) (c : Context) (v : bound.Variables)
    → 0 < length t.nodes → ValuesOfTree (length t.nodes) values → RepliesOfTree (length t.nodes) reply
    → ((n : Node) → n.0 < length t.nodes → names n ≡ other_names n) → ((n : Node) (name : List ℕ) → n.0 < length t.nodes → values n name ≡ others n name)
    → IsOfTree (length t.nodes) c.item → VariablesOfTree (length t.nodes) v
    → denotes (around t values names patterns) reply e c v ≡ denotes (around t others other_names patterns) reply e c v

-- What an expression denotes in what is of the tree is of the tree.
abbrev pub DenotesOfTree : Type 0
DenotesOfTree = (t : syntax.Tree) (values : Node → List ℕ → Option ItemValue) (names : Node → List (List ℕ)) (patterns : List Pattern) (reply : Reply) (e : Expr) (c : Context) (v : bound.Variables)
    → 0 < length t.nodes → ValuesOfTree (length t.nodes) values → RepliesOfTree (length t.nodes) reply → IsOfTree (length t.nodes) c.item → VariablesOfTree (length t.nodes) v
    → Always (λ result. IfOk result (OfTree (length t.nodes))) (denotes (around t values names patterns) reply e c v)
