-- What the parts of an expression make, where their names are names and their strings are texts.
use Rattle.std.proofs.Common.{ℕ, Bool, true, false, List, [], ◌∷◌, ◌++◌, map, Option, Some, None}
use Rattle.std.specs.Prelude.{⊤}
use Rattle.pj_xexpressions.specs.declared.axis.Axis.{Axis}
use Rattle.pj_xexpressions.specs.declared.axis.Axis.TheVariants as axes
use Rattle.pj_xexpressions.specs.declared.operator.Compare.{Compare}
use Rattle.pj_xexpressions.specs.declared.operator.Sign.{Sign}
use Rattle.pj_xexpressions.specs.declared.expr.NodeTest.{NodeTest}
use Rattle.pj_xexpressions.specs.declared.expr.NodeTest.TheVariants.{Name, AnyNode}
use Rattle.pj_xexpressions.specs.declared.name.Callee.{Callee}
use Rattle.pj_xexpressions.specs.declared.name.Callee.TheVariants as callee
use Rattle.pj_xexpressions.specs.Names.{callee_of, axis_of}
use Rattle.pj_xexpressions.specs.Trees as tree
use Rattle.pj_xexpressions.specs.Trees.{Tree, Construct, node, alone, trees}
use Rattle.pj_xtokens.specs.Tokens.{Lexed}
use Rattle.pj_xgrammar.specs.declared.rule.Rule.{Rule}
use Rattle.pj_xgrammar.specs.declared.rule.Rule.TheVariants as r
use Rattle.pj_xreadings.specs.Steps as forms
use Rattle.pj_xreadings.specs.Spelled.{IsName, AreNames, IsTestSpelled, IsConstructSpelled, IsSpelled, AreSpelled}
use Rattle.pj_xreadings.specs.Operands.{Operand, Binding, Arguments, Behind, Test, Called, Predicates, trees_of, operations, bindings_of, arguments_in, chain, mixed, compared, ranging, bound, chosen, rooted, path, filtered, kind_test, named}
use Rattle.pj_xmeaning.specs.RuleMeanings.{Value}

-- ---- trees

-- each tree is spelled
abbrev pub AllSpelled : List Tree → Type 0
AllSpelled [] = ⊤
AllSpelled (t ∷ ts) = IsSpelled t × AllSpelled ts

trees_spelled : (ts : List Tree) → AllSpelled ts → AreSpelled (trees ts)
unfolding IsSpelled AreSpelled
trees_spelled [] h = tt
trees_spelled (t ∷ ts) h = (h.0, trees_spelled ts h.1)

pub node_spelled : (c : Construct) (ts : List Tree) → IsConstructSpelled c → AllSpelled ts → IsSpelled (node c ts)
unfolding IsSpelled AreSpelled
node_spelled c ts h g = (h, trees_spelled ts g)

pub alone_spelled : (c : Construct) → IsConstructSpelled c → IsSpelled (alone c)
alone_spelled c h = node_spelled c [] h tt

-- ---- what is said of the value of a rule

abbrev pub OneSpelled : Operand → Type 0
OneSpelled a = IsSpelled a.tree

abbrev pub ListSpelled : List Operand → Type 0
ListSpelled many = AllSpelled (trees_of many)

-- operands behind operators of their own
abbrev pub MixedSpelled : {Operator : Type 0} → List (Operator × Operand) → Type 0
MixedSpelled many = AllSpelled (map (λ next. next.1) (operations many))

abbrev pub ComparedSpelled : Option (Compare × Operand) → Type 0
ComparedSpelled None = ⊤
ComparedSpelled (Some next) = IsSpelled next.1.tree

abbrev pub RangedSpelled : Option Operand → Type 0
RangedSpelled None = ⊤
RangedSpelled (Some last) = IsSpelled last.tree

abbrev pub BindingsSpelled : List Binding → Type 0
BindingsSpelled bindings = AreNames (map (λ binding. binding.0) (bindings_of bindings)) × AllSpelled (map (λ binding. binding.1) (bindings_of bindings))

abbrev pub GivenSpelled : Arguments → Type 0
GivenSpelled arguments = ListSpelled (arguments_in arguments)

abbrev pub BehindSpelled : Behind → Type 0
BehindSpelled (Test test predicates) = IsTestSpelled test × ListSpelled predicates
BehindSpelled (Called arguments predicates) = GivenSpelled arguments × ListSpelled predicates
BehindSpelled (Predicates predicates) = ListSpelled predicates

abbrev pub ValueSpelled : (rule : Rule) → Value rule → Type 0
ValueSpelled r.Expr v = OneSpelled v
ValueSpelled r.ExprTail v = ListSpelled v
ValueSpelled r.ExprSingle v = OneSpelled v
ValueSpelled r.InBindings v = BindingsSpelled v
ValueSpelled r.InBindingsTail v = BindingsSpelled v
ValueSpelled r.LetBindings v = BindingsSpelled v
ValueSpelled r.LetBindingsTail v = BindingsSpelled v
ValueSpelled r.InClause v = OneSpelled v
ValueSpelled r.AssignClause v = OneSpelled v
ValueSpelled r.ReturnClause v = OneSpelled v
ValueSpelled r.SatisfiesClause v = OneSpelled v
ValueSpelled r.TestClause v = OneSpelled v
ValueSpelled r.ThenClause v = OneSpelled v
ValueSpelled r.ElseClause v = OneSpelled v
ValueSpelled r.OrExpr v = OneSpelled v
ValueSpelled r.OrTail v = ListSpelled v
ValueSpelled r.AndExpr v = OneSpelled v
ValueSpelled r.AndTail v = ListSpelled v
ValueSpelled r.ComparisonExpr v = OneSpelled v
ValueSpelled r.ComparisonTail v = ComparedSpelled v
ValueSpelled r.StringConcatExpr v = OneSpelled v
ValueSpelled r.StringConcatTail v = ListSpelled v
ValueSpelled r.RangeExpr v = OneSpelled v
ValueSpelled r.RangeTail v = RangedSpelled v
ValueSpelled r.AdditiveExpr v = OneSpelled v
ValueSpelled r.AdditiveTail v = MixedSpelled v
ValueSpelled r.MultiplicativeExpr v = OneSpelled v
ValueSpelled r.MultiplicativeTail v = MixedSpelled v
ValueSpelled r.UnionExpr v = OneSpelled v
ValueSpelled r.UnionTail v = ListSpelled v
ValueSpelled r.IntersectExceptExpr v = OneSpelled v
ValueSpelled r.IntersectExceptTail v = MixedSpelled v
ValueSpelled r.UnaryExpr v = OneSpelled v
ValueSpelled r.SimpleMapExpr v = OneSpelled v
ValueSpelled r.SimpleMapTail v = ListSpelled v
ValueSpelled r.Operand v = OneSpelled v
ValueSpelled r.LeftOutOperator v = ⊤
ValueSpelled r.PathExpr v = OneSpelled v
ValueSpelled r.RelativePathExpr v = ListSpelled v
ValueSpelled r.RelativePathTail v = ListSpelled v
ValueSpelled r.StepExpr v = OneSpelled v
ValueSpelled r.AxisTail v = BehindSpelled v
ValueSpelled r.NameTail v = BehindSpelled v
ValueSpelled r.NodeTest v = IsTestSpelled v
ValueSpelled r.KindTail v = ⊤
ValueSpelled r.PredicateList v = ListSpelled v
ValueSpelled r.PrimaryExpr v = OneSpelled v
ValueSpelled r.Parenthesized v = OneSpelled v
ValueSpelled r.Arguments v = GivenSpelled v
ValueSpelled r.ArgumentsTail v = GivenSpelled v
ValueSpelled r.VarName v = IsName v
ValueSpelled r.PlainName v = IsName v

-- ---- operands and what stands behind them

pub chain_spelled : (c : Construct) → IsConstructSpelled c → (a : Operand) (many : List Operand) → OneSpelled a → ListSpelled many → OneSpelled (chain c a many)
chain_spelled c is a [] h g = h
chain_spelled c is a (b ∷ many) h g = node_spelled c (a.tree ∷ b.tree ∷ trees_of many) is (h, g)

pub mixed_spelled : {Operator : Type 0} (c : List Operator → Construct) → ((ops : List Operator) → IsConstructSpelled (c ops)) → (a : Operand) (many : List (Operator × Operand)) → OneSpelled a →
    MixedSpelled many → OneSpelled (mixed c a many)
mixed_spelled c is a [] h g = h
mixed_spelled c is a (next ∷ many) h g =
    node_spelled (c (next.0 ∷ map (λ x. x.0) (operations many))) (a.tree ∷ next.1.tree ∷ map (λ x. x.1) (operations many)) (is (next.0 ∷ map (λ x. x.0) (operations many))) (h, g)

pub compared_spelled : (a : Operand) (other : Option (Compare × Operand)) → OneSpelled a → ComparedSpelled other → OneSpelled (compared a other)
compared_spelled a None h g = h
compared_spelled a (Some next) h g = node_spelled (tree.Comparison next.0) (a.tree ∷ next.1.tree ∷ []) tt (h, (g, tt))

pub ranging_spelled : (a : Operand) (last : Option Operand) → OneSpelled a → RangedSpelled last → OneSpelled (ranging a last)
ranging_spelled a None h g = h
ranging_spelled a (Some b) h g = node_spelled tree.Range (a.tree ∷ b.tree ∷ []) tt (h, (g, tt))

pub signed_spelled : (s : Sign) (a : Operand) → OneSpelled a → IsSpelled (node (tree.Unary s) (a.tree ∷ []))
signed_spelled s a h = node_spelled (tree.Unary s) (a.tree ∷ []) tt (h, tt)

pub chosen_spelled : (a b c : Operand) → OneSpelled a → OneSpelled b → OneSpelled c → OneSpelled (chosen a b c)
chosen_spelled a b c h g f = node_spelled tree.If (a.tree ∷ b.tree ∷ c.tree ∷ []) tt (h, (g, (f, tt)))

-- ---- variables

behind_all : (ts : List Tree) (t : Tree) → AllSpelled ts → IsSpelled t → AllSpelled (ts ++ t ∷ [])
behind_all [] t h g = (g, tt)
behind_all (u ∷ ts) t h g = (h.0, behind_all ts t h.1 g)

-- where the construct is spelled whose variables have names
pub bound_spelled : (c : List (List ℕ) → Construct) → ((names : List (List ℕ)) → AreNames names → IsConstructSpelled (c names)) → (bindings : List Binding) (body : Operand) → BindingsSpelled bindings →
    OneSpelled body → OneSpelled (bound c bindings body)
bound_spelled c is bindings body h g =
    node_spelled (c (map (λ x. x.0) (bindings_of bindings))) (map (λ x. x.1) (bindings_of bindings) ++ body.tree ∷ []) (is (map (λ x. x.0) (bindings_of bindings)) h.0)
    (behind_all (map (λ x. x.1) (bindings_of bindings)) body.tree h.1 g)

-- ---- paths and steps

pub descendants_spelled : IsSpelled forms.descendants
descendants_spelled = alone_spelled (tree.Step axes.DescendantOrSelf AnyNode) tt

pub rooted_spelled : (steps : List Operand) → ListSpelled steps → OneSpelled (rooted steps)
rooted_spelled steps h = node_spelled tree.Path (alone tree.Root ∷ trees_of steps) tt (alone_spelled tree.Root tt, h)

pub path_spelled : (steps : List Operand) → ListSpelled steps → OneSpelled (path steps)
path_spelled [] h = node_spelled tree.Path [] tt tt
path_spelled (only ∷ []) h = h.0
path_spelled (first ∷ second ∷ more) h = node_spelled tree.Path (first.tree ∷ second.tree ∷ trees_of more) tt h

pub step_spelled : (a : Axis) (test : NodeTest) (predicates : List Operand) → IsTestSpelled test → ListSpelled predicates → IsSpelled (node (tree.Step a test) (trees_of predicates))
step_spelled a test predicates h g = node_spelled (tree.Step a test) (trees_of predicates) h g

pub attribute_spelled : (test : NodeTest) (predicates : List Operand) → IsTestSpelled test → ListSpelled predicates → IsSpelled (node (tree.AttributeStep test) (trees_of predicates))
attribute_spelled test predicates h g = node_spelled (tree.AttributeStep test) (trees_of predicates) h g

pub filtered_spelled : (a : Operand) (predicates : List Operand) → OneSpelled a → ListSpelled predicates → OneSpelled (filtered a predicates)
filtered_spelled a [] h g = h
filtered_spelled a (first ∷ more) h g = node_spelled tree.Filter (a.tree ∷ first.tree ∷ trees_of more) tt (h, g)

pub kind_test_spelled : (kind : NodeTest) (name : List ℕ) (parentheses : Bool) → IsTestSpelled kind → IsName name → IsTestSpelled (kind_test kind name parentheses)
kind_test_spelled kind name true h g = h
kind_test_spelled kind name false h g = g

along_spelled : (a : Option Axis) (test : NodeTest) (ts : List Tree) → IsTestSpelled test → AllSpelled ts → IsSpelled (forms.along a test ts)
along_spelled (Some a) test ts h g = node_spelled (tree.Step a test) ts h g
along_spelled None test ts h g = node_spelled (tree.AttributeStep test) ts h g

called_spelled : (c : Option Callee) (ts : List Tree) → AllSpelled ts → IsSpelled (forms.called c ts)
called_spelled None ts h = alone_spelled tree.Comma tt
called_spelled (Some (callee.XPath function)) ts h = node_spelled (tree.Call function) ts tt h
called_spelled (Some (callee.Pmd function)) ts h = node_spelled (tree.PmdCall function) ts tt h

with_predicates : (t : Tree) (ts : List Tree) → IsSpelled t → AllSpelled ts → IsSpelled (forms.filtered t ts)
with_predicates t [] h g = h
with_predicates t (first ∷ more) h g = node_spelled tree.Filter (t ∷ first ∷ more) tt (h, g)

pub named_spelled : (tokens : List Lexed) (name : List ℕ) (tail : Behind) → IsName name → BehindSpelled tail → OneSpelled (named tokens name tail)
named_spelled tokens name (Test test predicates) h g = along_spelled (axis_of name) test (trees_of predicates) g.0 g.1
named_spelled tokens name (Called arguments predicates) h g =
    with_predicates (forms.called (callee_of name) (trees_of (arguments_in arguments))) (trees_of predicates) (called_spelled (callee_of name) (trees_of (arguments_in arguments)) g.0) g.1
named_spelled tokens name (Predicates predicates) h g = step_spelled axes.Child (Name name) predicates h g
