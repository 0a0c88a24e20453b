-- What the parts of an expression make, where each of them is the tree of an expression and lists of them are no longer than their tokens allow.
use Rattle.std.proofs.Common.{◌+◌, ◌*◌, ◌<◌, ◌≤◌, ◌^◌, ℕ, ℤ, List, [], ◌∷◌, length, map, Option, Some, None, arith, le_trans}
use Rattle.std.specs.Prelude.{⊤}
use Rattle.std.proofs.lemmas.List.{length-map}
use Rattle.pj_xexpressions.specs.declared.axis.Axis.{Axis}
use Rattle.pj_xexpressions.specs.declared.axis.Axis.TheVariants as axes
use Rattle.pj_xexpressions.specs.declared.function.Function.{Function}
use Rattle.pj_xexpressions.specs.declared.pmd_function.PmdFunction.{PmdFunction}
use Rattle.pj_xexpressions.specs.declared.operator.Compare.{Compare}
use Rattle.pj_xexpressions.specs.declared.operator.Quantifier.{Quantifier}
use Rattle.pj_xexpressions.specs.declared.operator.Sign.{Sign}
use Rattle.pj_xexpressions.specs.declared.expr.NodeTest.{NodeTest}
use Rattle.pj_xexpressions.specs.declared.expr.NodeTest.TheVariants.{Name, AnyNode}
use Rattle.pj_xexpressions.specs.declared.expr.Expr.TheVariants as expr
use Rattle.pj_xexpressions.specs.declared.name.Callee.{Callee}
use Rattle.pj_xexpressions.specs.declared.name.Callee.TheVariants as callee
use Rattle.pj_xexpressions.specs.Names.{callee_of, axis_of}
use Rattle.pj_xexpressions.specs.Trees as tree
use Rattle.pj_xexpressions.specs.Trees.{Tree, Construct, node, alone}
use Rattle.pj_xtokens.specs.Tokens.{Lexed}
use Rattle.pj_xgrammar.specs.declared.rule.Rule.{Rule}
use Rattle.pj_xgrammar.specs.declared.rule.Rule.TheVariants as r
use Rattle.pj_xreadings.specs.Steps as forms
use Rattle.pj_xreadings.specs.Operands.{Operand, Binding, Arguments, Behind, Test, Called, Predicates, trees_of, operations, bindings_of, arguments_in, chain, mixed, compared, ranging, bound, chosen, rooted, path, filtered, named}
use Rattle.pj_xreadings.proofs.TreeForms.{tree_of_comma, tree_of_for, tree_of_let, tree_of_quantified, tree_of_if, tree_of_or, tree_of_and, tree_of_comparison, tree_of_concatenation, tree_of_range, tree_of_additive, tree_of_multiplicative, tree_of_union, tree_of_intersect_except, tree_of_unary, tree_of_simple_map, tree_of_path, tree_of_root, tree_of_step, tree_of_attribute_step, tree_of_integer, tree_of_string, tree_of_variable, tree_of_context_item, tree_of_call, tree_of_pmd_call}
use Rattle.pj_xmeaning.specs.RuleMeanings.{Value}
use Rattle.pj_xsizes.proofs.Made.{HasExpr, HaveExprs, OfParts, of_parts, OfOperands, of_operands, OfVariables, of_variables, of_one, of_two, of_three, filter_made}

-- ---- the forms

pub commas : OfParts tree.Comma
commas parts = (expr.Comma parts, tree_of_comma parts)

pub ors : OfParts tree.Or
ors parts = (expr.Or parts, tree_of_or parts)

pub ands : OfParts tree.And
ands parts = (expr.And parts, tree_of_and parts)

pub concatenations : OfParts tree.Concatenation
concatenations parts = (expr.Concatenation parts, tree_of_concatenation parts)

pub unions : OfParts tree.Union
unions parts = (expr.Union parts, tree_of_union parts)

pub simple_maps : OfParts tree.SimpleMap
simple_maps parts = (expr.SimpleMap parts, tree_of_simple_map parts)

pub paths : OfParts tree.Path
paths parts = (expr.Path parts, tree_of_path parts)

steps : (axis : Axis) (test : NodeTest) → OfParts (tree.Step axis test)
steps axis test parts = (expr.Step axis test parts, tree_of_step axis test parts)

attribute_steps : (test : NodeTest) → OfParts (tree.AttributeStep test)
attribute_steps test parts = (expr.AttributeStep test parts, tree_of_attribute_step test parts)

calls : (function : Function) → OfParts (tree.Call function)
calls function parts = (expr.Call function parts, tree_of_call function parts)

pmd_calls : (function : PmdFunction) → OfParts (tree.PmdCall function)
pmd_calls function parts = (expr.PmdCall function parts, tree_of_pmd_call function parts)

pub sums : OfOperands tree.Additive'
sums first rest = (expr.Additive first rest, tree_of_additive first rest)

pub products : OfOperands tree.Multiplicative'
products first rest = (expr.Multiplicative first rest, tree_of_multiplicative first rest)

pub sets : OfOperands tree.IntersectExcept
sets first rest = (expr.IntersectExcept first rest, tree_of_intersect_except first rest)

pub fors : OfVariables tree.For
fors variables body = (expr.For variables body, tree_of_for variables body)

pub lets : OfVariables tree.Let
lets variables body = (expr.Let variables body, tree_of_let variables body)

pub quantified : (quantifier : Quantifier) → OfVariables (tree.Quantified quantifier)
quantified quantifier variables body = (expr.Quantified quantifier variables body, tree_of_quantified quantifier variables body)

pub root_made : HasExpr (alone tree.Root)
root_made = (expr.Root, tree_of_root)

pub context_made : HasExpr (alone tree.ContextItem)
context_made = (expr.ContextItem, tree_of_context_item)

pub integer_made : (value : Option ℤ) → HasExpr (alone (tree.Integer value))
integer_made value = (expr.Integer value, tree_of_integer value)

pub string_made : (text : List ℕ) → HasExpr (alone (tree.String text))
string_made text = (expr.String text, tree_of_string text)

pub variable_made : (name : List ℕ) → HasExpr (alone (tree.Variable name))
variable_made name = (expr.Variable name, tree_of_variable name)

-- the empty sequence
pub empty_made : HasExpr forms.empty_sequence
empty_made = of_parts tree.Comma commas [] tt (omega arith)

-- ---- tokens

-- they are not too many
pub record Few (xs : List Lexed) : Type 0 where
  pub count : length xs ≤ 2 ^ 32

-- they are no more than those
pub record IsLeft (ys xs : List Lexed) : Type 0 where
  pub count : length ys ≤ length xs

-- they are fewer
pub record IsTaken (ys xs : List Lexed) : Type 0 where
  pub count : length ys < length xs

pub here : {xs : List Lexed} → IsLeft xs xs
here = record { count = omega arith }

pub after : {xs ys zs : List Lexed} → IsLeft zs ys → IsLeft ys xs → IsLeft zs xs
after i j = record { count = le_trans i.count j.count }

pub few : {xs ys : List Lexed} → IsLeft ys xs → Few xs → Few ys
few i h = record { count = le_trans i.count h.count }

pub left : {xs ys : List Lexed} → IsTaken ys xs → IsLeft ys xs
left i = let n = i.count in record { count = omega arith }

-- ---- lists of trees

-- each is the tree of an expression, and they are so few more than two for each token
pub record AreMade (more : ℕ) (xs : List Lexed) (ts : List Tree) : Type 0 where
  pub exprs : HaveExprs ts
  pub count : length ts ≤ more + 2 * length xs

pub none_made : {more : ℕ} {xs : List Lexed} → AreMade more xs []
none_made = record { exprs = tt; count = omega arith }

pub wider : {more : ℕ} {xs ys : List Lexed} {ts : List Tree} → IsLeft ys xs → AreMade more ys ts → AreMade more xs ts
wider i h = let n = i.count in let m = h.count in record { exprs = h.exprs; count = omega arith }

-- one more, behind a token
pub more_made : {xs ys zs : List Lexed} {t : Tree} {ts : List Tree} → IsTaken ys xs → IsLeft zs ys → HasExpr t → AreMade 0 zs ts → AreMade 0 xs (t ∷ ts)
more_made i j p h = let a = i.count in let b = j.count in let c = h.count in record { exprs = (p, h.exprs); count = omega arith }

-- one more, with the step that `//` stands for
pub two_more : {xs ys zs : List Lexed} {t u : Tree} {ts : List Tree} → IsTaken ys xs → IsLeft zs ys → HasExpr t → HasExpr u → AreMade 0 zs ts → AreMade 0 xs (t ∷ u ∷ ts)
two_more i j p q h = let a = i.count in let b = j.count in let c = h.count in record { exprs = (p, (q, h.exprs)); count = omega arith }

-- one more, in front of all tokens
pub first_made : {xs ys : List Lexed} {t : Tree} {ts : List Tree} → IsLeft ys xs → HasExpr t → AreMade 0 ys ts → AreMade 1 xs (t ∷ ts)
first_made j p h = let b = j.count in let c = h.count in record { exprs = (p, h.exprs); count = omega arith }

-- ---- what is said of the value of a rule at these tokens

abbrev pub OneMade : Operand → Type 0
OneMade a = HasExpr a.tree

abbrev pub ListMade : ℕ → List Lexed → List Operand → Type 0
ListMade more xs many = AreMade more xs (trees_of many)

-- operands behind operators of their own
abbrev pub MixedMade : {Operator : Type 0} → List Lexed → List (Operator × Operand) → Type 0
MixedMade xs many = AreMade 0 xs (map (λ next. next.1) (operations many))

abbrev pub ComparedMade : Option (Compare × Operand) → Type 0
ComparedMade None = ⊤
ComparedMade (Some next) = HasExpr next.1.tree

abbrev pub RangedMade : Option Operand → Type 0
RangedMade None = ⊤
RangedMade (Some last) = HasExpr last.tree

abbrev pub BindingsMade : List Lexed → List Binding → Type 0
BindingsMade xs bindings = AreMade 0 xs (map (λ binding. binding.1) (bindings_of bindings))

abbrev pub GivenMade : ℕ → List Lexed → Arguments → Type 0
GivenMade more xs arguments = ListMade more xs (arguments_in arguments)

abbrev pub BehindMade : List Lexed → Behind → Type 0
BehindMade xs (Test test predicates) = ListMade 0 xs predicates
BehindMade xs (Called arguments predicates) = GivenMade 1 xs arguments × ListMade 0 xs predicates
BehindMade xs (Predicates predicates) = ListMade 0 xs predicates

abbrev pub ValueMade : (xs : List Lexed) (rule : Rule) → Value rule → Type 0
ValueMade xs r.Expr v = OneMade v
ValueMade xs r.ExprTail v = ListMade 0 xs v
ValueMade xs r.ExprSingle v = OneMade v
ValueMade xs r.InBindings v = BindingsMade xs v
ValueMade xs r.InBindingsTail v = BindingsMade xs v
ValueMade xs r.LetBindings v = BindingsMade xs v
ValueMade xs r.LetBindingsTail v = BindingsMade xs v
ValueMade xs r.InClause v = OneMade v
ValueMade xs r.AssignClause v = OneMade v
ValueMade xs r.ReturnClause v = OneMade v
ValueMade xs r.SatisfiesClause v = OneMade v
ValueMade xs r.TestClause v = OneMade v
ValueMade xs r.ThenClause v = OneMade v
ValueMade xs r.ElseClause v = OneMade v
ValueMade xs r.OrExpr v = OneMade v
ValueMade xs r.OrTail v = ListMade 0 xs v
ValueMade xs r.AndExpr v = OneMade v
ValueMade xs r.AndTail v = ListMade 0 xs v
ValueMade xs r.ComparisonExpr v = OneMade v
ValueMade xs r.ComparisonTail v = ComparedMade v
ValueMade xs r.StringConcatExpr v = OneMade v
ValueMade xs r.StringConcatTail v = ListMade 0 xs v
ValueMade xs r.RangeExpr v = OneMade v
ValueMade xs r.RangeTail v = RangedMade v
ValueMade xs r.AdditiveExpr v = OneMade v
ValueMade xs r.AdditiveTail v = MixedMade xs v
ValueMade xs r.MultiplicativeExpr v = OneMade v
ValueMade xs r.MultiplicativeTail v = MixedMade xs v
ValueMade xs r.UnionExpr v = OneMade v
ValueMade xs r.UnionTail v = ListMade 0 xs v
ValueMade xs r.IntersectExceptExpr v = OneMade v
ValueMade xs r.IntersectExceptTail v = MixedMade xs v
ValueMade xs r.UnaryExpr v = OneMade v
ValueMade xs r.SimpleMapExpr v = OneMade v
ValueMade xs r.SimpleMapTail v = ListMade 0 xs v
ValueMade xs r.Operand v = OneMade v
ValueMade xs r.LeftOutOperator v = ⊤
ValueMade xs r.PathExpr v = OneMade v
ValueMade xs r.RelativePathExpr v = ListMade 1 xs v
ValueMade xs r.RelativePathTail v = ListMade 0 xs v
ValueMade xs r.StepExpr v = OneMade v
ValueMade xs r.AxisTail v = BehindMade xs v
ValueMade xs r.NameTail v = BehindMade xs v
ValueMade xs r.NodeTest v = ⊤
ValueMade xs r.KindTail v = ⊤
ValueMade xs r.PredicateList v = ListMade 0 xs v
ValueMade xs r.PrimaryExpr v = OneMade v
ValueMade xs r.Parenthesized v = OneMade v
ValueMade xs r.Arguments v = GivenMade 1 xs v
ValueMade xs r.ArgumentsTail v = GivenMade 0 xs v
ValueMade xs r.VarName v = ⊤
ValueMade xs r.PlainName v = ⊤

-- ---- operands and what stands behind them

pub chain_made : {xs : List Lexed} (c : Construct) → OfParts c → (a : Operand) (many : List Operand) → OneMade a → ListMade 0 xs many → Few xs → OneMade (chain c a many)
chain_made c form a [] h g f = h
chain_made c form a (b ∷ many) h g f =
    let n = g.count in let m = f.count in of_parts c form (a.tree ∷ b.tree ∷ trees_of many) (h, g.exprs) (omega arith)

pub mixed_made : {Operator : Type 0} {xs : List Lexed} (c : List Operator → Construct) → OfOperands c → (a : Operand) (many : List (Operator × Operand)) → OneMade a → MixedMade xs many → Few xs →
    OneMade (mixed c a many)
mixed_made c form a [] h g f = h
mixed_made c form a (next ∷ many) h g f =
    let n = g.count in let m = f.count in let k = length-map (operations many) (λ p. p.1) in
    of_operands c form a.tree ((next.0, next.1.tree) ∷ operations many) h g.exprs (omega (arith, k))

pub compared_made : (a : Operand) (other : Option (Compare × Operand)) → OneMade a → ComparedMade other → OneMade (compared a other)
compared_made a None h g = h
compared_made a (Some next) h g = of_two (tree.Comparison next.0) (λ x y. (expr.Comparison next.0 x y, tree_of_comparison next.0 x y)) a.tree next.1.tree h g

pub ranging_made : (a : Operand) (last : Option Operand) → OneMade a → RangedMade last → OneMade (ranging a last)
ranging_made a None h g = h
ranging_made a (Some b) h g = of_two tree.Range (λ x y. (expr.Range x y, tree_of_range x y)) a.tree b.tree h g

pub signed_made : (s : Sign) (a : Operand) → OneMade a → HasExpr (node (tree.Unary s) (a.tree ∷ []))
signed_made s a h = of_one (tree.Unary s) (λ x. (expr.Unary s x, tree_of_unary s x)) a.tree h

pub chosen_made : (a b c : Operand) → OneMade a → OneMade b → OneMade c → OneMade (chosen a b c)
chosen_made a b c h g f = of_three tree.If (λ x y z. (expr.If x y z, tree_of_if x y z)) a.tree b.tree c.tree h g f

-- ---- variables

pub bound_made : {xs : List Lexed} (c : List (List ℕ) → Construct) → OfVariables c → (bindings : List Binding) (body : Operand) → BindingsMade xs bindings → OneMade body → Few xs →
    OneMade (bound c bindings body)
bound_made c form bindings body g h f =
    let n = g.count in let m = f.count in let k = length-map (bindings_of bindings) (λ p. p.1) in of_variables c form (bindings_of bindings) body.tree g.exprs h (omega (arith, k))

-- ---- paths and steps

pub descendants_made : HasExpr forms.descendants
descendants_made = of_parts (tree.Step axes.DescendantOrSelf AnyNode) (steps axes.DescendantOrSelf AnyNode) [] tt (omega arith)

pub rooted_made : {xs : List Lexed} (steps : List Operand) → ListMade 1 xs steps → Few xs → OneMade (rooted steps)
rooted_made steps g f = let n = g.count in let m = f.count in of_parts tree.Path paths (alone tree.Root ∷ trees_of steps) (root_made, g.exprs) (omega arith)

pub all_made : {xs : List Lexed} (steps : List Operand) → ListMade 1 xs steps → Few xs → HasExpr (node tree.Path (alone tree.Root ∷ forms.descendants ∷ trees_of steps))
all_made steps g f =
    let n = g.count in let m = f.count in of_parts tree.Path paths (alone tree.Root ∷ forms.descendants ∷ trees_of steps) (root_made, (descendants_made, g.exprs)) (omega arith)

pub path_made : {xs : List Lexed} (steps : List Operand) → ListMade 1 xs steps → Few xs → OneMade (path steps)
path_made [] g f = of_parts tree.Path paths [] tt (omega arith)
path_made (only ∷ []) g f = g.exprs.0
path_made (first ∷ second ∷ more) g f = let n = g.count in let m = f.count in of_parts tree.Path paths (first.tree ∷ second.tree ∷ trees_of more) g.exprs (omega arith)

pub step_made : {xs : List Lexed} (a : Axis) (test : NodeTest) (predicates : List Operand) → ListMade 0 xs predicates → Few xs → HasExpr (node (tree.Step a test) (trees_of predicates))
step_made a test predicates g f = let n = g.count in let m = f.count in of_parts (tree.Step a test) (steps a test) (trees_of predicates) g.exprs (omega arith)

pub attribute_made : {xs : List Lexed} (test : NodeTest) (predicates : List Operand) → ListMade 0 xs predicates → Few xs → HasExpr (node (tree.AttributeStep test) (trees_of predicates))
attribute_made test predicates g f = let n = g.count in let m = f.count in of_parts (tree.AttributeStep test) (attribute_steps test) (trees_of predicates) g.exprs (omega arith)

pub filtered_made : {xs : List Lexed} (a : Operand) (predicates : List Operand) → OneMade a → ListMade 0 xs predicates → Few xs → OneMade (filtered a predicates)
filtered_made a [] h g f = h
filtered_made a (first ∷ more) h g f = let n = g.count in let m = f.count in filter_made a.tree (first.tree ∷ trees_of more) h g.exprs (omega arith)

along_made : {xs : List Lexed} (a : Option Axis) (test : NodeTest) (predicates : List Operand) → ListMade 0 xs predicates → Few xs → HasExpr (forms.along a test (trees_of predicates))
along_made (Some a) test predicates g f = step_made a test predicates g f
along_made None test predicates g f = attribute_made test predicates g f

called_made : {xs : List Lexed} (c : Option Callee) (ts : List Tree) → AreMade 1 xs ts → Few xs → HasExpr (forms.called c ts)
called_made None ts g f = empty_made
called_made (Some (callee.XPath function)) ts g f = let n = g.count in let m = f.count in of_parts (tree.Call function) (calls function) ts g.exprs (omega arith)
called_made (Some (callee.Pmd function)) ts g f = let n = g.count in let m = f.count in of_parts (tree.PmdCall function) (pmd_calls function) ts g.exprs (omega arith)

with_predicates : {xs : List Lexed} (t : Tree) (ts : List Tree) → HasExpr t → AreMade 0 xs ts → Few xs → HasExpr (forms.filtered t ts)
with_predicates t [] h g f = h
with_predicates t (first ∷ more) h g f = let n = g.count in let m = f.count in filter_made t (first ∷ more) h g.exprs (omega arith)

pub named_made : {xs : List Lexed} (tokens : List Lexed) (name : List ℕ) (tail : Behind) → BehindMade xs tail → Few xs → OneMade (named tokens name tail)
named_made tokens name (Test test predicates) g f = along_made (axis_of name) test predicates g f
named_made tokens name (Called arguments predicates) g f =
    with_predicates (forms.called (callee_of name) (trees_of (arguments_in arguments))) (trees_of predicates) (called_made (callee_of name) (trees_of (arguments_in arguments)) g.0 f) g.1 f
named_made tokens name (Predicates predicates) g f = step_made axes.Child (Name name) predicates g f
