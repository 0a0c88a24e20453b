-- What the parts of an expression say, by what smaller parts say, or by their tokens.
use Rattle.std.specs.Prelude.{ℕ, Bool, true, false, List, [], ◌∷◌, ◌++◌, map, length, Option, Some, None, if◌then◌else◌}
use Rattle.pj_xexpressions.specs.declared.axis.Axis.{Axis}
use Rattle.pj_xexpressions.specs.declared.operator.Compare.{Compare}
use Rattle.pj_xexpressions.specs.declared.operator.Sign.{Sign}
use Rattle.pj_xexpressions.specs.declared.expr.NodeTest.{NodeTest}
use Rattle.pj_xexpressions.specs.declared.expr.NodeTest.TheVariants.{Name}
use Rattle.pj_xexpressions.specs.Expressions as written
use Rattle.pj_xexpressions.specs.Expressions.{Written}
use Rattle.pj_xtokens.specs.Tokens.{Lexed}
use Rattle.pj_xtokens.specs.Literals.{integer_of, string_of}
use Rattle.pj_xtokens.specs.First.{behind_first, first_text, begins_with_name, first_from}
use Rattle.pj_xreadings.specs.Steps.{empty_sequence}
use Rattle.pj_xexpressions.specs.Names.{callee_of, axis_of}
use Rattle.pj_xexpressions.specs.declared.name.Callee.{Callee}
use Rattle.pj_xexpressions.specs.Trees as tree
use Rattle.pj_xexpressions.specs.Trees.{Tree, Construct, node, alone, binder, operated}
use Rattle.pj_xreadings.specs.Steps as forms
use Rattle.pj_xreadings.specs.Mentions.{Mention, Variable, Call, Argument, roles_named, scoped}
use Rattle.pj_xreadings.specs.declared.role.Role.{Role}

-- ---- expressions

-- An expression: its tree; how it is written, where it is a literal or a variable alone; the functions and variables that it names, in
-- the order of the text.
pub record Operand : Type 0 where
  pub tree : Tree
  pub written : Written
  pub names : List Mention

-- an expression that is neither a literal nor a variable alone
abbrev pub other : Tree → List Mention → Operand
other tree names = record { tree = tree; written = written.Other; names = names }

-- what an operand says before whose first token the tokens are cut off
abbrev pub nothing : Operand
nothing = other empty_sequence []

-- the trees of expressions in a row
abbrev pub trees_of : List Operand → List Tree
trees_of operands = map (λ a. a.tree) operands

-- what they name
abbrev pub names_of : List Operand → List Mention
names_of [] = []
names_of (a ∷ more) = a.names ++ names_of more

-- an operand with further ones behind a construct's operators, if there are any
abbrev pub chain : Construct → Operand → List Operand → Operand
chain construct first [] = first
chain construct first (second ∷ more) = other (node construct (first.tree ∷ second.tree ∷ trees_of more)) (first.names ++ (second.names ++ names_of more))

-- ---- operators that a construct mixes

-- the operators with the trees of their operands
abbrev pub operations : {Operator : Type 0} → List (Operator × Operand) → List (Operator × Tree)
operations operands = map (λ next. (next.0, next.1.tree)) operands

-- what the operands behind operators name
abbrev pub names_behind : {Operator : Type 0} → List (Operator × Operand) → List Mention
names_behind [] = []
names_behind (next ∷ more) = next.1.names ++ names_behind more

-- an operand with further ones behind operators of their own, if there are any
abbrev pub mixed : {Operator : Type 0} → (List Operator → Construct) → Operand → List (Operator × Operand) → Operand
mixed construct first [] = first
mixed construct first (next ∷ more) =
    other (operated construct first.tree ((next.0, next.1.tree) ∷ operations more)) (first.names ++ (next.1.names ++ names_behind more))

-- an operand, and the one with which it is compared, if there is one
abbrev pub compared : Operand → Option (Compare × Operand) → Operand
compared first None = first
compared first (Some next) = other (node (tree.Comparison next.0) (first.tree ∷ next.1.tree ∷ [])) (first.names ++ next.1.names)

-- an operand, and the one up to which it ranges, if there is one
abbrev pub ranging : Operand → Option Operand → Operand
ranging first None = first
ranging first (Some last) = other (node tree.Range (first.tree ∷ last.tree ∷ [])) (first.names ++ last.names)

-- an operand behind a sign
abbrev pub signed : Sign → Operand → Operand
signed sign a = other (node (tree.Unary sign) (a.tree ∷ [])) a.names

-- ---- variables

-- a variable and the expression to which it is bound
pub record Binding : Type 0 where
  pub name : List ℕ
  pub bound : Operand

-- the names with the trees of what is bound to them
abbrev pub bindings_of : List Binding → List (List ℕ × Tree)
bindings_of bindings = map (λ binding. (binding.name, binding.bound.tree)) bindings

-- the names with what is named in what is bound to them
abbrev pub scopes_of : List Binding → List (List ℕ × List Mention)
scopes_of bindings = map (λ binding. (binding.name, binding.bound.names)) bindings

-- Variables with what follows them. Each is seen by the expressions behind its own, and by the body.
abbrev pub bound : (List (List ℕ) → Construct) → List Binding → Operand → Operand
bound construct bindings body = other (binder construct (bindings_of bindings) body.tree) (scoped (scopes_of bindings) 0 body.names)

-- `if`, with its test and the two expressions between which it chooses
abbrev pub chosen : Operand → Operand → Operand → Operand
chosen test yes_part no_part =
    other (node tree.If (test.tree ∷ yes_part.tree ∷ no_part.tree ∷ [])) (test.names ++ yes_part.names ++ no_part.names)

-- the variable whose `$` is the first token
abbrev pub variable : List Lexed → List ℕ → Operand
variable tokens name = record { tree = alone (tree.Variable name); written = written.Name name; names = Variable name (first_from tokens) ∷ [] }

-- A variable that is cut off behind its `$`, which is the first token. A name behind the `$` is its name (XPath 2.0, A.2); only a word that is
-- another terminal because of what stands behind it can stand there, as in `$for $x`.
abbrev pub cut_variable : List Lexed → Operand
cut_variable tokens =
    if begins_with_name (behind_first tokens)
    then record { tree = alone (tree.Variable []); written = written.Name (first_text (behind_first tokens)); names = Variable (first_text (behind_first tokens)) (first_from tokens) ∷ [] }
    else other (alone (tree.Variable [])) []

-- ---- literals: the first token

abbrev pub integer_literal : List Lexed → Operand
integer_literal tokens = record { tree = alone (tree.Integer (integer_of (first_text tokens))); written = written.Number; names = [] }

abbrev pub string_literal : List Lexed → Operand
string_literal tokens =
    record { tree = alone (tree.String (string_of (first_text tokens))); written = written.Literal (string_of (first_text tokens)); names = [] }

-- ---- paths

-- a path from the root of the tree
abbrev pub rooted : List Operand → Operand
rooted steps = other (node tree.Path (alone tree.Root ∷ trees_of steps)) (names_of steps)

-- the step that `//` stands for: `descendant-or-self::node()`
abbrev pub descendants : Operand
descendants = other forms.descendants []

-- One step alone is no path. The grammar has no path without steps; the first row serves beginnings of expressions alone.
abbrev pub path : List Operand → Operand
path [] = other (node tree.Path []) []
path (only ∷ []) = only
path (first ∷ second ∷ more) = other (node tree.Path (first.tree ∷ second.tree ∷ trees_of more)) (first.names ++ (second.names ++ names_of more))

-- ---- steps

-- a step of an axis with its predicates
abbrev pub step : Axis → NodeTest → List Operand → Operand
step axis test predicates = other (node (tree.Step axis test) (trees_of predicates)) (names_of predicates)

-- a step to children
abbrev pub child_step : NodeTest → List Operand → Operand
child_step test predicates = other (forms.child_step test (trees_of predicates)) (names_of predicates)

-- a step to attributes
abbrev pub attribute_step : NodeTest → List Operand → Operand
attribute_step test predicates = other (node (tree.AttributeStep test) (trees_of predicates)) (names_of predicates)

-- a step of the axis with this name
abbrev pub axis_step : List ℕ → NodeTest → List Operand → Operand
axis_step name test predicates = other (forms.along (axis_of name) test (trees_of predicates)) (names_of predicates)

-- a primary expression with its predicates, if there are any
abbrev pub filtered : Operand → List Operand → Operand
filtered primary [] = primary
filtered primary (first ∷ more) = other (node tree.Filter (primary.tree ∷ first.tree ∷ trees_of more)) (primary.names ++ (first.names ++ names_of more))

-- the test of a kind before parentheses, else that for the name
abbrev pub kind_test : NodeTest → List ℕ → Bool → NodeTest
kind_test kind name true = kind
kind_test kind name false = Name name

-- ---- calls

-- The arguments of a call, each with the offset of its first token. Their list is closed where a `)` stands behind it, and open where the tokens
-- are cut off before. The last one of an open list may go on, or none of it is there yet; its offset then tells nothing.
pub data Arguments : Type 0 where
  Closed : Arguments
  Open : Arguments
  Next : ℕ → Operand → Arguments → Arguments

abbrev pub arguments_in : Arguments → List Operand
arguments_in Closed = []
arguments_in Open = []
arguments_in (Next from a more) = a ∷ arguments_in more

abbrev pub is_closed : Arguments → Bool
is_closed Closed = true
is_closed Open = false
is_closed (Next from a more) = is_closed more

-- An argument is judged where it is told that it ends: a `,` or the `)` stands behind it.
abbrev pub judged : Arguments → Mention → List Mention
judged Open mention = []
judged _ mention = mention ∷ []

-- what arguments name, each behind what its role wants
abbrev pub in_roles : List Role → Arguments → List Mention
in_roles roles Closed = []
in_roles roles Open = []
in_roles [] (Next from a more) = a.names ++ in_roles [] more
in_roles (role ∷ roles) (Next from a more) = judged more (Argument role a.written from) ++ (a.names ++ in_roles roles more)

-- With how many arguments a function is called is told at the `)`; that there is none of the name is told before, whatever their number.
abbrev pub told : Bool → Option Callee → Mention → List Mention
told true callee mention = mention ∷ []
told false None mention = mention ∷ []
told false (Some callee) mention = []

-- The call of the function with this name, which stands at the offset, with its arguments and the predicates behind them. Where there is no
-- such function, which is a fault of the text, the empty sequence stands for the call.
abbrev pub call : List ℕ → ℕ → Arguments → List Operand → Operand
call name from arguments predicates =
    other (forms.filtered (forms.called (callee_of name) (trees_of (arguments_in arguments))) (trees_of predicates))
    (told (is_closed arguments) (callee_of name) (Call name (length (arguments_in arguments)) from) ++ (in_roles (roles_named name) arguments ++ names_of predicates))

-- what stands behind a name in a step: a test, where the name is that of an axis; arguments; predicates alone
pub data Behind : Type 0 where
  Test : NodeTest → List Operand → Behind
  Called : Arguments → List Operand → Behind
  Predicates : List Operand → Behind

-- a step whose first token is a name
abbrev pub named : List Lexed → List ℕ → Behind → Operand
named tokens name (Test test predicates) = axis_step name test predicates
named tokens name (Called arguments predicates) = call name (first_from tokens) arguments predicates
named tokens name (Predicates predicates) = child_step (Name name) predicates
