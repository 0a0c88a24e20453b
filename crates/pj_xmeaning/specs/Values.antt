-- What the code makes of the productions of a derivation, by which it finds what tokens say. A production's action makes the value of its rule
-- from the values of the rules in it, in their order, and from the tokens from the one on at which it begins (a grammar with synthesized
-- attributes: Aho, Lam, Sethi, Ullman, section 5.2.3).
use Rattle.std.specs.Prelude.{ℕ, Bool, true, false, List, [], ◌∷◌, Option, Some, None}
use Rattle.pj_xexpressions.specs.declared.axis.Axis.TheVariants as axis
use Rattle.pj_xexpressions.specs.declared.expr.NodeTest.TheVariants.{Name, AnyName, AnyNode}
use Rattle.pj_xexpressions.specs.Trees as tree
use Rattle.pj_xexpressions.specs.Trees.{alone}
use Rattle.pj_xtokens.specs.First.{behind_first, first_from, first_text}
use Rattle.pj_xtokens.specs.Tokens.{Lexed}
use Rattle.pj_xmeaning.specs.Beginnings.{Beginning, beginnings}
use Rattle.pj_xmeaning.specs.Slots as slot
use Rattle.pj_xmeaning.specs.Actions.{action_of}
use Rattle.pj_xreadings.specs.Constructs.{binder_of, construct_of, kind_of}
use Rattle.pj_xreadings.specs.Operands.{Operand, Closed, Next, Test, Called, Predicates, other, chain, mixed, compared, ranging, signed, bound, chosen, variable, cut_variable, integer_literal, string_literal, rooted, descendants, path, step, child_step, attribute_step, filtered, kind_test, named}
use Rattle.pj_xreadings.specs.Steps.{empty_sequence}
use Rattle.pj_xmeaning.specs.Parts.{RuleValue, Missing, Nothing, One, Many, Bound, Compared, UpTo, Sums, Products, Sets, Given, Tested, Parentheses, Word, Tail, operand, operands, bindings, comparison, range, sums, products, sets, arguments, test, parentheses, word, tail}
use Rattle.pj_xmeaning.specs.declared.action.Action.{Action}
use Rattle.pj_xmeaning.specs.declared.action.Action.TheVariants as action
use Rattle.pj_xmeaning.specs.declared.action.Leaf.{Leaf}
use Rattle.pj_xmeaning.specs.declared.action.Leaf.TheVariants as leaf
use Rattle.pj_xmeaning.specs.declared.action.Change.{Change}
use Rattle.pj_xmeaning.specs.declared.action.Change.TheVariants as change
use Rattle.pj_xmeaning.specs.declared.action.Single.{Single}
use Rattle.pj_xmeaning.specs.declared.action.Single.TheVariants as single
use Rattle.pj_xmeaning.specs.declared.action.Rest.{Rest}
use Rattle.pj_xmeaning.specs.declared.action.Rest.TheVariants as rest
use Rattle.pj_xmeaning.specs.declared.action.Operation.{Operation}
use Rattle.pj_xmeaning.specs.declared.action.Operation.TheVariants as operation
use Rattle.pj_xmeaning.specs.declared.action.Step.{Step}
use Rattle.pj_xmeaning.specs.declared.action.Step.TheVariants as steps

-- ---- tokens

abbrev pub leaf_value : Leaf → List Lexed → RuleValue
leaf_value leaf.NoOperands tokens = Many []
leaf_value leaf.NoBindings tokens = Bound []
leaf_value leaf.NoComparison tokens = Compared None
leaf_value leaf.NoRange tokens = UpTo None
leaf_value leaf.NoSums tokens = Sums []
leaf_value leaf.NoProducts tokens = Products []
leaf_value leaf.NoSets tokens = Sets []
leaf_value leaf.NoArguments tokens = Given Closed
leaf_value leaf.NoParentheses tokens = Parentheses false
leaf_value leaf.Parentheses tokens = Parentheses true
leaf_value leaf.LeftOut tokens = Nothing
leaf_value leaf.Word tokens = Word (first_text tokens)
leaf_value leaf.Integer tokens = One (integer_literal tokens)
leaf_value leaf.String tokens = One (string_literal tokens)
leaf_value leaf.EmptySequence tokens = One (other empty_sequence [])
leaf_value leaf.Root tokens = One (other (alone tree.Root) [])
leaf_value leaf.NameTest tokens = Tested (Name (first_text tokens))
leaf_value leaf.AnyNameTest tokens = Tested AnyName

-- ---- one value

-- the operand behind `to`, unless it is cut off
abbrev pub up_to : RuleValue → Option Operand
up_to Missing = None
up_to value = Some (operand value)

-- the variable of which the `$` is the first token; where its name is cut off, what can be said of it
abbrev pub variable_named : List Lexed → RuleValue → Operand
variable_named tokens Missing = cut_variable tokens
variable_named tokens value = variable tokens (word value)

abbrev pub change_value : Change → List Lexed → RuleValue → RuleValue
change_value change.Bindings tokens value = Bound (bindings value)
change_value change.Word tokens value = Word (word value)
change_value (change.Compared compare) tokens value = Compared (Some (compare, operand value))
change_value change.UpTo tokens value = UpTo (up_to value)
change_value change.NameTest tokens value = Tested (Name (word value))
change_value (change.KindTest kind) tokens value = Tested (kind_test (kind_of kind) (first_text tokens) (parentheses value))
change_value change.Predicates tokens value = Tail (Predicates (operands value))

abbrev pub single_value : Single → List Lexed → RuleValue → Operand
single_value single.Same tokens value = operand value
single_value single.Parenthesized tokens value = other (operand value).tree (operand value).names
single_value (single.Signed sign) tokens value = signed sign (operand value)
single_value single.RootedPath tokens value = rooted (operands value)
single_value single.RootedDescendants tokens value = rooted (descendants ∷ operands value)
single_value single.RelativePath tokens value = path (operands value)
single_value single.ContextItem tokens value = filtered (other (alone tree.ContextItem) []) (operands value)
single_value single.ParentStep tokens value = step axis.Parent AnyNode (operands value)
single_value single.AnyNameStep tokens value = child_step AnyName (operands value)
single_value single.AxisStep tokens value = named tokens (first_text tokens) (tail value)
single_value single.Variable tokens value = variable_named tokens value

-- ---- two values

abbrev pub rest_value : Rest → List Lexed → RuleValue → RuleValue → RuleValue
rest_value rest.Further tokens first others = Many (operand first ∷ operands others)
rest_value rest.FurtherDescendants tokens first others = Many (descendants ∷ operand first ∷ operands others)
rest_value (rest.FurtherSum op) tokens first others = Sums ((op, operand first) ∷ sums others)
rest_value (rest.FurtherProduct op) tokens first others = Products ((op, operand first) ∷ products others)
rest_value (rest.FurtherSet op) tokens first others = Sets ((op, operand first) ∷ sets others)
rest_value rest.FirstArgument tokens first others = Given (Next (first_from tokens) (operand first) (arguments others))
rest_value rest.FurtherArgument tokens first others = Given (Next (first_from (behind_first tokens)) (operand first) (arguments others))
rest_value rest.AxisTest tokens first others = Tail (Test (test first) (operands others))
rest_value rest.Called tokens first others = Tail (Called (arguments first) (operands others))

abbrev pub operation_value : Operation → RuleValue → RuleValue → Operand
operation_value (operation.Chain operator) first behind = chain (construct_of operator) (operand first) (operands behind)
operation_value operation.Comparison first behind = compared (operand first) (comparison behind)
operation_value operation.Range first behind = ranging (operand first) (range behind)
operation_value operation.Sum first behind = mixed tree.Additive' (operand first) (sums behind)
operation_value operation.Product first behind = mixed tree.Multiplicative' (operand first) (products behind)
operation_value operation.Sets first behind = mixed tree.IntersectExcept (operand first) (sets behind)
operation_value operation.Operand first behind = operand first

-- nothing stands behind an operand
abbrev pub is_end : RuleValue → Bool
is_end (Many []) = true
is_end (Compared None) = true
is_end (UpTo None) = true
is_end (Sums []) = true
is_end (Products []) = true
is_end (Sets []) = true
is_end Nothing = true
is_end _ = false

abbrev pub is_one : RuleValue → Bool
is_one (One a) = true
is_one _ = false

abbrev pub step_value : Step → List Lexed → RuleValue → RuleValue → Operand
step_value steps.Primary tokens first behind = filtered (operand first) (operands behind)
step_value steps.Attribute tokens first behind = attribute_step (test first) (operands behind)
step_value (steps.Kind kind) tokens first behind = child_step (kind_test (kind_of kind) (first_text tokens) (parentheses first)) (operands behind)
step_value steps.Name tokens first behind = named tokens (word first) (tail behind)

-- ---- actions

-- the first of some values; where there is none, the tokens are cut off before its rule
abbrev pub top : List RuleValue → RuleValue
top [] = Missing
top (first ∷ more) = first

abbrev pub below : List RuleValue → List RuleValue
below [] = []
below (first ∷ more) = more

-- what the action makes of the first values, where the production begins with the first of the tokens
abbrev pub made : Action → List Lexed → List RuleValue → RuleValue
made (action.Leaf a) tokens values = leaf_value a tokens
made (action.Change a) tokens values = change_value a tokens (top values)
made (action.Single a) tokens values = One (single_value a tokens (top values))
made (action.Rest a) tokens values = rest_value a tokens (top values) (top (below values))
made (action.Operation a) tokens values = One (operation_value a (top values) (top (below values)))
made (action.Binder a) tokens values = One (bound (binder_of a) (bindings (top values)) (operand (top (below values))))
made (action.Step a) tokens values = One (step_value a tokens (top values) (top (below values)))
made action.If tokens values = One (chosen (operand (top values)) (operand (top (below values))) (operand (top (below (below values)))))
made action.Binding tokens values =
    Bound (record { name = word (top values); bound = operand (top (below values)) } ∷ bindings (top (below (below values))))

-- the values behind those of which the action makes one
abbrev pub left : Action → List RuleValue → List RuleValue
left (action.Leaf a) values = values
left (action.Change a) values = below values
left (action.Single a) values = below values
left (action.Rest a) values = below (below values)
left (action.Operation a) values = below (below values)
left (action.Binder a) values = below (below values)
left (action.Step a) values = below (below values)
left action.If values = below (below (below values))
left action.Binding values = below (below (below values))

-- the values with the one that the action makes in the place of those of which it is made
abbrev pub acted : Action → List Lexed → List RuleValue → List RuleValue
acted a tokens values = made a tokens values ∷ left a values

-- The values of the rules that are still to come, where these productions are still to come, and those that stand behind them.
abbrev pub values : List Beginning → List RuleValue → List RuleValue
values [] others = others
values (b ∷ more) others = acted (action_of b.production) b.tokens (values more others)

-- what the productions of a leftmost derivation say, with the tokens at which they begin
abbrev pub said_by : List Beginning → Operand
said_by begun = operand (top (values begun []))

-- what the tokens say by the productions of a leftmost derivation, of them or of as many as can be derived
unfoldable pub said : List ℕ → List Lexed → Operand
said productions tokens = said_by (beginnings productions (slot.Rule ∷ []) tokens)
