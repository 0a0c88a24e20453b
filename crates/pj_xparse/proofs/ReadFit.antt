-- What the tokens of a whole text read fits where what it names has no fault.
use Rattle.std.proofs.Common.{◌≡◌, ℕ, suc, ◌^◌, inr, Bool, true, false, List, [], ◌∷◌, map, length, Option, Some, None, refl, sym, ap, subst, append_assoc}
use Rattle.std.specs.Prelude.{cond, nat_lt, pos}
use Rattle.std.proofs.lemmas.Bool.{and_from}
use Rattle.pj_xexpressions.specs.declared.axis.Axis.{Axis}
use Rattle.pj_xexpressions.specs.declared.axis.Axis.TheVariants as axis
use Rattle.pj_xexpressions.specs.declared.expr.NodeTest.{NodeTest}
use Rattle.pj_xexpressions.specs.declared.expr.NodeTest.TheVariants as tests
use Rattle.pj_xexpressions.specs.declared.operator.Compare.{Compare}
use Rattle.pj_xexpressions.specs.declared.operator.Sign.{Sign}
use Rattle.pj_xexpressions.specs.declared.operator.Sign.TheVariants as sign
use Rattle.pj_xexpressions.specs.Expressions.{Part, Scope, Number, Name, Other, is_digits}
use Rattle.pj_xtokens.specs.Tokens.{Lexed}
use Rattle.pj_xtokens.specs.Literals.{integer_of, number_from, if_it_fits, string_of}
use Rattle.pj_xtokens.specs.First.{first_text, first_from}
use Rattle.pj_xgrammar.specs.declared.rule.Rule.{Rule}
use Rattle.pj_xreadings.specs.Steps as forms
use Rattle.pj_xexpressions.specs.Names.{axis_of}
use Rattle.pj_xexpressions.specs.Trees as tree
use Rattle.pj_xexpressions.specs.Trees.{Tree, Construct, alone, operated}
use Rattle.pj_xreadings.specs.Mentions.{Mention, Variable}
use Rattle.pj_xparse.specs.NameFaults as fault
use Rattle.pj_xparse.specs.NameFaults.{is_bound, first_fault}
use Rattle.pj_xreadings.specs.Shapes.{part_of_tree, operators_fit, fits_by}
use Rattle.pj_xreadings.specs.Nodes.{part_of_node}
use Rattle.pj_xreadings.specs.Operands.{Operand, Binding, Behind, Test, Called, Predicates, operations, other, chain, mixed, compared, ranging, signed, chosen, integer_literal, string_literal, variable, rooted, descendants, path, step, child_step, attribute_step, filtered, kind_test, named}
use Rattle.pj_xmeaning.specs.RuleMeanings.{Value}
use Rattle.pj_xmeaning.specs.Reach.{All}
use Rattle.pj_xmeaning.specs.Reads.{Reads, by, Produces, AreRead, expr, expr_more, expr_end, for_expr, let_expr, some_expr, every_expr, if_expr, single_or, in_binding, in_more, in_end, let_binding, let_more, let_end, in_clause, assign_clause, return_clause, satisfies_clause, test_clause, then_clause, else_clause, or_expr, or_more, or_end, and_expr, and_more, and_end, comparison_expr, equal, not_equal, less, less_or_equal, greater, greater_or_equal, not_compared, concatenation_expr, concatenation_more, concatenation_end, range_expr, up_to, up_to_cut, no_range, additive_expr, plus, minus, additive_end, multiplicative_expr, times, integer_divide, modulo, multiplicative_end, union_expr, union_more, bar_more, union_end, set_expr, intersect, except, set_end, negative, positive, no_sign, map_expr, map_more, map_end, operand, left_out_operator, no_left_out, root, from_root, from_descendants, relative, path_steps, next_step, next_descendants, steps_end, context_item, primary, parent, attribute, axis_name, any_name, node_name, element_name, plain_step, left_out_step, axis_test, axis_call, axis_predicates, name_call, name_predicates, name_test, axis_name_test, any_name_test, node_test, element_test, kind_parentheses, no_parentheses, predicate, no_predicate, integer_expr, string_expr, variable_expr, variable_cut, parenthesized, inside, empty, some_arguments, no_arguments, more_arguments, arguments_end, variable_name, axis_variable, node_variable, element_variable, plain_name}
use Rattle.pj_xparse.proofs.Faultless.{none_balanced, one_balanced, first_none}
use Rattle.pj_xparse.proofs.Fit.{IsFit, AreFit, none_fit, more_fit, last_fit, node_fit, fit_behind, IsChain, or_chain, and_chain, concatenation_chain, union_chain, simple_map_chain, path_chain, filter_chain, comma_chain, chain_fit, alone_fit, operated_by}
use Rattle.pj_xparse.proofs.FitValues.{Fits, AllFit, FitBehind, FitsBehind, FitsIfAny, StepsFit, AllBoundFit, SomeBoundFit, BehindFits, ValueFits}
use Rattle.pj_xparse.proofs.FitArguments.{good_unless, call_fits}
use Rattle.pj_xparse.proofs.FitBindings.{for_binder, let_binder, quantified_binder, bound_fits}

-- ---- operands and what stands behind them

chain_fits : {construct : Construct} → IsChain construct → (first : Operand) (more : List Operand) → Fits first → AllFit more → Fits (chain construct first more)
chain_fits is first [] a b = a
chain_fits is first (second ∷ more) a b = chain_fit is (more_fit a b)

-- operands with operators of their own
operated_fit : {Operator : Type 0} (construct : List Operator → Construct) (takes : (ops : List Operator) (ps : List Part) (s : Scope) → operators_fit (length ops) ps s ≡ true → fits_by (construct ops) ps s ≡ true)
    (t u : Tree) (op : Operator) (xs : List (Operator × Tree)) {ms : List Mention} → AreFit (t ∷ u ∷ map (λ (x : Operator × Tree). x.1) xs) ms → IsFit (operated construct t ((op, u) ∷ xs)) Other ms
operated_fit {Operator} construct takes t u op xs are =
    node_fit (construct (op ∷ map (λ x. x.0) xs))
    (λ s e. takes (op ∷ map (λ x. x.0) xs) (part_of_tree t ∷ part_of_tree u ∷ map part_of_tree (map (λ x. x.1) xs)) s
    (operated_by s (op ∷ map (λ x. x.0) xs) (part_of_tree t) (part_of_tree u) (map part_of_tree (map (λ x. x.1) xs)) (same_length xs) e))
    are
  where
    same_length : (ys : List (Operator × Tree)) → length (op ∷ map (λ (x : Operator × Tree). x.0) ys) ≡ length (part_of_tree u ∷ map part_of_tree (map (λ (x : Operator × Tree). x.1) ys))
    same_length [] = refl
    same_length (y ∷ ys) = ap suc (same_length ys)

mixed_fits : {Operator : Type 0} (construct : List Operator → Construct) (takes : (ops : List Operator) (ps : List Part) (s : Scope) → operators_fit (length ops) ps s ≡ true → fits_by (construct ops) ps s ≡ true)
    (first : Operand) (more : List (Operator × Operand)) → Fits first → FitBehind more → Fits (mixed construct first more)
mixed_fits construct takes first [] a b = a
mixed_fits construct takes first (next ∷ more) a b = operated_fit construct takes first.tree next.1.tree next.0 (operations more) (more_fit a b)

compared_fits : (first : Operand) (second : Option (Compare × Operand)) → Fits first → FitsBehind second → Fits (compared first second)
compared_fits first None a b = a
compared_fits first (Some next) a b = node_fit (tree.Comparison next.0) (λ s e. e) (more_fit a (last_fit b))

ranging_fits : (first : Operand) (last : Option Operand) → Fits first → FitsIfAny last → Fits (ranging first last)
ranging_fits first None a b = a
ranging_fits first (Some last) a b = node_fit tree.Range (λ s e. e) (more_fit a (last_fit b))

signed_fits : (sign : Sign) (a : Operand) → Fits a → Fits (signed sign a)
signed_fits sign a h = node_fit (tree.Unary sign) (λ s e. e) (last_fit h)

chosen_fits : (test first second : Operand) → Fits test → Fits first → Fits second → Fits (chosen test first second)
chosen_fits test first second a b c =
    node_fit tree.If (λ s e. e)
    (subst (λ (ms : List Mention). AreFit (test.tree ∷ first.tree ∷ second.tree ∷ []) ms) (sym (append_assoc test.names first.names second.names)) (more_fit a (more_fit b (last_fit c))))

-- ---- literals and variables

fitting_digits : (n : ℕ) → is_digits (if_it_fits n) ≡ true
fitting_digits n = of (nat_lt n (2 ^ 63))
  where
    of : (b : Bool) → is_digits (cond b (Some (pos n)) None) ≡ true
    of true = refl
    of false = refl

integer_fit : (text : List ℕ) → IsFit (alone (tree.Integer (integer_of text))) Number []
unfolding integer_of
integer_fit text = alone_fit (tree.Integer (if_it_fits (number_from 0 text))) (λ s. and_from (is_digits (if_it_fits (number_from 0 text))) true (fitting_digits (number_from 0 text)) refl)

integer_fits : (xs : List Lexed) → Fits (integer_literal xs)
integer_fits xs = integer_fit (first_text xs)

string_fits : (xs : List Lexed) → Fits (string_literal xs)
string_fits xs = alone_fit (tree.String (string_of (first_text xs))) (λ s. refl)

variable_fit : (name : List ℕ) (from : ℕ) → IsFit (alone (tree.Variable name)) (Name name) (Variable name from ∷ [])
variable_fit name from = record {
  balanced = one_balanced (λ s. refl) none_balanced;
  fits = λ s e.
      let (known, none_behind) = first_none s (Variable name from) [] e in
      subst (λ (p : Part). p.fits s ≡ true) (sym (part_of_node (tree.Variable name) []))
      (and_from (is_bound name s) true (good_unless (is_bound name s) (fault.Variable name from) known) refl);
  written_as = inr (sym (ap (λ (p : Part). p.written) (part_of_node (tree.Variable name) [])));
}

variable_fits : (xs : List Lexed) (name : List ℕ) → Fits (variable xs name)
variable_fits xs name = variable_fit name (first_from xs)

-- those that are there are more bindings
some_bound : (bindings : List Binding) → SomeBoundFit bindings → AllBoundFit bindings
some_bound [] h = absurd h
some_bound (binding ∷ more) h = h

empty_fits : IsFit forms.empty_sequence Other []
empty_fits = alone_fit tree.Comma (λ s. refl)

context_fits : IsFit (alone tree.ContextItem) Other []
context_fits = alone_fit tree.ContextItem (λ s. refl)

-- ---- paths and steps

root_fits : IsFit (alone tree.Root) Other []
root_fits = alone_fit tree.Root (λ s. refl)

descendants_fits : Fits descendants
descendants_fits = alone_fit (tree.Step axis.DescendantOrSelf tests.AnyNode) (λ s. refl)

rooted_fits : (steps : List Operand) → StepsFit steps → Fits (rooted steps)
rooted_fits [] h = absurd h
rooted_fits (first ∷ more) h = chain_fit path_chain (more_fit root_fits (more_fit h.0 h.1))

from_descendants_fits : (steps : List Operand) → StepsFit steps → Fits (rooted (descendants ∷ steps))
from_descendants_fits [] h = absurd h
from_descendants_fits (first ∷ more) h = chain_fit path_chain (more_fit root_fits (more_fit descendants_fits (more_fit h.0 h.1)))

path_fits : (steps : List Operand) → StepsFit steps → Fits (path steps)
path_fits [] h = absurd h
path_fits (only ∷ []) h = h.0
path_fits (first ∷ second ∷ more) h = chain_fit path_chain (more_fit h.0 h.1)

filtered_fits : (a : Operand) (predicates : List Operand) → Fits a → AllFit predicates → Fits (filtered a predicates)
filtered_fits a [] h more = h
filtered_fits a (first ∷ others) h more = chain_fit filter_chain (more_fit h more)

step_fits : (a : Axis) (test : NodeTest) (predicates : List Operand) → AllFit predicates → Fits (step a test predicates)
step_fits a test predicates h = node_fit (tree.Step a test) (λ s e. e) h

child_fits : (test : NodeTest) (predicates : List Operand) → AllFit predicates → Fits (child_step test predicates)
child_fits test predicates h = node_fit (tree.Step axis.Child test) (λ s e. e) h

attribute_fits : (test : NodeTest) (predicates : List Operand) → AllFit predicates → Fits (attribute_step test predicates)
attribute_fits test predicates h = node_fit (tree.AttributeStep test) (λ s e. e) h

along_fit : (a : Option Axis) (test : NodeTest) {ts : List Tree} {ms : List Mention} → AreFit ts ms → IsFit (forms.along a test ts) Other ms
along_fit (Some a) test are = node_fit (tree.Step a test) (λ s e. e) are
along_fit None test are = node_fit (tree.AttributeStep test) (λ s e. e) are

named_fits : (xs : List Lexed) (name : List ℕ) (behind : Behind) → BehindFits behind → Fits (named xs name behind)
named_fits xs name (Test test predicates) h = along_fit (axis_of name) test h
named_fits xs name (Called arguments predicates) h = call_fits name (first_from xs) arguments predicates h.0 h.1
named_fits xs name (Predicates predicates) h = child_fits (tests.Name name) predicates h

-- ---- the productions

mutual
  reads_fit : {rule : Rule} {d : ℕ} {xs ys : List Lexed} {v : Value rule} → Reads All rule d xs ys v → ValueFits rule v
  reads_fit (by before p) = produces_fit p
  reads_fit (Reads.cut gone) = absurd gone

  produces_fit : {rule : Rule} {d : ℕ} {xs ys : List Lexed} {v : Value rule} → Produces All rule d xs ys v → ValueFits rule v
  produces_fit (expr {first = a} {more = more} a0 a1) = chain_fits comma_chain a more (reads_fit a0) (reads_fit a1)
  produces_fit (expr_more k0 a1 a2) = more_fit (reads_fit a1) (reads_fit a2)
  produces_fit expr_end = none_fit
  produces_fit (for_expr {bindings = bs} {body = a} k0 a1 a2) = bound_fits for_binder bs a (reads_fit a1) (reads_fit a2)
  produces_fit (let_expr {bindings = bs} {body = a} k0 a1 a2) = bound_fits let_binder bs a (reads_fit a1) (reads_fit a2)
  produces_fit (some_expr {bindings = bs} {test = a} k0 a1 a2) = bound_fits quantified_binder bs a (reads_fit a1) (reads_fit a2)
  produces_fit (every_expr {bindings = bs} {test = a} k0 a1 a2) = bound_fits quantified_binder bs a (reads_fit a1) (reads_fit a2)
  produces_fit (if_expr {test = a} {first = b} {second = c} k0 a1 a2 a3) = chosen_fits a b c (reads_fit a1) (reads_fit a2) (reads_fit a3)
  produces_fit (single_or a0) = reads_fit a0
  produces_fit (in_binding k0 a1 a2 a3) = (reads_fit a2, reads_fit a3)
  produces_fit (in_more {more = bs} k0 a1) = some_bound bs (reads_fit a1)
  produces_fit in_end = tt
  produces_fit (let_binding k0 a1 a2 a3) = (reads_fit a2, reads_fit a3)
  produces_fit (let_more {more = bs} k0 a1) = some_bound bs (reads_fit a1)
  produces_fit let_end = tt
  produces_fit (in_clause k0 a1) = reads_fit a1
  produces_fit (assign_clause k0 a1) = reads_fit a1
  produces_fit (return_clause k0 a1) = reads_fit a1
  produces_fit (satisfies_clause k0 a1) = reads_fit a1
  produces_fit (test_clause k0 a1 k2) = reads_fit a1
  produces_fit (then_clause k0 a1) = reads_fit a1
  produces_fit (else_clause k0 a1) = reads_fit a1
  produces_fit (or_expr {first = a} {more = more} a0 a1) = chain_fits or_chain a more (reads_fit a0) (reads_fit a1)
  produces_fit (or_more k0 a1 a2) = more_fit (reads_fit a1) (reads_fit a2)
  produces_fit or_end = none_fit
  produces_fit (and_expr {first = a} {more = more} a0 a1) = chain_fits and_chain a more (reads_fit a0) (reads_fit a1)
  produces_fit (and_more k0 a1 a2) = more_fit (reads_fit a1) (reads_fit a2)
  produces_fit and_end = none_fit
  produces_fit (comparison_expr {first = a} {second = b} a0 a1) = compared_fits a b (reads_fit a0) (reads_fit a1)
  produces_fit (equal k0 a1) = reads_fit a1
  produces_fit (not_equal k0 a1) = reads_fit a1
  produces_fit (less k0 a1) = reads_fit a1
  produces_fit (less_or_equal k0 a1) = reads_fit a1
  produces_fit (greater k0 a1) = reads_fit a1
  produces_fit (greater_or_equal k0 a1) = reads_fit a1
  produces_fit not_compared = tt
  produces_fit (concatenation_expr {first = a} {more = more} a0 a1) = chain_fits concatenation_chain a more (reads_fit a0) (reads_fit a1)
  produces_fit (concatenation_more k0 a1 a2) = more_fit (reads_fit a1) (reads_fit a2)
  produces_fit concatenation_end = none_fit
  produces_fit (range_expr {first = a} {last = b} a0 a1) = ranging_fits a b (reads_fit a0) (reads_fit a1)
  produces_fit (up_to k0 c a1) = reads_fit a1
  produces_fit (up_to_cut k0 c) = tt
  produces_fit no_range = tt
  produces_fit (additive_expr {first = a} {more = more} a0 a1) = mixed_fits tree.Additive' (λ ops ps s h. h) a more (reads_fit a0) (reads_fit a1)
  produces_fit (plus k0 a1 a2) = more_fit (reads_fit a1) (reads_fit a2)
  produces_fit (minus k0 a1 a2) = more_fit (reads_fit a1) (reads_fit a2)
  produces_fit additive_end = none_fit
  produces_fit (multiplicative_expr {first = a} {more = more} a0 a1) = mixed_fits tree.Multiplicative' (λ ops ps s h. h) a more (reads_fit a0) (reads_fit a1)
  produces_fit (times k0 a1 a2) = more_fit (reads_fit a1) (reads_fit a2)
  produces_fit (integer_divide k0 a1 a2) = more_fit (reads_fit a1) (reads_fit a2)
  produces_fit (modulo k0 a1 a2) = more_fit (reads_fit a1) (reads_fit a2)
  produces_fit multiplicative_end = none_fit
  produces_fit (union_expr {first = a} {more = more} a0 a1) = chain_fits union_chain a more (reads_fit a0) (reads_fit a1)
  produces_fit (union_more k0 a1 a2) = more_fit (reads_fit a1) (reads_fit a2)
  produces_fit (bar_more k0 a1 a2) = more_fit (reads_fit a1) (reads_fit a2)
  produces_fit union_end = none_fit
  produces_fit (set_expr {first = a} {more = more} a0 a1) = mixed_fits tree.IntersectExcept (λ ops ps s h. h) a more (reads_fit a0) (reads_fit a1)
  produces_fit (intersect k0 a1 a2) = more_fit (reads_fit a1) (reads_fit a2)
  produces_fit (except k0 a1 a2) = more_fit (reads_fit a1) (reads_fit a2)
  produces_fit set_end = none_fit
  produces_fit (negative {a = a} k0 a1) = signed_fits sign.Minus a (reads_fit a1)
  produces_fit (positive {a = a} k0 a1) = signed_fits sign.Plus a (reads_fit a1)
  produces_fit (no_sign a0) = reads_fit a0
  produces_fit (map_expr {first = a} {more = more} a0 a1) = chain_fits simple_map_chain a more (reads_fit a0) (reads_fit a1)
  produces_fit (map_more k0 a1 a2) = more_fit (reads_fit a1) (reads_fit a2)
  produces_fit map_end = none_fit
  produces_fit (operand a0 a1) = reads_fit a0
  produces_fit (left_out_operator among read is) = absurd is
  produces_fit no_left_out = tt
  produces_fit (root k0) = root_fits
  produces_fit (from_root {steps = steps} k0 a1) = rooted_fits steps (reads_fit a1)
  produces_fit (from_descendants {steps = steps} k0 a1) = from_descendants_fits steps (reads_fit a1)
  produces_fit (relative {steps = steps} a0) = path_fits steps (reads_fit a0)
  produces_fit (path_steps a0 a1) = (reads_fit a0, reads_fit a1)
  produces_fit (next_step k0 a1 a2) = more_fit (reads_fit a1) (reads_fit a2)
  produces_fit (next_descendants k0 a1 a2) = more_fit descendants_fits (more_fit (reads_fit a1) (reads_fit a2))
  produces_fit steps_end = none_fit
  produces_fit (context_item {predicates = ps} k0 a1) = filtered_fits (other (alone tree.ContextItem) []) ps context_fits (reads_fit a1)
  produces_fit (primary {a = a} {predicates = ps} a0 a1) = filtered_fits a ps (reads_fit a0) (reads_fit a1)
  produces_fit (parent {predicates = ps} k0 a1) = step_fits axis.Parent tests.AnyNode ps (reads_fit a1)
  produces_fit (attribute {test = t} {predicates = ps} k0 a1 a2) = attribute_fits t ps (reads_fit a2)
  produces_fit (axis_name {xs = xs} {tail = b} k0 a1) = named_fits xs (first_text xs) b (reads_fit a1)
  produces_fit (any_name {predicates = ps} k0 a1) = child_fits tests.AnyName ps (reads_fit a1)
  produces_fit (node_name {xs = xs} {parentheses = p} {predicates = ps} k0 a1 a2) = child_fits (kind_test tests.AnyNode (first_text xs) p) ps (reads_fit a2)
  produces_fit (element_name {xs = xs} {parentheses = p} {predicates = ps} k0 a1 a2) = child_fits (kind_test tests.AnyElement (first_text xs) p) ps (reads_fit a2)
  produces_fit (plain_step {xs = xs} {word = name} {tail = b} a0 a1) = named_fits xs name b (reads_fit a1)
  produces_fit (left_out_step among read is) = absurd is
  produces_fit (axis_test k0 a1 a2) = reads_fit a2
  produces_fit (axis_call k0 a1 k2 a3) = (reads_fit a1, reads_fit a3)
  produces_fit (axis_predicates a0) = reads_fit a0
  produces_fit (name_call k0 a1 k2 a3) = (reads_fit a1, reads_fit a3)
  produces_fit (name_predicates a0) = reads_fit a0
  produces_fit (name_test a0) = tt
  produces_fit (axis_name_test k0) = tt
  produces_fit (any_name_test k0) = tt
  produces_fit (node_test k0 a1) = tt
  produces_fit (element_test k0 a1) = tt
  produces_fit (kind_parentheses k0 k1) = tt
  produces_fit no_parentheses = tt
  produces_fit (predicate k0 a1 k2 a3) = more_fit (reads_fit a1) (reads_fit a3)
  produces_fit no_predicate = none_fit
  produces_fit (integer_expr {xs = xs} k0) = integer_fits xs
  produces_fit (string_expr {xs = xs} k0) = string_fits xs
  produces_fit (variable_expr {xs = xs} {word = name} k0 c a1) = variable_fits xs name
  produces_fit (variable_cut k0 gone) = absurd gone
  produces_fit (parenthesized k0 a1 k2) = fit_behind (reads_fit a1)
  produces_fit (inside a0) = reads_fit a0
  produces_fit empty = empty_fits
  produces_fit (some_arguments a0 a1) = (reads_fit a0, reads_fit a1)
  produces_fit no_arguments = tt
  produces_fit (more_arguments k0 a1 a2) = (reads_fit a1, reads_fit a2)
  produces_fit arguments_end = tt
  produces_fit (variable_name a0) = tt
  produces_fit (axis_variable k0) = tt
  produces_fit (node_variable k0) = tt
  produces_fit (element_variable k0) = tt
  produces_fit (plain_name among k0) = tt

pub read_fits : (tokens : List Lexed) (a : Operand) (variables : List (List ℕ)) → AreRead tokens a → first_fault variables a.names ≡ None →
    (part_of_tree a.tree).fits (record { given = variables; bound = [] }) ≡ true
read_fits tokens a variables h e = (reads_fit h).fits (record { given = variables; bound = [] }) e
