-- The expression that tokens read nests no deeper than may be.
use Rattle.std.proofs.Common.{◌≡◌, ℕ, suc, ◌+◌, ◌≤◌, Bool, true, false, List, [], refl, ap, arith}
use Rattle.std.specs.Prelude.{⊤, cond}
use Rattle.std.proofs.lemmas.Bool.{false≢true}
use Rattle.pj_ll.specs.declared.grammar.Symbol.{Symbol}
use Rattle.pj_ll.specs.declared.grammar.Symbol.TheVariants.{Terminal}
use Rattle.pj_xexpressions.specs.declared.operator.Sign.TheVariants as sign
use Rattle.pj_xexpressions.specs.declared.operator.Quantifier.TheVariants as quantifier
use Rattle.pj_xexpressions.specs.declared.axis.Axis.TheVariants as axes
use Rattle.pj_xexpressions.specs.declared.expr.NodeTest.{NodeTest}
use Rattle.pj_xexpressions.specs.declared.expr.NodeTest.TheVariants.{AnyName, AnyNode, AnyElement}
use Rattle.pj_xexpressions.specs.Trees as tree
use Rattle.pj_xtokens.specs.Tokens.{Lexed}
use Rattle.pj_xtokens.specs.First.{first_text}
use Rattle.pj_xtokens.specs.Literals.{integer_of, string_of}
use Rattle.pj_xgrammar.specs.declared.rule.Rule.{Rule}
use Rattle.pj_xgrammar.specs.declared.rule.Rule.TheVariants as r
use Rattle.pj_xgrammar.specs.Notation.{lone_slash}
use Rattle.pj_xreadings.specs.Nesting.{test_nesting, nesting_of_tree}
use Rattle.pj_xreadings.specs.Operands.{Operand, other, trees_of, kind_test, arguments_in}
use Rattle.pj_xmeaning.specs.RuleMeanings.{Value}
use Rattle.pj_xmeaning.specs.Reach.{All}
use Rattle.pj_xmeaning.specs.Reads.{Takes, token, Reads, Produces, AreRead, by, cut, expr, expr_more, expr_end, for_expr, let_expr, some_expr, every_expr, if_expr, single_or, in_binding, in_more, in_end, let_binding, let_more, let_end, in_clause, assign_clause, return_clause, satisfies_clause, test_clause, then_clause, else_clause, or_expr, or_more, or_end, and_expr, and_more, and_end, comparison_expr, equal, not_equal, less, less_or_equal, greater, greater_or_equal, not_compared, concatenation_expr, concatenation_more, concatenation_end, range_expr, up_to, up_to_cut, no_range, additive_expr, plus, minus, additive_end, multiplicative_expr, times, integer_divide, modulo, multiplicative_end, union_expr, union_more, bar_more, union_end, set_expr, intersect, except, set_end, negative, positive, no_sign, map_expr, map_more, map_end, operand, left_out_operator, no_left_out, root, from_root, from_descendants, relative, path_steps, next_step, next_descendants, steps_end, context_item, primary, parent, attribute, axis_name, any_name, node_name, element_name, plain_step, left_out_step, axis_test, axis_call, axis_predicates, name_call, name_predicates, name_test, axis_name_test, any_name_test, node_test, element_test, kind_parentheses, no_parentheses, predicate, no_predicate, integer_expr, string_expr, variable_expr, variable_cut, parenthesized, inside, empty, some_arguments, no_arguments, more_arguments, arguments_end, variable_name, axis_variable, node_variable, element_variable, plain_name}
use Rattle.pj_xparse.proofs.Read.{is_marked, marked_read, alone_read}
use Rattle.pj_xparse.proofs.NestedParts.{flag, Stands, IsInside, is_inside, lower, alone_stands, Further, none_further, behind_word, behind_sign, commas, ors, ands, concatenations, sums, products, unions, sets, maps, chain_stands, trees_behind, mixed_stands, tree_compared, comparison_stands, tree_last, range_stands, signed_stands, AreBound, FurtherBound, none_bound, more_bound, for_binds, let_binds, quantifier_binds, bound_stands, chosen_stands}
use Rattle.pj_xparse.proofs.NestedSteps.{AreSteps, steps, FurtherSteps, no_steps, one_step, descendants_step, rooted_stands, rooted_descendants_stand, path_stands, AreInside, none_inside, predicates_within, one_inside, filtered_stands, step_stands, attribute_stands, AreArguments, none_within, some_within, IsBehindName, a_test, predicates_alone, called_behind, named_stands, IsParenthesized, expression_inside, nothing_inside, parenthesized_stands}

-- ---- what is so of the values of the rules

-- the parentheses of a kind test
abbrev HasRoom : ℕ → Bool → Type 0
HasRoom d parentheses = parentheses ≡ true → suc d ≤ 200

-- What is so of what a rule reads from the tokens xs, up to ys, where so many things are open: an expression is an operand of its rule's level; further
-- operands, steps and variables are so with one before them; and `return`, `satisfies` and `else` begin a step in another place, since a `/` alone
-- may stand before them.
abbrev Nests : (rule : Rule) → ℕ → List Lexed → List Lexed → Value rule → Type 0
Nests r.Expr d xs ys a = Stands 0 d ys a.tree
Nests r.ExprTail d xs ys more = Further 1 false d xs ys (trees_of more)
Nests r.ExprSingle d xs ys a = Stands 1 d ys a.tree
Nests r.InBindings d xs ys bindings = AreBound d ys bindings
Nests r.InBindingsTail d xs ys more = FurtherBound d xs ys more
Nests r.LetBindings d xs ys bindings = AreBound d ys bindings
Nests r.LetBindingsTail d xs ys more = FurtherBound d xs ys more
Nests r.InClause d xs ys a = Stands 1 (suc d) ys a.tree
Nests r.AssignClause d xs ys a = Stands 1 (suc d) ys a.tree
Nests r.ReturnClause d xs ys a = (flag xs ≡ true) × Stands 1 (suc d) ys a.tree
Nests r.SatisfiesClause d xs ys a = (flag xs ≡ true) × Stands 1 (suc d) ys a.tree
Nests r.TestClause d xs ys a = IsInside (suc d) a.tree
Nests r.ThenClause d xs ys a = Stands 1 (suc d) ys a.tree
Nests r.ElseClause d xs ys a = (flag xs ≡ true) × Stands 1 (suc d) ys a.tree
Nests r.OrExpr d xs ys a = Stands 2 d ys a.tree
Nests r.OrTail d xs ys more = Further 3 true d xs ys (trees_of more)
Nests r.AndExpr d xs ys a = Stands 3 d ys a.tree
Nests r.AndTail d xs ys more = Further 4 true d xs ys (trees_of more)
Nests r.ComparisonExpr d xs ys a = Stands 4 d ys a.tree
Nests r.ComparisonTail d xs ys second = Further 5 false d xs ys (tree_compared second)
Nests r.StringConcatExpr d xs ys a = Stands 5 d ys a.tree
Nests r.StringConcatTail d xs ys more = Further 6 false d xs ys (trees_of more)
Nests r.RangeExpr d xs ys a = Stands 6 d ys a.tree
Nests r.RangeTail d xs ys last = Further 7 true d xs ys (tree_last last)
Nests r.AdditiveExpr d xs ys a = Stands 7 d ys a.tree
Nests r.AdditiveTail d xs ys more = Further 8 false d xs ys (trees_behind more)
Nests r.MultiplicativeExpr d xs ys a = Stands 8 d ys a.tree
Nests r.MultiplicativeTail d xs ys more = Further 9 true d xs ys (trees_behind more)
Nests r.UnionExpr d xs ys a = Stands 9 d ys a.tree
Nests r.UnionTail d xs ys more = Further 10 false d xs ys (trees_of more)
Nests r.IntersectExceptExpr d xs ys a = Stands 10 d ys a.tree
Nests r.IntersectExceptTail d xs ys more = Further 11 true d xs ys (trees_behind more)
Nests r.UnaryExpr d xs ys a = Stands 11 d ys a.tree
Nests r.SimpleMapExpr d xs ys a = Stands 12 d ys a.tree
Nests r.SimpleMapTail d xs ys more = Further 13 false d xs ys (trees_of more)
Nests r.Operand d xs ys a = Stands 13 d ys a.tree
Nests r.LeftOutOperator d xs ys nothing = ⊤
Nests r.PathExpr d xs ys a = Stands 13 d ys a.tree
Nests r.RelativePathExpr d xs ys way = AreSteps d ys way
Nests r.RelativePathTail d xs ys more = FurtherSteps d xs ys more
Nests r.StepExpr d xs ys a = Stands 15 d ys a.tree
Nests r.AxisTail d xs ys tail = IsBehindName d tail
Nests r.NameTail d xs ys tail = IsBehindName d tail
Nests r.NodeTest d xs ys test = d + test_nesting test ≤ 200
Nests r.KindTail d xs ys parentheses = HasRoom d parentheses
Nests r.PredicateList d xs ys predicates = AreInside d xs ys predicates
Nests r.PrimaryExpr d xs ys a = Stands 16 d ys a.tree
Nests r.Parenthesized d xs ys a = d ≤ 200 → IsParenthesized d a.tree
Nests r.Arguments d xs ys arguments = d ≤ 200 → AreArguments d arguments
Nests r.ArgumentsTail d xs ys more = Further 1 false d xs ys (trees_of (arguments_in more))
Nests r.VarName d xs ys word = d ≤ 200
Nests r.PlainName d xs ys word = d ≤ 200

-- ---- tokens

few : {d : ℕ} {s : Symbol} {xs ys : List Lexed} → Takes All d s xs ys → d ≤ 200
few (token e within) = within
few (cut c) = absurd c

-- a word and a `*` begin a step in another place
begins : {d n : ℕ} {xs ys : List Lexed} → Takes All d (Terminal n) xs ys → is_marked true n ≡ true → flag xs ≡ true
begins (token {x = x} {xs = xs} {number = n} e within) h = marked_read true x xs n e h refl
begins (cut c) h = absurd c

-- no step begins behind a `/` alone
alone_before : {d : ℕ} {xs ys : List Lexed} → Takes All d lone_slash xs ys → flag ys ≡ false
alone_before (token {x = x} {xs = xs} e within) = alone_read x xs e
alone_before (cut c) = absurd c

-- ---- kind tests

kind_within : {d : ℕ} (kind : NodeTest) (name : List ℕ) (parentheses : Bool) → test_nesting kind ≤ 1 → d ≤ 200 → HasRoom d parentheses → d + test_nesting (kind_test kind name parentheses) ≤ 200
kind_within kind name true one h room = let more = room refl in omega arith
kind_within kind name false one h room = omega arith

-- ---- all rules

mutual
  nested : {rule : Rule} {d : ℕ} {xs ys : List Lexed} {v : Value rule} → Reads All rule d xs ys v → Nests rule d xs ys v
  nested (by b p) = produced p
  nested (cut c) = absurd c

  produced : {rule : Rule} {d : ℕ} {xs ys : List Lexed} {v : Value rule} → Produces All rule d xs ys v → Nests rule d xs ys v
  produced (expr {first = a} {more = us} x y) = chain_stands commas a us (nested x) (nested y)
  produced (expr_more {next = a} {more = us} k x y) = behind_sign a.tree (trees_of us) (nested x) (nested y)
  produced expr_end = none_further
  produced (for_expr {body = a} k x y) = bound_stands for_binds a (nested x) (nested y).0 (nested y).1
  produced (let_expr {body = a} k x y) = bound_stands let_binds a (nested x) (nested y).0 (nested y).1
  produced (some_expr {test = a} k x y) = bound_stands (quantifier_binds quantifier.Some) a (nested x) (nested y).0 (nested y).1
  produced (every_expr {test = a} k x y) = bound_stands (quantifier_binds quantifier.Every) a (nested x) (nested y).0 (nested y).1
  produced (if_expr {test = a} {first = u} {second = w} k x y z) = chosen_stands a u w (nested x) (nested y) (nested z).0 (nested z).1
  produced (single_or x) = lower {m = 2} (omega arith) (nested x)
  produced (in_binding k n x y) = (nested y).behind _ (nested x)
  produced (in_more k x) = more_bound (nested x)
  produced in_end = none_bound
  produced (let_binding k n x y) = (nested y).behind _ (nested x)
  produced (let_more k x) = more_bound (nested x)
  produced let_end = none_bound
  produced (in_clause k x) = nested x
  produced (assign_clause k x) = nested x
  produced (return_clause k x) = (begins k refl, nested x)
  produced (satisfies_clause k x) = (begins k refl, nested x)
  produced (test_clause k x l) = is_inside (nested x)
  produced (then_clause k x) = nested x
  produced (else_clause k x) = (begins k refl, nested x)
  produced (or_expr {first = a} {more = us} x y) = chain_stands ors a us (nested x) (nested y)
  produced (or_more {next = a} {more = us} k x y) = behind_word a.tree (trees_of us) (begins k refl) (nested x) (nested y)
  produced or_end = none_further
  produced (and_expr {first = a} {more = us} x y) = chain_stands ands a us (nested x) (nested y)
  produced (and_more {next = a} {more = us} k x y) = behind_word a.tree (trees_of us) (begins k refl) (nested x) (nested y)
  produced and_end = none_further
  produced (comparison_expr {first = a} {second = u} x y) = comparison_stands a u (nested x) (nested y)
  produced (equal {a = a} k x) = behind_sign a.tree [] (nested x) none_further
  produced (not_equal {a = a} k x) = behind_sign a.tree [] (nested x) none_further
  produced (less {a = a} k x) = behind_sign a.tree [] (nested x) none_further
  produced (less_or_equal {a = a} k x) = behind_sign a.tree [] (nested x) none_further
  produced (greater {a = a} k x) = behind_sign a.tree [] (nested x) none_further
  produced (greater_or_equal {a = a} k x) = behind_sign a.tree [] (nested x) none_further
  produced not_compared = none_further
  produced (concatenation_expr {first = a} {more = us} x y) = chain_stands concatenations a us (nested x) (nested y)
  produced (concatenation_more {next = a} {more = us} k x y) = behind_sign a.tree (trees_of us) (nested x) (nested y)
  produced concatenation_end = none_further
  produced (range_expr {first = a} {last = u} x y) = range_stands a u (nested x) (nested y)
  produced (up_to {a = a} k b x) = behind_word a.tree [] (begins k refl) (nested x) none_further
  produced (up_to_cut k c) = absurd c
  produced no_range = none_further
  produced (additive_expr {first = a} {more = us} x y) = mixed_stands sums a us (nested x) (nested y)
  produced (plus {next = a} {more = us} k x y) = behind_sign a.tree (trees_behind us) (nested x) (nested y)
  produced (minus {next = a} {more = us} k x y) = behind_sign a.tree (trees_behind us) (nested x) (nested y)
  produced additive_end = none_further
  produced (multiplicative_expr {first = a} {more = us} x y) = mixed_stands products a us (nested x) (nested y)
  produced (times {next = a} {more = us} k x y) = behind_word a.tree (trees_behind us) (begins k refl) (nested x) (nested y)
  produced (integer_divide {next = a} {more = us} k x y) = behind_word a.tree (trees_behind us) (begins k refl) (nested x) (nested y)
  produced (modulo {next = a} {more = us} k x y) = behind_word a.tree (trees_behind us) (begins k refl) (nested x) (nested y)
  produced multiplicative_end = none_further
  produced (union_expr {first = a} {more = us} x y) = chain_stands unions a us (nested x) (nested y)
  produced (union_more {next = a} {more = us} k x y) = behind_sign a.tree (trees_of us) (nested x) (nested y)
  produced (bar_more {next = a} {more = us} k x y) = behind_sign a.tree (trees_of us) (nested x) (nested y)
  produced union_end = none_further
  produced (set_expr {first = a} {more = us} x y) = mixed_stands sets a us (nested x) (nested y)
  produced (intersect {next = a} {more = us} k x y) = behind_word a.tree (trees_behind us) (begins k refl) (nested x) (nested y)
  produced (except {next = a} {more = us} k x y) = behind_word a.tree (trees_behind us) (begins k refl) (nested x) (nested y)
  produced set_end = none_further
  produced (negative {a = a} k x) = signed_stands sign.Minus a (nested x)
  produced (positive {a = a} k x) = signed_stands sign.Plus a (nested x)
  produced (no_sign x) = lower {m = 12} (omega arith) (nested x)
  produced (map_expr {first = a} {more = us} x y) = chain_stands maps a us (nested x) (nested y)
  produced (map_more {next = a} {more = us} k x y) = behind_sign a.tree (trees_of us) (nested x) (nested y)
  produced map_end = none_further
  produced (operand x (by b (left_out_operator among read is))) = absurd is
  produced (operand x (by b no_left_out)) = nested x
  produced (operand x (cut c)) = absurd c
  produced (left_out_operator among read is) = absurd is
  produced no_left_out = tt
  produced (root k) = alone_stands tree.Root (omega arith) (ap (λ (z : Bool). cond z 1 0) (alone_before k)) (few k)
  produced (from_root k x) = rooted_stands (nested x)
  produced (from_descendants k x) = rooted_descendants_stand (nested x)
  produced (relative x) = path_stands (nested x)
  produced (path_steps {first = a} x y) = steps ((nested y).behind a.tree (nested x))
  produced (next_step {next = a} {more = us} k x y) = one_step a us (nested x) (nested y)
  produced (next_descendants {next = a} {more = us} k x y) = descendants_step a us (nested x) (nested y)
  produced steps_end = no_steps
  produced (context_item k x) = filtered_stands (other (tree.alone tree.ContextItem) []) (alone_stands tree.ContextItem (omega arith) refl (few k)) (nested x)
  produced (primary {a = a} x y) = filtered_stands a (nested x) (nested y)
  produced (parent {predicates = ps} k x) = let h = few k in step_stands axes.Parent AnyNode (trees_of ps) (omega arith) (predicates_within h (nested x))
  produced (attribute {test = test} {predicates = ps} k x y) = attribute_stands test (trees_of ps) (nested x) (predicates_within (few k) (nested y))
  produced (axis_name {xs = xs} k x) = named_stands xs (first_text xs) (few k) (nested x)
  produced (any_name {predicates = ps} k x) = let h = few k in step_stands axes.Child AnyName (trees_of ps) (omega arith) (predicates_within h (nested x))
  produced (node_name {xs = xs} {parentheses = p} {predicates = ps} k x y) =
      step_stands axes.Child (kind_test AnyNode (first_text xs) p) (trees_of ps) (kind_within AnyNode (first_text xs) p (omega arith) (few k) (nested x)) (predicates_within (few k) (nested y))
  produced (element_name {xs = xs} {parentheses = p} {predicates = ps} k x y) =
      step_stands axes.Child (kind_test AnyElement (first_text xs) p) (trees_of ps) (kind_within AnyElement (first_text xs) p (omega arith) (few k) (nested x)) (predicates_within (few k) (nested y))
  produced (plain_step {xs = xs} {word = name} x y) = named_stands xs name (nested x) (nested y)
  produced (left_out_step among read is) = absurd is
  produced (axis_test k x y) = a_test (nested x) (predicates_within (few k) (nested y))
  produced (axis_call k x l y) = called_behind (few k) (few l) (nested x) (nested y)
  produced (axis_predicates x) = predicates_alone (nested x)
  produced (name_call k x l y) = called_behind (few k) (few l) (nested x) (nested y)
  produced (name_predicates x) = predicates_alone (nested x)
  produced (name_test x) = let h = nested x in omega (arith, h)
  produced (axis_name_test k) = let h = few k in omega arith
  produced (any_name_test k) = let h = few k in omega arith
  produced (node_test {xs = xs} {parentheses = p} k x) = kind_within AnyNode (first_text xs) p (omega arith) (few k) (nested x)
  produced (element_test {xs = xs} {parentheses = p} k x) = kind_within AnyElement (first_text xs) p (omega arith) (few k) (nested x)
  produced (kind_parentheses k l) = λ e. few k
  produced no_parentheses = λ e. absurd (false≢true e)
  produced (predicate {first = a} {more = us} k x l y) = one_inside a us (few l) (is_inside (nested x)) (nested y)
  produced no_predicate = none_inside
  produced (integer_expr {xs = xs} k) = alone_stands (tree.Integer (integer_of (first_text xs))) (omega arith) refl (few k)
  produced (string_expr {xs = xs} k) = alone_stands (tree.String (string_of (first_text xs))) (omega arith) refl (few k)
  produced (variable_expr {word = name} k b x) = alone_stands (tree.Variable name) (omega arith) refl (few k)
  produced (variable_cut k c) = absurd c
  produced (parenthesized k x l) = parenthesized_stands (nested x (few k))
  produced (inside x) = λ h. expression_inside (is_inside (nested x))
  produced empty = λ h. nothing_inside h
  produced (some_arguments {first = a} {more = us} x y) = λ h. some_within (nested x) (nested y)
  produced no_arguments = λ h. none_within h
  produced (more_arguments {next = a} {more = us} k x y) = behind_sign a.tree (trees_of (arguments_in us)) (nested x) (nested y)
  produced arguments_end = none_further
  produced (variable_name x) = nested x
  produced (axis_variable k) = few k
  produced (node_variable k) = few k
  produced (element_variable k) = few k
  produced (plain_name among k) = few k

pub read_nests : (tokens : List Lexed) (a : Operand) → AreRead tokens a → nesting_of_tree a.tree ≤ 200
read_nests tokens a read = let all = is_inside (nested read) in omega (arith, all.room)
