-- What the tokens of an expression read is the tree of an expression, where they are not too many.
use Rattle.std.proofs.Common.{◌≤◌, ◌^◌, ℕ, List, [], length, arith}
use Rattle.pj_ll.specs.declared.grammar.Symbol.{Symbol}
use Rattle.pj_xexpressions.specs.declared.axis.Axis.TheVariants as axes
use Rattle.pj_xexpressions.specs.declared.expr.NodeTest.TheVariants.{AnyName, AnyNode, AnyElement}
use Rattle.pj_xexpressions.specs.declared.operator.Sign.TheVariants as sign
use Rattle.pj_xexpressions.specs.declared.operator.Quantifier.TheVariants as quantifier
use Rattle.pj_xexpressions.specs.Trees as tree
use Rattle.pj_xexpressions.specs.Trees.{alone}
use Rattle.pj_xtokens.specs.Tokens.{Lexed}
use Rattle.pj_xtokens.specs.First.{first_text}
use Rattle.pj_xtokens.specs.Literals.{integer_of, string_of}
use Rattle.pj_xgrammar.specs.declared.rule.Rule.{Rule}
use Rattle.pj_xreadings.specs.Operands.{Operand, other, kind_test}
use Rattle.pj_xmeaning.specs.RuleMeanings.{Value}
use Rattle.pj_xmeaning.specs.Reach.{All}
use Rattle.pj_xmeaning.specs.Reads.{AreRead, Reads, by, Takes, token, expr, expr_more, expr_end, for_expr, let_expr, some_expr, every_expr, if_expr, single_or, in_binding, in_more, in_end, let_binding, let_more, let_end, in_clause, assign_clause, return_clause, satisfies_clause, test_clause, then_clause, else_clause, or_expr, or_more, or_end, and_expr, and_more, and_end, comparison_expr, equal, not_equal, less, less_or_equal, greater, greater_or_equal, not_compared, concatenation_expr, concatenation_more, concatenation_end, range_expr, up_to, up_to_cut, no_range, additive_expr, plus, minus, additive_end, multiplicative_expr, times, integer_divide, modulo, multiplicative_end, union_expr, union_more, bar_more, union_end, set_expr, intersect, except, set_end, negative, positive, no_sign, map_expr, map_more, map_end, operand, left_out_operator, no_left_out, root, from_root, from_descendants, relative, path_steps, next_step, next_descendants, steps_end, context_item, primary, parent, attribute, axis_name, any_name, node_name, element_name, plain_step, left_out_step, axis_test, axis_call, axis_predicates, name_call, name_predicates, name_test, axis_name_test, any_name_test, node_test, element_test, kind_parentheses, no_parentheses, predicate, no_predicate, integer_expr, string_expr, variable_expr, variable_cut, parenthesized, inside, empty, some_arguments, no_arguments, more_arguments, arguments_end, variable_name, axis_variable, node_variable, element_variable, plain_name}
use Rattle.pj_xsizes.proofs.Made.{HasExpr}
use Rattle.pj_xsizes.proofs.Parts.{Few, IsLeft, IsTaken, here, after, few, left, none_made, wider, more_made, two_more, first_made, ValueMade, commas, ors, ands, concatenations, unions, simple_maps, sums, products, sets, fors, lets, quantified, root_made, context_made, integer_made, string_made, variable_made, empty_made, chain_made, mixed_made, compared_made, ranging_made, signed_made, chosen_made, bound_made, descendants_made, rooted_made, all_made, path_made, step_made, attribute_made, filtered_made, named_made}

-- one token fewer
taken : {d : ℕ} {s : Symbol} {xs ys : List Lexed} → Takes All d s xs ys → IsTaken ys xs
taken (token {xs = xs} e few) = record { count = omega arith }
taken (Takes.cut c) = absurd c

-- What is read of a rule is made, and the tokens behind it are no more. In each clause `p` and `e` with the number of a part say it of that part.
read_made : {rule : Rule} {d : ℕ} {xs ys : List Lexed} {v : Value rule} → Reads All rule d xs ys v → Few xs → ValueMade xs rule v × IsLeft ys xs
read_made (by b (expr {first = first} {more = more} a0 a1)) h = let (p0, e0) = read_made a0 h in let (p1, e1) = read_made a1 (few e0 h) in (chain_made tree.Comma commas first more p0 p1 (few e0 h), after e1 e0)
read_made (by b (expr_more k0 a1 a2)) h = let (p1, e1) = read_made a1 (few (left (taken k0)) h) in let (p2, e2) = read_made a2 (few (after e1 (left (taken k0))) h) in (more_made (taken k0) e1 p1 p2, after e2 (after e1 (left (taken k0))))
read_made (by b expr_end) h = (none_made, here)
read_made (by b (for_expr {bindings = bindings} {body = body} k0 a1 a2)) h = let (p1, e1) = read_made a1 (few (left (taken k0)) h) in let (p2, e2) = read_made a2 (few (after e1 (left (taken k0))) h) in (bound_made tree.For fors bindings body p1 p2 (few (left (taken k0)) h), after e2 (after e1 (left (taken k0))))
read_made (by b (let_expr {bindings = bindings} {body = body} k0 a1 a2)) h = let (p1, e1) = read_made a1 (few (left (taken k0)) h) in let (p2, e2) = read_made a2 (few (after e1 (left (taken k0))) h) in (bound_made tree.Let lets bindings body p1 p2 (few (left (taken k0)) h), after e2 (after e1 (left (taken k0))))
read_made (by b (some_expr {bindings = bindings} {test = test} k0 a1 a2)) h = let (p1, e1) = read_made a1 (few (left (taken k0)) h) in let (p2, e2) = read_made a2 (few (after e1 (left (taken k0))) h) in (bound_made (tree.Quantified quantifier.Some) (quantified quantifier.Some) bindings test p1 p2 (few (left (taken k0)) h), after e2 (after e1 (left (taken k0))))
read_made (by b (every_expr {bindings = bindings} {test = test} k0 a1 a2)) h = let (p1, e1) = read_made a1 (few (left (taken k0)) h) in let (p2, e2) = read_made a2 (few (after e1 (left (taken k0))) h) in (bound_made (tree.Quantified quantifier.Every) (quantified quantifier.Every) bindings test p1 p2 (few (left (taken k0)) h), after e2 (after e1 (left (taken k0))))
read_made (by b (if_expr {test = test} {first = first} {second = second} k0 a1 a2 a3)) h = let (p1, e1) = read_made a1 (few (left (taken k0)) h) in let (p2, e2) = read_made a2 (few (after e1 (left (taken k0))) h) in let (p3, e3) = read_made a3 (few (after e2 (after e1 (left (taken k0)))) h) in (chosen_made test first second p1 p2 p3, after e3 (after e2 (after e1 (left (taken k0)))))
read_made (by b (single_or a0)) h = let (p0, e0) = read_made a0 h in (p0, e0)
read_made (by b (in_binding k0 a1 a2 a3)) h = let (p1, e1) = read_made a1 (few (left (taken k0)) h) in let (p2, e2) = read_made a2 (few (after e1 (left (taken k0))) h) in let (p3, e3) = read_made a3 (few (after e2 (after e1 (left (taken k0)))) h) in (more_made (taken k0) (after e2 e1) p2 p3, after e3 (after e2 (after e1 (left (taken k0)))))
read_made (by b (in_more k0 a1)) h = let (p1, e1) = read_made a1 (few (left (taken k0)) h) in (wider (left (taken k0)) p1, after e1 (left (taken k0)))
read_made (by b in_end) h = (none_made, here)
read_made (by b (let_binding k0 a1 a2 a3)) h = let (p1, e1) = read_made a1 (few (left (taken k0)) h) in let (p2, e2) = read_made a2 (few (after e1 (left (taken k0))) h) in let (p3, e3) = read_made a3 (few (after e2 (after e1 (left (taken k0)))) h) in (more_made (taken k0) (after e2 e1) p2 p3, after e3 (after e2 (after e1 (left (taken k0)))))
read_made (by b (let_more k0 a1)) h = let (p1, e1) = read_made a1 (few (left (taken k0)) h) in (wider (left (taken k0)) p1, after e1 (left (taken k0)))
read_made (by b let_end) h = (none_made, here)
read_made (by b (in_clause k0 a1)) h = let (p1, e1) = read_made a1 (few (left (taken k0)) h) in (p1, after e1 (left (taken k0)))
read_made (by b (assign_clause k0 a1)) h = let (p1, e1) = read_made a1 (few (left (taken k0)) h) in (p1, after e1 (left (taken k0)))
read_made (by b (return_clause k0 a1)) h = let (p1, e1) = read_made a1 (few (left (taken k0)) h) in (p1, after e1 (left (taken k0)))
read_made (by b (satisfies_clause k0 a1)) h = let (p1, e1) = read_made a1 (few (left (taken k0)) h) in (p1, after e1 (left (taken k0)))
read_made (by b (test_clause k0 a1 k2)) h = let (p1, e1) = read_made a1 (few (left (taken k0)) h) in (p1, after (left (taken k2)) (after e1 (left (taken k0))))
read_made (by b (then_clause k0 a1)) h = let (p1, e1) = read_made a1 (few (left (taken k0)) h) in (p1, after e1 (left (taken k0)))
read_made (by b (else_clause k0 a1)) h = let (p1, e1) = read_made a1 (few (left (taken k0)) h) in (p1, after e1 (left (taken k0)))
read_made (by b (or_expr {first = first} {more = more} a0 a1)) h = let (p0, e0) = read_made a0 h in let (p1, e1) = read_made a1 (few e0 h) in (chain_made tree.Or ors first more p0 p1 (few e0 h), after e1 e0)
read_made (by b (or_more k0 a1 a2)) h = let (p1, e1) = read_made a1 (few (left (taken k0)) h) in let (p2, e2) = read_made a2 (few (after e1 (left (taken k0))) h) in (more_made (taken k0) e1 p1 p2, after e2 (after e1 (left (taken k0))))
read_made (by b or_end) h = (none_made, here)
read_made (by b (and_expr {first = first} {more = more} a0 a1)) h = let (p0, e0) = read_made a0 h in let (p1, e1) = read_made a1 (few e0 h) in (chain_made tree.And ands first more p0 p1 (few e0 h), after e1 e0)
read_made (by b (and_more k0 a1 a2)) h = let (p1, e1) = read_made a1 (few (left (taken k0)) h) in let (p2, e2) = read_made a2 (few (after e1 (left (taken k0))) h) in (more_made (taken k0) e1 p1 p2, after e2 (after e1 (left (taken k0))))
read_made (by b and_end) h = (none_made, here)
read_made (by b (comparison_expr {first = first} {second = second} a0 a1)) h = let (p0, e0) = read_made a0 h in let (p1, e1) = read_made a1 (few e0 h) in (compared_made first second p0 p1, after e1 e0)
read_made (by b (equal k0 a1)) h = let (p1, e1) = read_made a1 (few (left (taken k0)) h) in (p1, after e1 (left (taken k0)))
read_made (by b (not_equal k0 a1)) h = let (p1, e1) = read_made a1 (few (left (taken k0)) h) in (p1, after e1 (left (taken k0)))
read_made (by b (less k0 a1)) h = let (p1, e1) = read_made a1 (few (left (taken k0)) h) in (p1, after e1 (left (taken k0)))
read_made (by b (less_or_equal k0 a1)) h = let (p1, e1) = read_made a1 (few (left (taken k0)) h) in (p1, after e1 (left (taken k0)))
read_made (by b (greater k0 a1)) h = let (p1, e1) = read_made a1 (few (left (taken k0)) h) in (p1, after e1 (left (taken k0)))
read_made (by b (greater_or_equal k0 a1)) h = let (p1, e1) = read_made a1 (few (left (taken k0)) h) in (p1, after e1 (left (taken k0)))
read_made (by b not_compared) h = (tt, here)
read_made (by b (concatenation_expr {first = first} {more = more} a0 a1)) h = let (p0, e0) = read_made a0 h in let (p1, e1) = read_made a1 (few e0 h) in (chain_made tree.Concatenation concatenations first more p0 p1 (few e0 h), after e1 e0)
read_made (by b (concatenation_more k0 a1 a2)) h = let (p1, e1) = read_made a1 (few (left (taken k0)) h) in let (p2, e2) = read_made a2 (few (after e1 (left (taken k0))) h) in (more_made (taken k0) e1 p1 p2, after e2 (after e1 (left (taken k0))))
read_made (by b concatenation_end) h = (none_made, here)
read_made (by b (range_expr {first = first} {last = last} a0 a1)) h = let (p0, e0) = read_made a0 h in let (p1, e1) = read_made a1 (few e0 h) in (ranging_made first last p0 p1, after e1 e0)
read_made (by b (up_to k0 c1 a2)) h = let (p2, e2) = read_made a2 (few (left (taken k0)) h) in (p2, after e2 (left (taken k0)))
read_made (by b (up_to_cut k0 c1)) h = absurd c1
read_made (by b no_range) h = (tt, here)
read_made (by b (additive_expr {first = first} {more = more} a0 a1)) h = let (p0, e0) = read_made a0 h in let (p1, e1) = read_made a1 (few e0 h) in (mixed_made tree.Additive' sums first more p0 p1 (few e0 h), after e1 e0)
read_made (by b (plus k0 a1 a2)) h = let (p1, e1) = read_made a1 (few (left (taken k0)) h) in let (p2, e2) = read_made a2 (few (after e1 (left (taken k0))) h) in (more_made (taken k0) e1 p1 p2, after e2 (after e1 (left (taken k0))))
read_made (by b (minus k0 a1 a2)) h = let (p1, e1) = read_made a1 (few (left (taken k0)) h) in let (p2, e2) = read_made a2 (few (after e1 (left (taken k0))) h) in (more_made (taken k0) e1 p1 p2, after e2 (after e1 (left (taken k0))))
read_made (by b additive_end) h = (none_made, here)
read_made (by b (multiplicative_expr {first = first} {more = more} a0 a1)) h = let (p0, e0) = read_made a0 h in let (p1, e1) = read_made a1 (few e0 h) in (mixed_made tree.Multiplicative' products first more p0 p1 (few e0 h), after e1 e0)
read_made (by b (times k0 a1 a2)) h = let (p1, e1) = read_made a1 (few (left (taken k0)) h) in let (p2, e2) = read_made a2 (few (after e1 (left (taken k0))) h) in (more_made (taken k0) e1 p1 p2, after e2 (after e1 (left (taken k0))))
read_made (by b (integer_divide k0 a1 a2)) h = let (p1, e1) = read_made a1 (few (left (taken k0)) h) in let (p2, e2) = read_made a2 (few (after e1 (left (taken k0))) h) in (more_made (taken k0) e1 p1 p2, after e2 (after e1 (left (taken k0))))
read_made (by b (modulo k0 a1 a2)) h = let (p1, e1) = read_made a1 (few (left (taken k0)) h) in let (p2, e2) = read_made a2 (few (after e1 (left (taken k0))) h) in (more_made (taken k0) e1 p1 p2, after e2 (after e1 (left (taken k0))))
read_made (by b multiplicative_end) h = (none_made, here)
read_made (by b (union_expr {first = first} {more = more} a0 a1)) h = let (p0, e0) = read_made a0 h in let (p1, e1) = read_made a1 (few e0 h) in (chain_made tree.Union unions first more p0 p1 (few e0 h), after e1 e0)
read_made (by b (union_more k0 a1 a2)) h = let (p1, e1) = read_made a1 (few (left (taken k0)) h) in let (p2, e2) = read_made a2 (few (after e1 (left (taken k0))) h) in (more_made (taken k0) e1 p1 p2, after e2 (after e1 (left (taken k0))))
read_made (by b (bar_more k0 a1 a2)) h = let (p1, e1) = read_made a1 (few (left (taken k0)) h) in let (p2, e2) = read_made a2 (few (after e1 (left (taken k0))) h) in (more_made (taken k0) e1 p1 p2, after e2 (after e1 (left (taken k0))))
read_made (by b union_end) h = (none_made, here)
read_made (by b (set_expr {first = first} {more = more} a0 a1)) h = let (p0, e0) = read_made a0 h in let (p1, e1) = read_made a1 (few e0 h) in (mixed_made tree.IntersectExcept sets first more p0 p1 (few e0 h), after e1 e0)
read_made (by b (intersect k0 a1 a2)) h = let (p1, e1) = read_made a1 (few (left (taken k0)) h) in let (p2, e2) = read_made a2 (few (after e1 (left (taken k0))) h) in (more_made (taken k0) e1 p1 p2, after e2 (after e1 (left (taken k0))))
read_made (by b (except k0 a1 a2)) h = let (p1, e1) = read_made a1 (few (left (taken k0)) h) in let (p2, e2) = read_made a2 (few (after e1 (left (taken k0))) h) in (more_made (taken k0) e1 p1 p2, after e2 (after e1 (left (taken k0))))
read_made (by b set_end) h = (none_made, here)
read_made (by b (negative {a = a} k0 a1)) h = let (p1, e1) = read_made a1 (few (left (taken k0)) h) in (signed_made sign.Minus a p1, after e1 (left (taken k0)))
read_made (by b (positive {a = a} k0 a1)) h = let (p1, e1) = read_made a1 (few (left (taken k0)) h) in (signed_made sign.Plus a p1, after e1 (left (taken k0)))
read_made (by b (no_sign a0)) h = let (p0, e0) = read_made a0 h in (p0, e0)
read_made (by b (map_expr {first = first} {more = more} a0 a1)) h = let (p0, e0) = read_made a0 h in let (p1, e1) = read_made a1 (few e0 h) in (chain_made tree.SimpleMap simple_maps first more p0 p1 (few e0 h), after e1 e0)
read_made (by b (map_more k0 a1 a2)) h = let (p1, e1) = read_made a1 (few (left (taken k0)) h) in let (p2, e2) = read_made a2 (few (after e1 (left (taken k0))) h) in (more_made (taken k0) e1 p1 p2, after e2 (after e1 (left (taken k0))))
read_made (by b map_end) h = (none_made, here)
read_made (by b (operand a0 a1)) h = let (p0, e0) = read_made a0 h in let (p1, e1) = read_made a1 (few e0 h) in (p0, after e1 e0)
read_made (by b (left_out_operator c0 c1 c2)) h = absurd c2
read_made (by b no_left_out) h = (tt, here)
read_made (by b (root k0)) h = (root_made, left (taken k0))
read_made (by b (from_root {steps = steps} k0 a1)) h = let (p1, e1) = read_made a1 (few (left (taken k0)) h) in (rooted_made steps p1 (few (left (taken k0)) h), after e1 (left (taken k0)))
read_made (by b (from_descendants {steps = steps} k0 a1)) h = let (p1, e1) = read_made a1 (few (left (taken k0)) h) in (all_made steps p1 (few (left (taken k0)) h), after e1 (left (taken k0)))
read_made (by b (relative {steps = steps} a0)) h = let (p0, e0) = read_made a0 h in (path_made steps p0 h, e0)
read_made (by b (path_steps a0 a1)) h = let (p0, e0) = read_made a0 h in let (p1, e1) = read_made a1 (few e0 h) in (first_made e0 p0 p1, after e1 e0)
read_made (by b (next_step k0 a1 a2)) h = let (p1, e1) = read_made a1 (few (left (taken k0)) h) in let (p2, e2) = read_made a2 (few (after e1 (left (taken k0))) h) in (more_made (taken k0) e1 p1 p2, after e2 (after e1 (left (taken k0))))
read_made (by b (next_descendants k0 a1 a2)) h = let (p1, e1) = read_made a1 (few (left (taken k0)) h) in let (p2, e2) = read_made a2 (few (after e1 (left (taken k0))) h) in (two_more (taken k0) e1 descendants_made p1 p2, after e2 (after e1 (left (taken k0))))
read_made (by b steps_end) h = (none_made, here)
read_made (by b (context_item {predicates = predicates} k0 a1)) h = let (p1, e1) = read_made a1 (few (left (taken k0)) h) in (filtered_made (other (alone tree.ContextItem) []) predicates context_made p1 (few (left (taken k0)) h), after e1 (left (taken k0)))
read_made (by b (primary {a = a} {predicates = predicates} a0 a1)) h = let (p0, e0) = read_made a0 h in let (p1, e1) = read_made a1 (few e0 h) in (filtered_made a predicates p0 p1 (few e0 h), after e1 e0)
read_made (by b (parent {predicates = predicates} k0 a1)) h = let (p1, e1) = read_made a1 (few (left (taken k0)) h) in (step_made axes.Parent AnyNode predicates p1 (few (left (taken k0)) h), after e1 (left (taken k0)))
read_made (by b (attribute {test = test} {predicates = predicates} k0 a1 a2)) h = let (p1, e1) = read_made a1 (few (left (taken k0)) h) in let (p2, e2) = read_made a2 (few (after e1 (left (taken k0))) h) in (attribute_made test predicates p2 (few (after e1 (left (taken k0))) h), after e2 (after e1 (left (taken k0))))
read_made (by b (axis_name {xs = xs} {tail = tail} k0 a1)) h = let (p1, e1) = read_made a1 (few (left (taken k0)) h) in (named_made xs (first_text xs) tail p1 (few (left (taken k0)) h), after e1 (left (taken k0)))
read_made (by b (any_name {predicates = predicates} k0 a1)) h = let (p1, e1) = read_made a1 (few (left (taken k0)) h) in (step_made axes.Child AnyName predicates p1 (few (left (taken k0)) h), after e1 (left (taken k0)))
read_made (by b (node_name {xs = xs} {parentheses = parentheses} {predicates = predicates} k0 a1 a2)) h = let (p1, e1) = read_made a1 (few (left (taken k0)) h) in let (p2, e2) = read_made a2 (few (after e1 (left (taken k0))) h) in (step_made axes.Child (kind_test AnyNode (first_text xs) parentheses) predicates p2 (few (after e1 (left (taken k0))) h), after e2 (after e1 (left (taken k0))))
read_made (by b (element_name {xs = xs} {parentheses = parentheses} {predicates = predicates} k0 a1 a2)) h = let (p1, e1) = read_made a1 (few (left (taken k0)) h) in let (p2, e2) = read_made a2 (few (after e1 (left (taken k0))) h) in (step_made axes.Child (kind_test AnyElement (first_text xs) parentheses) predicates p2 (few (after e1 (left (taken k0))) h), after e2 (after e1 (left (taken k0))))
read_made (by b (plain_step {xs = xs} {word = word} {tail = tail} a0 a1)) h = let (p0, e0) = read_made a0 h in let (p1, e1) = read_made a1 (few e0 h) in (named_made xs word tail p1 (few e0 h), after e1 e0)
read_made (by b (left_out_step c0 c1 c2)) h = absurd c2
read_made (by b (axis_test k0 a1 a2)) h = let (p1, e1) = read_made a1 (few (left (taken k0)) h) in let (p2, e2) = read_made a2 (few (after e1 (left (taken k0))) h) in (wider (after e1 (left (taken k0))) p2, after e2 (after e1 (left (taken k0))))
read_made (by b (axis_call k0 a1 k2 a3)) h = let (p1, e1) = read_made a1 (few (left (taken k0)) h) in let (p3, e3) = read_made a3 (few (after (left (taken k2)) (after e1 (left (taken k0)))) h) in ((wider (left (taken k0)) p1, wider (after (left (taken k2)) (after e1 (left (taken k0)))) p3), after e3 (after (left (taken k2)) (after e1 (left (taken k0)))))
read_made (by b (axis_predicates a0)) h = let (p0, e0) = read_made a0 h in (p0, e0)
read_made (by b (name_call k0 a1 k2 a3)) h = let (p1, e1) = read_made a1 (few (left (taken k0)) h) in let (p3, e3) = read_made a3 (few (after (left (taken k2)) (after e1 (left (taken k0)))) h) in ((wider (left (taken k0)) p1, wider (after (left (taken k2)) (after e1 (left (taken k0)))) p3), after e3 (after (left (taken k2)) (after e1 (left (taken k0)))))
read_made (by b (name_predicates a0)) h = let (p0, e0) = read_made a0 h in (p0, e0)
read_made (by b (name_test a0)) h = let (p0, e0) = read_made a0 h in (tt, e0)
read_made (by b (axis_name_test k0)) h = (tt, left (taken k0))
read_made (by b (any_name_test k0)) h = (tt, left (taken k0))
read_made (by b (node_test k0 a1)) h = let (p1, e1) = read_made a1 (few (left (taken k0)) h) in (tt, after e1 (left (taken k0)))
read_made (by b (element_test k0 a1)) h = let (p1, e1) = read_made a1 (few (left (taken k0)) h) in (tt, after e1 (left (taken k0)))
read_made (by b (kind_parentheses k0 k1)) h = (tt, after (left (taken k1)) (left (taken k0)))
read_made (by b no_parentheses) h = (tt, here)
read_made (by b (predicate k0 a1 k2 a3)) h = let (p1, e1) = read_made a1 (few (left (taken k0)) h) in let (p3, e3) = read_made a3 (few (after (left (taken k2)) (after e1 (left (taken k0)))) h) in (more_made (taken k0) (after (left (taken k2)) e1) p1 p3, after e3 (after (left (taken k2)) (after e1 (left (taken k0)))))
read_made (by b no_predicate) h = (none_made, here)
read_made (by b (integer_expr {xs = xs} k0)) h = (integer_made (integer_of (first_text xs)), left (taken k0))
read_made (by b (string_expr {xs = xs} k0)) h = (string_made (string_of (first_text xs)), left (taken k0))
read_made (by b (variable_expr {word = word} k0 c1 a2)) h = let (p2, e2) = read_made a2 (few (left (taken k0)) h) in (variable_made word, after e2 (left (taken k0)))
read_made (by b (variable_cut k0 c1)) h = absurd c1
read_made (by b (parenthesized k0 a1 k2)) h = let (p1, e1) = read_made a1 (few (left (taken k0)) h) in (p1, after (left (taken k2)) (after e1 (left (taken k0))))
read_made (by b (inside a0)) h = let (p0, e0) = read_made a0 h in (p0, e0)
read_made (by b empty) h = (empty_made, here)
read_made (by b (some_arguments a0 a1)) h = let (p0, e0) = read_made a0 h in let (p1, e1) = read_made a1 (few e0 h) in (first_made e0 p0 p1, after e1 e0)
read_made (by b no_arguments) h = (none_made, here)
read_made (by b (more_arguments k0 a1 a2)) h = let (p1, e1) = read_made a1 (few (left (taken k0)) h) in let (p2, e2) = read_made a2 (few (after e1 (left (taken k0))) h) in (more_made (taken k0) e1 p1 p2, after e2 (after e1 (left (taken k0))))
read_made (by b arguments_end) h = (none_made, here)
read_made (by b (variable_name a0)) h = let (p0, e0) = read_made a0 h in (tt, e0)
read_made (by b (axis_variable k0)) h = (tt, left (taken k0))
read_made (by b (node_variable k0)) h = (tt, left (taken k0))
read_made (by b (element_variable k0)) h = (tt, left (taken k0))
read_made (by b (plain_name c0 k1)) h = (tt, left (taken k1))
read_made (Reads.cut c) h = absurd c

pub read_expression : (tokens : List Lexed) (a : Operand) → length tokens ≤ 2 ^ 32 → AreRead tokens a → HasExpr a.tree
read_expression tokens a few is = (read_made is (record { count = few })).0
