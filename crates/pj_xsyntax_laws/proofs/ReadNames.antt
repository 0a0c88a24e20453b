-- What tokens read names stands in its order, rule by rule.
use Rattle.std.proofs.Common.{ℕ, ◌+◌, List, [], ◌∷◌}
use Rattle.pj_xtokens.specs.Tokens.{Lexed}
use Rattle.pj_xtokens.specs.First.{first_text, first_from}
use Rattle.pj_xgrammar.specs.declared.rule.Rule.{Rule}
use Rattle.pj_xgrammar.specs.declared.rule.Rule.TheVariants as r
use Rattle.pj_xexpressions.specs.Trees as tree
use Rattle.pj_xreadings.specs.declared.role.Role.{Role}
use Rattle.pj_xreadings.specs.Mentions.{Mention, scoped}
use Rattle.pj_xreadings.specs.Operands.{Operand, Binding, Arguments, Next, names_of, names_behind, scopes_of, in_roles, other}
use Rattle.pj_xmeaning.specs.RuleMeanings.{Value, absent}
use Rattle.pj_xmeaning.specs.Reach.{Reach, IsBefore, IsCut}
use Rattle.pj_xmeaning.specs.Reads.{Reads, by, cut, Produces, expr, expr_more, expr_end, for_expr, let_expr, some_expr, every_expr, if_expr, single_or, in_binding, in_more, in_end, let_binding, let_more, let_end, in_clause, assign_clause, return_clause, satisfies_clause, test_clause, then_clause, else_clause, or_expr, or_more, or_end, and_expr, and_more, and_end, comparison_expr, equal, not_equal, less, less_or_equal, greater, greater_or_equal, not_compared, concatenation_expr, concatenation_more, concatenation_end, range_expr, up_to, up_to_cut, no_range, additive_expr, plus, minus, additive_end, multiplicative_expr, times, integer_divide, modulo, multiplicative_end, union_expr, union_more, bar_more, union_end, set_expr, intersect, except, set_end, negative, positive, no_sign, map_expr, map_more, map_end, operand, left_out_operator, no_left_out, root, from_root, from_descendants, relative, path_steps, next_step, next_descendants, steps_end, context_item, primary, parent, attribute, axis_name, any_name, node_name, element_name, plain_step, left_out_step, axis_test, axis_call, axis_predicates, name_call, name_predicates, name_test, axis_name_test, any_name_test, node_test, element_test, kind_parentheses, no_parentheses, predicate, no_predicate, integer_expr, string_expr, variable_expr, variable_cut, parenthesized, inside, empty, some_arguments, no_arguments, more_arguments, arguments_end, variable_name, axis_variable, node_variable, element_variable, plain_name}
use Rattle.pj_xsyntax_laws.proofs.Placed.{Loose, Solid, Row, Early, names_compared, names_last, none, none_left, one_token, takes, loose, both, behind, alone, chained, mixing, comparing, in_range, a_path, with_predicates, a_variable, a_cut_variable, binds, ends, early, none_early, following, an_argument, BehindName, a_name}

module _ (end : ℕ) (reach : Reach) where
  -- What bindings name with the body that stands behind them, up to other tokens. So many variables are bound before them.
  abbrev AreBound : List Lexed → List Lexed → List Binding → Type 0
  AreBound xs ys bindings = (zs : List Lexed) (body : List Mention) (count : ℕ) → Row end reach Loose ys zs body → Row end reach Loose xs zs (scoped (scopes_of bindings) count body)

  -- what arguments name, whatever roles a function wants of them
  abbrev AreListed : List Lexed → List Lexed → Arguments → Type 0
  AreListed xs ys arguments = (roles : List Role) → Early end xs ys (in_roles roles arguments)

  -- What is so of what a rule reads. Most rules read an operand, which has a token; what stands behind operands, steps and names may have none.
  abbrev Named : (rule : Rule) → List Lexed → List Lexed → Value rule → Type 0
  Named r.ExprTail xs ys more = Row end reach Loose xs ys (names_of more)
  Named r.InBindings xs ys bindings = AreBound xs ys bindings
  Named r.InBindingsTail xs ys bindings = AreBound xs ys bindings
  Named r.LetBindings xs ys bindings = AreBound xs ys bindings
  Named r.LetBindingsTail xs ys bindings = AreBound xs ys bindings
  Named r.OrTail xs ys more = Row end reach Loose xs ys (names_of more)
  Named r.AndTail xs ys more = Row end reach Loose xs ys (names_of more)
  Named r.ComparisonTail xs ys second = Row end reach Loose xs ys (names_compared second)
  Named r.StringConcatTail xs ys more = Row end reach Loose xs ys (names_of more)
  Named r.RangeTail xs ys last = Row end reach Loose xs ys (names_last last)
  Named r.AdditiveTail xs ys more = Row end reach Loose xs ys (names_behind more)
  Named r.MultiplicativeTail xs ys more = Row end reach Loose xs ys (names_behind more)
  Named r.UnionTail xs ys more = Row end reach Loose xs ys (names_of more)
  Named r.IntersectExceptTail xs ys more = Row end reach Loose xs ys (names_behind more)
  Named r.SimpleMapTail xs ys more = Row end reach Loose xs ys (names_of more)
  Named r.LeftOutOperator xs ys nothing = Row end reach Loose xs ys []
  Named r.RelativePathExpr xs ys steps = Row end reach Solid xs ys (names_of steps)
  Named r.RelativePathTail xs ys more = Row end reach Loose xs ys (names_of more)
  Named r.AxisTail xs ys tail = BehindName end reach xs ys tail
  Named r.NameTail xs ys tail = BehindName end reach xs ys tail
  Named r.NodeTest xs ys test = Row end reach Solid xs ys []
  Named r.KindTail xs ys parentheses = Row end reach Loose xs ys []
  Named r.PredicateList xs ys predicates = Row end reach Loose xs ys (names_of predicates)
  Named r.Parenthesized xs ys a = Row end reach Loose xs ys a.names
  Named r.Arguments xs ys arguments = AreListed xs ys arguments
  Named r.ArgumentsTail xs ys more = AreListed xs ys more
  Named r.VarName xs ys word = Row end reach Solid xs ys []
  Named r.PlainName xs ys word = Row end reach Solid xs ys []
  Named _ xs ys a = Row end reach Solid xs ys a.names

  -- ---- where the tokens are cut off

  nothing_bound : {xs : List Lexed} → AreBound xs xs []
  nothing_bound = λ zs body count p. ends count p

  named_nothing : (rule : Rule) (xs : List Lexed) → IsCut reach xs → Named rule xs xs (absent rule)
  named_nothing r.InBindings xs c = nothing_bound
  named_nothing r.InBindingsTail xs c = nothing_bound
  named_nothing r.LetBindings xs c = nothing_bound
  named_nothing r.LetBindingsTail xs c = nothing_bound
  named_nothing r.Arguments xs c = λ roles. none_early
  named_nothing r.ArgumentsTail xs c = λ roles. none_early
  named_nothing _ xs c = none_left c

  -- ---- bindings and arguments

  -- a variable and what is bound to it, before others
  binding : {xs ys zs us vs : List Lexed} (name : List ℕ) (a : Operand) (more : List Binding) → Row end reach Solid xs ys [] → Row end reach Solid ys zs [] → Row end reach Solid zs us a.names → AreBound us vs more →
      AreBound xs vs (record { name = name; bound = a } ∷ more)
  binding name a more k p q bound = λ ws body count rest. loose (both k (both p (both q (binds name (bound ws body (count + 1) rest)))))

  -- An argument before others. Where it is cut off, none is behind it, and it is not judged.
  argument : {d : ℕ} {xs ys zs : List Lexed} {a : Operand} {more : Arguments} → Reads reach r.ExprSingle d xs ys a → Reads reach r.ArgumentsTail d ys zs more →
      Row end reach Solid xs ys a.names → AreListed ys zs more → AreListed xs zs (Next (first_from xs) a more)
  argument x y p q [] = following (early p) (q [])
  argument {a = a} {more = more} (by before x) y p q (role ∷ roles) = an_argument role a more before p (q roles)
  argument (cut c) (by before y) p q (role ∷ roles) = absurd (before c)
  argument (cut c) (cut c') p q (role ∷ roles) = none_early

  -- ---- all rules

  mutual
    told : {rule : Rule} {d : ℕ} {xs ys : List Lexed} {v : Value rule} → Reads reach rule d xs ys v → Named rule xs ys v
    told (by before p) = produced before p
    told {rule = rule} {xs = xs} (cut c) = named_nothing rule xs c

    produced : {rule : Rule} {d : ℕ} {xs ys : List Lexed} {v : Value rule} → IsBefore reach xs → Produces reach rule d xs ys v → Named rule xs ys v
    produced before (expr {first = a} {more = us} x y) = chained tree.Comma a us (told x) (told y)
    produced before (expr_more k x y) = loose (behind k (both (told x) (told y)))
    produced before expr_end = none
    produced before (for_expr k x y) = behind k (told x _ _ 0 (loose (told y)))
    produced before (let_expr k x y) = behind k (told x _ _ 0 (loose (told y)))
    produced before (some_expr k x y) = behind k (told x _ _ 0 (loose (told y)))
    produced before (every_expr k x y) = behind k (told x _ _ 0 (loose (told y)))
    produced before (if_expr k x y z) = behind k (both (both (told x) (told y)) (told z))
    produced before (single_or x) = told x
    produced before (in_binding {word = word} {a = a} {more = more} k x y z) = binding word a more (takes k) (told x) (told y) (told z)
    produced before (in_more k x) = λ zs body count p. loose (behind k (told x zs body count p))
    produced before in_end = nothing_bound
    produced before (let_binding {word = word} {a = a} {more = more} k x y z) = binding word a more (takes k) (told x) (told y) (told z)
    produced before (let_more k x) = λ zs body count p. loose (behind k (told x zs body count p))
    produced before let_end = nothing_bound
    produced before (in_clause k x) = behind k (told x)
    produced before (assign_clause k x) = behind k (told x)
    produced before (return_clause k x) = behind k (told x)
    produced before (satisfies_clause k x) = behind k (told x)
    produced before (test_clause k x l) = behind k (alone (told x) (takes l))
    produced before (then_clause k x) = behind k (told x)
    produced before (else_clause k x) = behind k (told x)
    produced before (or_expr {first = a} {more = us} x y) = chained tree.Or a us (told x) (told y)
    produced before (or_more k x y) = loose (behind k (both (told x) (told y)))
    produced before or_end = none
    produced before (and_expr {first = a} {more = us} x y) = chained tree.And a us (told x) (told y)
    produced before (and_more k x y) = loose (behind k (both (told x) (told y)))
    produced before and_end = none
    produced before (comparison_expr {first = a} {second = b} x y) = comparing a b (told x) (told y)
    produced before (equal k x) = loose (behind k (told x))
    produced before (not_equal k x) = loose (behind k (told x))
    produced before (less k x) = loose (behind k (told x))
    produced before (less_or_equal k x) = loose (behind k (told x))
    produced before (greater k x) = loose (behind k (told x))
    produced before (greater_or_equal k x) = loose (behind k (told x))
    produced before not_compared = none
    produced before (concatenation_expr {first = a} {more = us} x y) = chained tree.Concatenation a us (told x) (told y)
    produced before (concatenation_more k x y) = loose (behind k (both (told x) (told y)))
    produced before concatenation_end = none
    produced before (range_expr {first = a} {last = b} x y) = in_range a b (told x) (told y)
    produced before (up_to k still x) = loose (behind k (told x))
    produced before (up_to_cut k c) = loose (takes k)
    produced before no_range = none
    produced before (additive_expr {first = a} {more = us} x y) = mixing tree.Additive' a us (told x) (told y)
    produced before (plus k x y) = loose (behind k (both (told x) (told y)))
    produced before (minus k x y) = loose (behind k (both (told x) (told y)))
    produced before additive_end = none
    produced before (multiplicative_expr {first = a} {more = us} x y) = mixing tree.Multiplicative' a us (told x) (told y)
    produced before (times k x y) = loose (behind k (both (told x) (told y)))
    produced before (integer_divide k x y) = loose (behind k (both (told x) (told y)))
    produced before (modulo k x y) = loose (behind k (both (told x) (told y)))
    produced before multiplicative_end = none
    produced before (union_expr {first = a} {more = us} x y) = chained tree.Union a us (told x) (told y)
    produced before (union_more k x y) = loose (behind k (both (told x) (told y)))
    produced before (bar_more k x y) = loose (behind k (both (told x) (told y)))
    produced before union_end = none
    produced before (set_expr {first = a} {more = us} x y) = mixing tree.IntersectExcept a us (told x) (told y)
    produced before (intersect k x y) = loose (behind k (both (told x) (told y)))
    produced before (except k x y) = loose (behind k (both (told x) (told y)))
    produced before set_end = none
    produced before (negative k x) = behind k (told x)
    produced before (positive k x) = behind k (told x)
    produced before (no_sign x) = told x
    produced before (map_expr {first = a} {more = us} x y) = chained tree.SimpleMap a us (told x) (told y)
    produced before (map_more k x y) = loose (behind k (both (told x) (told y)))
    produced before map_end = none
    produced before (operand x y) = alone (told x) (told y)
    produced before (left_out_operator among read is) = loose one_token
    produced before no_left_out = none
    produced before (root k) = takes k
    produced before (from_root k x) = behind k (told x)
    produced before (from_descendants k x) = behind k (told x)
    produced before (relative {steps = steps} x) = a_path steps (told x)
    produced before (path_steps x y) = both (told x) (told y)
    produced before (next_step k x y) = loose (behind k (both (told x) (told y)))
    produced before (next_descendants k x y) = loose (behind k (both (told x) (told y)))
    produced before steps_end = none
    produced before (context_item {predicates = ps} k x) = with_predicates (other (tree.alone tree.ContextItem) []) ps (takes k) (told x)
    produced before (primary {a = a} {predicates = ps} x y) = with_predicates a ps (told x) (told y)
    produced before (parent k x) = behind k (told x)
    produced before (attribute k x y) = behind k (both (told x) (told y))
    produced before (axis_name {xs = xs} {tail = tail} k x) = a_name (first_text xs) tail before (takes k) (told x)
    produced before (any_name k x) = behind k (told x)
    produced before (node_name k x y) = behind k (both (told x) (told y))
    produced before (element_name k x y) = behind k (both (told x) (told y))
    produced before (plain_step {word = word} {tail = tail} x y) = a_name word tail before (told x) (told y)
    produced before (left_out_step among read is) = one_token
    produced before (axis_test k x y) = loose (behind k (both (told x) (told y)))
    produced before (axis_call k x l y) = λ roles. following (early (takes k)) (following (told x roles) (early (behind l (told y))))
    produced before (axis_predicates x) = told x
    produced before (name_call k x l y) = λ roles. following (early (takes k)) (following (told x roles) (early (behind l (told y))))
    produced before (name_predicates x) = told x
    produced before (name_test x) = told x
    produced before (axis_name_test k) = takes k
    produced before (any_name_test k) = takes k
    produced before (node_test k x) = behind k (told x)
    produced before (element_test k x) = behind k (told x)
    produced before (kind_parentheses k l) = loose (behind k (takes l))
    produced before no_parentheses = none
    produced before (predicate k x l y) = loose (behind k (both (alone (told x) (takes l)) (told y)))
    produced before no_predicate = none
    produced before (integer_expr k) = takes k
    produced before (string_expr k) = takes k
    produced before (variable_expr {word = word} k still x) = a_variable word before (behind k (told x))
    produced before (variable_cut k c) = a_cut_variable before (takes k)
    produced before (parenthesized k x l) = behind k (alone (told x) (takes l))
    produced before (inside x) = loose (told x)
    produced before empty = none
    produced before (some_arguments x y) = argument x y (told x) (told y)
    produced before no_arguments = λ roles. none_early
    produced before (more_arguments k x y) = λ roles. following (early (takes k)) (argument x y (told x) (told y) roles)
    produced before arguments_end = λ roles. none_early
    produced before (variable_name x) = told x
    produced before (axis_variable k) = takes k
    produced before (node_variable k) = takes k
    produced before (element_variable k) = takes k
    produced before (plain_name among k) = takes k

-- what an expression names
pub row : {end : ℕ} {reach : Reach} {d : ℕ} {xs ys : List Lexed} {a : Operand} → Reads reach r.Expr d xs ys a → Row end reach Solid xs ys a.names
row {end} {reach} x = told end reach x
