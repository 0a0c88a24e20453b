-- What tokens read, they read with abbreviations written out and other names for functions, too, and with a `)` behind them.
use Rattle.std.proofs.Common.{◌≡◌, ℕ, suc, ◌≤◌, Bool, true, false, cond, List, [], ◌∷◌, refl, ap, subst, None, sym, ◌∙◌, arith}
use Rattle.std.proofs.lemmas.Bool.{false≢true}
use lib.Utf8.{encode}
use Rattle.pj_ll.specs.declared.grammar.Symbol.{Symbol}
use Rattle.pj_xexpressions.specs.declared.axis.Axis.TheVariants as axes
use Rattle.pj_xexpressions.specs.declared.operator.Compare.TheVariants as compare
use Rattle.pj_xexpressions.specs.declared.operator.Additive.TheVariants as sum
use Rattle.pj_xexpressions.specs.declared.operator.Multiplicative.TheVariants as product
use Rattle.pj_xexpressions.specs.declared.operator.SetOperator.TheVariants as set
use Rattle.pj_xexpressions.specs.declared.operator.Sign.TheVariants as signs
use Rattle.pj_xexpressions.specs.declared.operator.Quantifier.TheVariants as quantifier
use Rattle.pj_xexpressions.specs.declared.expr.NodeTest.{NodeTest}
use Rattle.pj_xexpressions.specs.declared.expr.NodeTest.TheVariants.{Name, AnyName, AnyNode, AnyElement}
use Rattle.pj_xtokens.specs.Size.{size}
use Rattle.pj_xtokens.specs.Tokens.{Lexed, Tokens}
use Rattle.pj_xtokens.specs.declared.token.End.{End}
use Rattle.pj_xtokens.specs.declared.token.End.TheVariants as ends
use Rattle.pj_xtokens.specs.declared.token.Sign.TheVariants as s
use Rattle.pj_xgrammar.specs.declared.rule.Rule.{Rule}
use Rattle.pj_xgrammar.specs.declared.rule.Rule.TheVariants as r
use Rattle.pj_xgrammar.specs.declared.terminal.Behind.TheVariants as b
use Rattle.pj_xgrammar.specs.declared.terminal.Terminal.TheVariants as terminal
use Rattle.pj_xgrammar.specs.Notation.{t, name}
use Rattle.pj_xgrammar.specs.Terminals.{first_behind, begins_step, terminal_number}
use Rattle.pj_xgrammar.specs.XPath.{greatest_nesting, xpath}
use Rattle.pj_xtokens.specs.First.{first_text}
use Rattle.pj_xexpressions.specs.Names.{axis_of}
use Rattle.pj_xexpressions.specs.Trees as tree
use Rattle.pj_xexpressions.specs.Trees.{Tree, alone}
use Rattle.pj_xparse.specs.NameFaults.{first_fault}
use Rattle.pj_xreadings.specs.Operands.{Operand, Behind, Test, other, rooted, descendants, step, attribute_step, kind_test, named}
use Rattle.pj_xmeaning.specs.RuleMeanings.{Value}
use Rattle.pj_xmeaning.specs.Reach.{All}
use Rattle.pj_xmeaning.specs.Reads.{Takes, token, cut, IsAmong, here, Reads, Produces, AreRead, by, expr, expr_more, expr_end, for_expr, let_expr, some_expr, every_expr, if_expr, single_or, in_binding, in_more, in_end, let_binding, let_more, let_end, in_clause, assign_clause, return_clause, satisfies_clause, test_clause, then_clause, else_clause, or_expr, or_more, or_end, and_expr, and_more, and_end, comparison_expr, equal, not_equal, less, less_or_equal, greater, greater_or_equal, not_compared, concatenation_expr, concatenation_more, concatenation_end, range_expr, up_to, up_to_cut, no_range, additive_expr, plus, minus, additive_end, multiplicative_expr, times, integer_divide, modulo, multiplicative_end, union_expr, union_more, bar_more, union_end, set_expr, intersect, except, set_end, negative, positive, no_sign, map_expr, map_more, map_end, operand, left_out_operator, no_left_out, root, from_root, from_descendants, relative, path_steps, next_step, next_descendants, steps_end, context_item, primary, parent, attribute, axis_name, any_name, node_name, element_name, plain_step, left_out_step, axis_test, axis_call, axis_predicates, name_call, name_predicates, name_test, axis_name_test, any_name_test, node_test, element_test, kind_parentheses, no_parentheses, predicate, no_predicate, integer_expr, string_expr, variable_expr, variable_cut, parenthesized, inside, empty, some_arguments, no_arguments, more_arguments, arguments_end, variable_name, axis_variable, node_variable, element_variable, plain_name}
use Rattle.pj_xparse.specs.Spells.{Spells}
use Rattle.pj_xsyntax_laws.specs.Abbreviations.{sign, word, WrittenOut, done}
use Rattle.pj_xsyntax_laws.proofs.Looks.{HasRoom, flat, one_more, deeper, on, stays_or_name, OnName, name_kept, as_function, on_name, Slashes, slashes_kept, as_steps, on_slashes, At, at_kept, as_axis, on_at, Dots, dots_kept, as_parent, on_dots, Bar, bar_kept, as_union, on_bar, on_string, LooksEnd, at_end, before_parenthesis, begins, takes_begin, AreEach, among_is}
use Rattle.pj_xsyntax_laws.proofs.WholeReadings.{reading}
use Rattle.pj_xsyntax_laws.proofs.NoParenthesis.{NoParenthesis, takes_none, reads_none}
use Rattle.pj_xsyntax_laws.proofs.Placeless.{bare, bare_value, cons_agree, chain_agree, mixed_agree, next_agree, comparison_agree, compared_agree, range_agree, last_agree, signed_agree, bound_agree, binding_agree, chosen_agree, rooted_agree, path_agree, filtered_agree, attribute_agree, child_agree, step_agree, kind_agree, named_agree, test_agree, called_agree, function_agree, predicates_agree, argument_agree, integer_agree, string_agree, variable_agree, enclosed_agree, fault_free}

-- what the tokens behind which others stand read where abbreviations are written out
pub record Expanded (nests : Bool) (end : List Lexed) (rule : Rule) (depth : ℕ) (out ys : List Lexed) (v : Value rule) : Type 0 where
  pub rest : List Lexed
  pub value : Value rule
  pub reads : Reads All rule depth out rest value
  pub more : WrittenOut nests end ys rest
  pub agrees : bare_value rule v ≡ bare_value rule value

-- they do by a production
got : {nests : Bool} {end : List Lexed} {rule : Rule} {depth : ℕ} {out rest ys : List Lexed} {v u : Value rule} → Produces All rule depth out rest u → WrittenOut nests end ys rest → bare_value rule v ≡ bare_value rule u → Expanded nests end rule depth out ys v
got {rest = rest} {u = u} produces more agrees = record { rest = rest; value = u; reads = reading produces; more = more; agrees = agrees }

-- ---- names

names_stay : AreEach stays_or_name (xpath r.PlainName)
unfolding xpath
names_stay = (refl, (refl, (refl, (refl, (refl, (refl, (refl, (refl, (refl, (refl, (refl, (refl, (refl, (refl, (refl, (refl, (refl, (refl, (refl, (refl, (refl, (refl, tt))))))))))))))))))))))

name_is_among : IsAmong name (xpath r.PlainName)
unfolding xpath
name_is_among = here

name_of : {nests : Bool} {end : List Lexed} → LooksEnd end → {deep depth : ℕ} {x : Symbol} {xs ys out : List Lexed} → IsAmong x (xpath r.PlainName) → Takes All deep x xs ys → HasRoom nests deep depth → WrittenOut nests end xs out → OnName nests end depth x xs ys out
name_of q {x = x} among k p w = on_name q k p (among_is stays_or_name x (xpath r.PlainName) names_stay among) w

-- a name before no `(` calls nothing
plain_expanded : {nests : Bool} {end : List Lexed} {depth : ℕ} {x : Symbol} {xs ys out : List Lexed} → IsAmong x (xpath r.PlainName) → OnName nests end depth x xs ys out → NoParenthesis ys → Expanded nests end r.PlainName depth out ys (first_text xs)
plain_expanded among (name_kept o) f = got (plain_name among o.takes) o.more o.text
plain_expanded among (as_function takes more e g) f = absurd (false≢true (sym f ∙ g))

-- ---- with what a step begins

names_begin : AreEach begins (xpath r.PlainName)
unfolding xpath
names_begin = (refl, (refl, (refl, (refl, (refl, (refl, (refl, (refl, (refl, (refl, (refl, (refl, (refl, (refl, (refl, (refl, (refl, (refl, (refl, (refl, (refl, (refl, tt))))))))))))))))))))))

plain_begins : {depth : ℕ} {ys zs : List Lexed} {v : List ℕ} → Reads All r.PlainName depth ys zs v → begins_step (first_behind b.End ys) ≡ true
plain_begins (by b (plain_name {s = x} among k)) = takes_begin k (among_is begins x (xpath r.PlainName) names_begin among)
plain_begins (cut c) = absurd c

primary_begins : {depth : ℕ} {ys zs : List Lexed} {v : Operand} → Reads All r.PrimaryExpr depth ys zs v → begins_step (first_behind b.End ys) ≡ true
primary_begins (by b (integer_expr k)) = takes_begin k refl
primary_begins (by b (string_expr k)) = takes_begin k refl
primary_begins (by b (variable_expr k d a)) = takes_begin k refl
primary_begins (by b (variable_cut k c)) = absurd c
primary_begins (by b (parenthesized k a l)) = takes_begin k refl
primary_begins (cut c) = absurd c

step_begins : {depth : ℕ} {ys zs : List Lexed} {v : Operand} → Reads All r.StepExpr depth ys zs v → begins_step (first_behind b.End ys) ≡ true
step_begins (by b (context_item k a)) = takes_begin k refl
step_begins (by b (primary a c)) = primary_begins a
step_begins (by b (parent k a)) = takes_begin k refl
step_begins (by b (attribute k a c)) = takes_begin k refl
step_begins (by b (axis_name k a)) = takes_begin k refl
step_begins (by b (any_name k a)) = takes_begin k refl
step_begins (by b (node_name k a c)) = takes_begin k refl
step_begins (by b (element_name k a c)) = takes_begin k refl
step_begins (by b (plain_step a c)) = plain_begins a
step_begins (by b (left_out_step among read is)) = absurd is
step_begins (cut c) = absurd c

-- ---- what is written out is read as what it stands for

-- the step that `//` stands for
long_step : {depth : ℕ} {ys : List Lexed} (a c d e f : ℕ) → suc depth ≤ greatest_nesting → depth ≤ greatest_nesting →
    Reads All r.StepExpr depth (word "descendant-or-self" a ∷ sign s.ColonColon "::" c ∷ word "node" d ∷ sign s.LeftParenthesis "(" e ∷ sign s.RightParenthesis ")" f ∷ ys) ys descendants
unfolding axis_of encode
long_step a c d e f room few =
    reading (axis_name {tail = Test AnyNode []} (token refl few) (reading (axis_test {test = AnyNode} (token refl few)
    (reading (node_test {parentheses = true} (token refl few) (reading (kind_parentheses (token refl room) (token refl few))))) (reading no_predicate))))

first_slash : {depth : ℕ} {ys : List Lexed} (i a : ℕ) → depth ≤ greatest_nesting → Takes All depth (t "/") (sign s.Slash "/" i ∷ word "descendant-or-self" a ∷ ys) (word "descendant-or-self" a ∷ ys)
first_slash i a few = token refl few

slash_before : {depth : ℕ} {ys : List Lexed} (i : ℕ) → depth ≤ greatest_nesting → begins_step (first_behind b.End ys) ≡ true → Takes All depth (t "/") (sign s.Slash "/" i ∷ ys) ys
slash_before i few h = token (ap (λ (z : Bool). terminal_number (cond z (terminal.Sign s.Slash) terminal.LoneSlash)) h) few

descendants_way : {depth : ℕ} {out rest zs : List Lexed} {steps : List Operand} → Slashes depth out rest → Reads All r.RelativePathExpr depth rest zs steps → Produces All r.PathExpr depth out zs (rooted (descendants ∷ steps))
descendants_way {steps = steps} (slashes_kept k) a = from_descendants {steps = steps} k a
descendants_way (as_steps a c d e f g i room few) (by b (path_steps {first = v} {more = vs} first more)) =
    from_root {steps = descendants ∷ v ∷ vs} (first_slash a c few) (reading (path_steps (long_step c d e f g room few) (reading (next_step (slash_before i few (step_begins first)) first more))))
descendants_way (as_steps a c d e f g i room few) (cut c') = absurd c'

next_way : {depth : ℕ} {out rest zs us : List Lexed} {next : Operand} {more : List Operand} → Slashes depth out rest → Reads All r.StepExpr depth rest zs next → Reads All r.RelativePathTail depth zs us more
    → Produces All r.RelativePathTail depth out us (descendants ∷ next ∷ more)
next_way (slashes_kept k) x y = next_descendants k x y
next_way (as_steps a c d e f g i room few) x y = next_step (first_slash a c few) (long_step c d e f g room few) (reading (next_step (slash_before i few (step_begins x)) x y))

attribute_way : {depth : ℕ} {out rest zs us : List Lexed} {test : NodeTest} {predicates : List Operand} → At depth out rest → Reads All r.NodeTest depth rest zs test → Reads All r.PredicateList depth zs us predicates
    → Produces All r.StepExpr depth out us (attribute_step test predicates)
unfolding axis_of encode
attribute_way {test = test} {predicates = predicates} (at_kept k) x y = attribute {test = test} {predicates = predicates} k x y
attribute_way {test = test} {predicates = predicates} (as_axis a c few) x y = axis_name {tail = Test test predicates} (token refl few) (reading (axis_test (token refl few) x y))

parent_way : {depth : ℕ} {out rest zs : List Lexed} {predicates : List Operand} → Dots depth out rest → Reads All r.PredicateList depth rest zs predicates → Produces All r.StepExpr depth out zs (step axes.Parent AnyNode predicates)
unfolding axis_of encode
parent_way {predicates = predicates} (dots_kept k) x = parent {predicates = predicates} k x
parent_way {predicates = predicates} (as_parent a c d e f room few) x =
    axis_name {tail = Test AnyNode predicates} (token refl few) (reading (axis_test {test = AnyNode} (token refl few)
    (reading (node_test {parentheses = true} (token refl few) (reading (kind_parentheses (token refl room) (token refl few))))) x))

bar_way : {depth : ℕ} {out rest zs us : List Lexed} {next : Operand} {more : List Operand} → Bar depth out rest → Reads All r.IntersectExceptExpr depth rest zs next → Reads All r.UnionTail depth zs us more
    → Produces All r.UnionTail depth out us (next ∷ more)
bar_way (bar_kept k) x y = bar_more k x y
bar_way (as_union a few) x y = union_more (token refl few) x y

-- ---- all rules

mutual
  expanded : {nests : Bool} {end : List Lexed} → LooksEnd end → {rule : Rule} {deep depth : ℕ} {xs ys : List Lexed} {v : Value rule} → Reads All rule deep xs ys v → NoParenthesis ys → HasRoom nests deep depth → {out : List Lexed} → WrittenOut nests end xs out →
      Expanded nests end rule depth out ys v
  expanded q (by b a) f p w = produced q a f p w
  expanded q (cut c) f p w = absurd c

  produced : {nests : Bool} {end : List Lexed} → LooksEnd end → {rule : Rule} {deep depth : ℕ} {xs ys : List Lexed} {v : Value rule} → Produces All rule deep xs ys v → NoParenthesis ys → HasRoom nests deep depth → {out : List Lexed} → WrittenOut nests end xs out →
      Expanded nests end rule depth out ys v
  produced q (expr {first = first} {more = more} a0 a1) f p w = let p0 = expanded q a0 (reads_none a1 refl f) p w in let p1 = expanded q a1 f p p0.more in got (expr p0.reads p1.reads) p1.more (chain_agree tree.Comma first p0.value more p1.value p0.agrees p1.agrees)
  produced q (expr_more {next = next} {more = more} k0 a1 a2) f p w = let o0 = on q k0 p refl w in let p1 = expanded q a1 (reads_none a2 refl f) p o0.more in let p2 = expanded q a2 f p p1.more in got (expr_more o0.takes p1.reads p2.reads) p2.more (cons_agree bare next p1.value more p2.value p1.agrees p2.agrees)
  produced q expr_end f p w = got expr_end w refl
  produced q (for_expr {bindings = bindings} {body = body} k0 a1 a2) f p w = let o0 = on q k0 p refl w in let p1 = expanded q a1 (reads_none a2 refl f) p o0.more in let p2 = expanded q a2 f p p1.more in got (for_expr o0.takes p1.reads p2.reads) p2.more (bound_agree tree.For bindings p1.value body p2.value p1.agrees p2.agrees)
  produced q (let_expr {bindings = bindings} {body = body} k0 a1 a2) f p w = let o0 = on q k0 p refl w in let p1 = expanded q a1 (reads_none a2 refl f) p o0.more in let p2 = expanded q a2 f p p1.more in got (let_expr o0.takes p1.reads p2.reads) p2.more (bound_agree tree.Let bindings p1.value body p2.value p1.agrees p2.agrees)
  produced q (some_expr {bindings = bindings} {test = test} k0 a1 a2) f p w = let o0 = on q k0 p refl w in let p1 = expanded q a1 (reads_none a2 refl f) p o0.more in let p2 = expanded q a2 f p p1.more in got (some_expr o0.takes p1.reads p2.reads) p2.more (bound_agree (tree.Quantified quantifier.Some) bindings p1.value test p2.value p1.agrees p2.agrees)
  produced q (every_expr {bindings = bindings} {test = test} k0 a1 a2) f p w = let o0 = on q k0 p refl w in let p1 = expanded q a1 (reads_none a2 refl f) p o0.more in let p2 = expanded q a2 f p p1.more in got (every_expr o0.takes p1.reads p2.reads) p2.more (bound_agree (tree.Quantified quantifier.Every) bindings p1.value test p2.value p1.agrees p2.agrees)
  produced q (if_expr {test = test} {first = first} {second = second} k0 a1 a2 a3) f p w = let o0 = on q k0 p refl w in let p1 = expanded q a1 (reads_none a2 refl (reads_none a3 refl f)) p o0.more in let p2 = expanded q a2 (reads_none a3 refl f) p p1.more in let p3 = expanded q a3 f p p2.more in got (if_expr o0.takes p1.reads p2.reads p3.reads) p3.more (chosen_agree test p1.value first p2.value second p3.value p1.agrees p2.agrees p3.agrees)
  produced q (single_or a0) f p w = let p0 = expanded q a0 f p w in got (single_or p0.reads) p0.more p0.agrees
  produced q (in_binding {word = word} {a = a} {more = more} k0 a1 a2 a3) f p w = let o0 = on q k0 p refl w in let p1 = expanded q a1 (reads_none a2 refl (reads_none a3 refl f)) p o0.more in let p2 = expanded q a2 (reads_none a3 refl f) p p1.more in let p3 = expanded q a3 f p p2.more in got (in_binding o0.takes p1.reads p2.reads p3.reads) p3.more (binding_agree word p1.value a p2.value more p3.value p1.agrees p2.agrees p3.agrees)
  produced q (in_more k0 a1) f p w = let o0 = on q k0 p refl w in let p1 = expanded q a1 f p o0.more in got (in_more o0.takes p1.reads) p1.more p1.agrees
  produced q in_end f p w = got in_end w refl
  produced q (let_binding {word = word} {a = a} {more = more} k0 a1 a2 a3) f p w = let o0 = on q k0 p refl w in let p1 = expanded q a1 (reads_none a2 refl (reads_none a3 refl f)) p o0.more in let p2 = expanded q a2 (reads_none a3 refl f) p p1.more in let p3 = expanded q a3 f p p2.more in got (let_binding o0.takes p1.reads p2.reads p3.reads) p3.more (binding_agree word p1.value a p2.value more p3.value p1.agrees p2.agrees p3.agrees)
  produced q (let_more k0 a1) f p w = let o0 = on q k0 p refl w in let p1 = expanded q a1 f p o0.more in got (let_more o0.takes p1.reads) p1.more p1.agrees
  produced q let_end f p w = got let_end w refl
  produced q (in_clause k0 a1) f p w = let o0 = on q k0 (deeper p) refl w in let p1 = expanded q a1 f (deeper p) o0.more in got (in_clause o0.takes p1.reads) p1.more p1.agrees
  produced q (assign_clause k0 a1) f p w = let o0 = on q k0 (deeper p) refl w in let p1 = expanded q a1 f (deeper p) o0.more in got (assign_clause o0.takes p1.reads) p1.more p1.agrees
  produced q (return_clause k0 a1) f p w = let o0 = on q k0 (deeper p) refl w in let p1 = expanded q a1 f (deeper p) o0.more in got (return_clause o0.takes p1.reads) p1.more p1.agrees
  produced q (satisfies_clause k0 a1) f p w = let o0 = on q k0 (deeper p) refl w in let p1 = expanded q a1 f (deeper p) o0.more in got (satisfies_clause o0.takes p1.reads) p1.more p1.agrees
  produced q (test_clause k0 a1 k2) f p w = let o0 = on q k0 (deeper p) refl w in let p1 = expanded q a1 (takes_none k2 refl) (deeper p) o0.more in let o2 = on q k2 p refl p1.more in got (test_clause o0.takes p1.reads o2.takes) o2.more p1.agrees
  produced q (then_clause k0 a1) f p w = let o0 = on q k0 (deeper p) refl w in let p1 = expanded q a1 f (deeper p) o0.more in got (then_clause o0.takes p1.reads) p1.more p1.agrees
  produced q (else_clause k0 a1) f p w = let o0 = on q k0 (deeper p) refl w in let p1 = expanded q a1 f (deeper p) o0.more in got (else_clause o0.takes p1.reads) p1.more p1.agrees
  produced q (or_expr {first = first} {more = more} a0 a1) f p w = let p0 = expanded q a0 (reads_none a1 refl f) p w in let p1 = expanded q a1 f p p0.more in got (or_expr p0.reads p1.reads) p1.more (chain_agree tree.Or first p0.value more p1.value p0.agrees p1.agrees)
  produced q (or_more {next = next} {more = more} k0 a1 a2) f p w = let o0 = on q k0 p refl w in let p1 = expanded q a1 (reads_none a2 refl f) p o0.more in let p2 = expanded q a2 f p p1.more in got (or_more o0.takes p1.reads p2.reads) p2.more (cons_agree bare next p1.value more p2.value p1.agrees p2.agrees)
  produced q or_end f p w = got or_end w refl
  produced q (and_expr {first = first} {more = more} a0 a1) f p w = let p0 = expanded q a0 (reads_none a1 refl f) p w in let p1 = expanded q a1 f p p0.more in got (and_expr p0.reads p1.reads) p1.more (chain_agree tree.And first p0.value more p1.value p0.agrees p1.agrees)
  produced q (and_more {next = next} {more = more} k0 a1 a2) f p w = let o0 = on q k0 p refl w in let p1 = expanded q a1 (reads_none a2 refl f) p o0.more in let p2 = expanded q a2 f p p1.more in got (and_more o0.takes p1.reads p2.reads) p2.more (cons_agree bare next p1.value more p2.value p1.agrees p2.agrees)
  produced q and_end f p w = got and_end w refl
  produced q (comparison_expr {first = first} {second = second} a0 a1) f p w = let p0 = expanded q a0 (reads_none a1 refl f) p w in let p1 = expanded q a1 f p p0.more in got (comparison_expr p0.reads p1.reads) p1.more (comparison_agree first p0.value second p1.value p0.agrees p1.agrees)
  produced q (equal {a = a} k0 a1) f p w = let o0 = on q k0 p refl w in let p1 = expanded q a1 f p o0.more in got (equal o0.takes p1.reads) p1.more (compared_agree compare.Equal a p1.value p1.agrees)
  produced q (not_equal {a = a} k0 a1) f p w = let o0 = on q k0 p refl w in let p1 = expanded q a1 f p o0.more in got (not_equal o0.takes p1.reads) p1.more (compared_agree compare.NotEqual a p1.value p1.agrees)
  produced q (less {a = a} k0 a1) f p w = let o0 = on q k0 p refl w in let p1 = expanded q a1 f p o0.more in got (less o0.takes p1.reads) p1.more (compared_agree compare.Less a p1.value p1.agrees)
  produced q (less_or_equal {a = a} k0 a1) f p w = let o0 = on q k0 p refl w in let p1 = expanded q a1 f p o0.more in got (less_or_equal o0.takes p1.reads) p1.more (compared_agree compare.LessOrEqual a p1.value p1.agrees)
  produced q (greater {a = a} k0 a1) f p w = let o0 = on q k0 p refl w in let p1 = expanded q a1 f p o0.more in got (greater o0.takes p1.reads) p1.more (compared_agree compare.Greater a p1.value p1.agrees)
  produced q (greater_or_equal {a = a} k0 a1) f p w = let o0 = on q k0 p refl w in let p1 = expanded q a1 f p o0.more in got (greater_or_equal o0.takes p1.reads) p1.more (compared_agree compare.GreaterOrEqual a p1.value p1.agrees)
  produced q not_compared f p w = got not_compared w refl
  produced q (concatenation_expr {first = first} {more = more} a0 a1) f p w = let p0 = expanded q a0 (reads_none a1 refl f) p w in let p1 = expanded q a1 f p p0.more in got (concatenation_expr p0.reads p1.reads) p1.more (chain_agree tree.Concatenation first p0.value more p1.value p0.agrees p1.agrees)
  produced q (concatenation_more {next = next} {more = more} k0 a1 a2) f p w = let o0 = on q k0 p refl w in let p1 = expanded q a1 (reads_none a2 refl f) p o0.more in let p2 = expanded q a2 f p p1.more in got (concatenation_more o0.takes p1.reads p2.reads) p2.more (cons_agree bare next p1.value more p2.value p1.agrees p2.agrees)
  produced q concatenation_end f p w = got concatenation_end w refl
  produced q (range_expr {first = first} {last = last} a0 a1) f p w = let p0 = expanded q a0 (reads_none a1 refl f) p w in let p1 = expanded q a1 f p p0.more in got (range_expr p0.reads p1.reads) p1.more (range_agree first p0.value last p1.value p0.agrees p1.agrees)
  produced q (up_to {a = a} k0 b a1) f p w = let o0 = on q k0 p refl w in let p1 = expanded q a1 f p o0.more in got (up_to o0.takes (λ e. e) p1.reads) p1.more (last_agree a p1.value p1.agrees)
  produced q (up_to_cut k0 c) f p w = absurd c
  produced q no_range f p w = got no_range w refl
  produced q (additive_expr {first = first} {more = more} a0 a1) f p w = let p0 = expanded q a0 (reads_none a1 refl f) p w in let p1 = expanded q a1 f p p0.more in got (additive_expr p0.reads p1.reads) p1.more (mixed_agree tree.Additive' first p0.value more p1.value p0.agrees p1.agrees)
  produced q (plus {next = next} {more = more} k0 a1 a2) f p w = let o0 = on q k0 p refl w in let p1 = expanded q a1 (reads_none a2 refl f) p o0.more in let p2 = expanded q a2 f p p1.more in got (plus o0.takes p1.reads p2.reads) p2.more (next_agree sum.Plus next p1.value more p2.value p1.agrees p2.agrees)
  produced q (minus {next = next} {more = more} k0 a1 a2) f p w = let o0 = on q k0 p refl w in let p1 = expanded q a1 (reads_none a2 refl f) p o0.more in let p2 = expanded q a2 f p p1.more in got (minus o0.takes p1.reads p2.reads) p2.more (next_agree sum.Minus next p1.value more p2.value p1.agrees p2.agrees)
  produced q additive_end f p w = got additive_end w refl
  produced q (multiplicative_expr {first = first} {more = more} a0 a1) f p w = let p0 = expanded q a0 (reads_none a1 refl f) p w in let p1 = expanded q a1 f p p0.more in got (multiplicative_expr p0.reads p1.reads) p1.more (mixed_agree tree.Multiplicative' first p0.value more p1.value p0.agrees p1.agrees)
  produced q (times {next = next} {more = more} k0 a1 a2) f p w = let o0 = on q k0 p refl w in let p1 = expanded q a1 (reads_none a2 refl f) p o0.more in let p2 = expanded q a2 f p p1.more in got (times o0.takes p1.reads p2.reads) p2.more (next_agree product.Times next p1.value more p2.value p1.agrees p2.agrees)
  produced q (integer_divide {next = next} {more = more} k0 a1 a2) f p w = let o0 = on q k0 p refl w in let p1 = expanded q a1 (reads_none a2 refl f) p o0.more in let p2 = expanded q a2 f p p1.more in got (integer_divide o0.takes p1.reads p2.reads) p2.more (next_agree product.IntegerDivide next p1.value more p2.value p1.agrees p2.agrees)
  produced q (modulo {next = next} {more = more} k0 a1 a2) f p w = let o0 = on q k0 p refl w in let p1 = expanded q a1 (reads_none a2 refl f) p o0.more in let p2 = expanded q a2 f p p1.more in got (modulo o0.takes p1.reads p2.reads) p2.more (next_agree product.Modulo next p1.value more p2.value p1.agrees p2.agrees)
  produced q multiplicative_end f p w = got multiplicative_end w refl
  produced q (union_expr {first = first} {more = more} a0 a1) f p w = let p0 = expanded q a0 (reads_none a1 refl f) p w in let p1 = expanded q a1 f p p0.more in got (union_expr p0.reads p1.reads) p1.more (chain_agree tree.Union first p0.value more p1.value p0.agrees p1.agrees)
  produced q (union_more {next = next} {more = more} k0 a1 a2) f p w = let o0 = on q k0 p refl w in let p1 = expanded q a1 (reads_none a2 refl f) p o0.more in let p2 = expanded q a2 f p p1.more in got (union_more o0.takes p1.reads p2.reads) p2.more (cons_agree bare next p1.value more p2.value p1.agrees p2.agrees)
  produced q (bar_more {next = next} {more = more} k0 a1 a2) f p w = let o0 = on_bar q k0 p w in let p1 = expanded q a1 (reads_none a2 refl f) p o0.more in let p2 = expanded q a2 f p p1.more in got (bar_way o0.way p1.reads p2.reads) p2.more (cons_agree bare next p1.value more p2.value p1.agrees p2.agrees)
  produced q union_end f p w = got union_end w refl
  produced q (set_expr {first = first} {more = more} a0 a1) f p w = let p0 = expanded q a0 (reads_none a1 refl f) p w in let p1 = expanded q a1 f p p0.more in got (set_expr p0.reads p1.reads) p1.more (mixed_agree tree.IntersectExcept first p0.value more p1.value p0.agrees p1.agrees)
  produced q (intersect {next = next} {more = more} k0 a1 a2) f p w = let o0 = on q k0 p refl w in let p1 = expanded q a1 (reads_none a2 refl f) p o0.more in let p2 = expanded q a2 f p p1.more in got (intersect o0.takes p1.reads p2.reads) p2.more (next_agree set.Intersect next p1.value more p2.value p1.agrees p2.agrees)
  produced q (except {next = next} {more = more} k0 a1 a2) f p w = let o0 = on q k0 p refl w in let p1 = expanded q a1 (reads_none a2 refl f) p o0.more in let p2 = expanded q a2 f p p1.more in got (except o0.takes p1.reads p2.reads) p2.more (next_agree set.Except next p1.value more p2.value p1.agrees p2.agrees)
  produced q set_end f p w = got set_end w refl
  produced q (negative {a = a} k0 a1) f p w = let o0 = on q k0 (deeper p) refl w in let p1 = expanded q a1 f (deeper p) o0.more in got (negative o0.takes p1.reads) p1.more (signed_agree signs.Minus a p1.value p1.agrees)
  produced q (positive {a = a} k0 a1) f p w = let o0 = on q k0 (deeper p) refl w in let p1 = expanded q a1 f (deeper p) o0.more in got (positive o0.takes p1.reads) p1.more (signed_agree signs.Plus a p1.value p1.agrees)
  produced q (no_sign a0) f p w = let p0 = expanded q a0 f p w in got (no_sign p0.reads) p0.more p0.agrees
  produced q (map_expr {first = first} {more = more} a0 a1) f p w = let p0 = expanded q a0 (reads_none a1 refl f) p w in let p1 = expanded q a1 f p p0.more in got (map_expr p0.reads p1.reads) p1.more (chain_agree tree.SimpleMap first p0.value more p1.value p0.agrees p1.agrees)
  produced q (map_more {next = next} {more = more} k0 a1 a2) f p w = let o0 = on q k0 p refl w in let p1 = expanded q a1 (reads_none a2 refl f) p o0.more in let p2 = expanded q a2 f p p1.more in got (map_more o0.takes p1.reads p2.reads) p2.more (cons_agree bare next p1.value more p2.value p1.agrees p2.agrees)
  produced q map_end f p w = got map_end w refl
  produced q (operand a0 (by b (left_out_operator among read is))) f p w = absurd is
  produced q (operand a0 (by b no_left_out)) f p w = let p0 = expanded q a0 f p w in got (operand p0.reads (reading no_left_out)) p0.more p0.agrees
  produced q (operand a0 (cut c)) f p w = absurd c
  produced q (left_out_operator among read is) f p w = absurd is
  produced q no_left_out f p w = got no_left_out w refl
  produced q (root k0) f p w = let o0 = on q k0 p refl w in got (root o0.takes) o0.more refl
  produced q (from_root {steps = steps} k0 a1) f p w = let o0 = on q k0 p refl w in let p1 = expanded q a1 f p o0.more in got (from_root o0.takes p1.reads) p1.more (rooted_agree steps p1.value p1.agrees)
  produced q (from_descendants {steps = steps} k0 a1) f p w = let o0 = on_slashes q k0 p w in let p1 = expanded q a1 f p o0.more in got (descendants_way o0.way p1.reads) p1.more (rooted_agree (descendants ∷ steps) (descendants ∷ p1.value) (cons_agree bare descendants descendants steps p1.value refl p1.agrees))
  produced q (relative {steps = steps} a0) f p w = let p0 = expanded q a0 f p w in got (relative p0.reads) p0.more (path_agree steps p0.value p0.agrees)
  produced q (path_steps {first = first} {more = more} a0 a1) f p w = let p0 = expanded q a0 (reads_none a1 refl f) p w in let p1 = expanded q a1 f p p0.more in got (path_steps p0.reads p1.reads) p1.more (cons_agree bare first p0.value more p1.value p0.agrees p1.agrees)
  produced q (next_step {next = next} {more = more} k0 a1 a2) f p w = let o0 = on q k0 p refl w in let p1 = expanded q a1 (reads_none a2 refl f) p o0.more in let p2 = expanded q a2 f p p1.more in got (next_step o0.takes p1.reads p2.reads) p2.more (cons_agree bare next p1.value more p2.value p1.agrees p2.agrees)
  produced q (next_descendants {next = next} {more = more} k0 a1 a2) f p w = let o0 = on_slashes q k0 p w in let p1 = expanded q a1 (reads_none a2 refl f) p o0.more in let p2 = expanded q a2 f p p1.more in got (next_way o0.way p1.reads p2.reads) p2.more (cons_agree bare descendants descendants (next ∷ more) (p1.value ∷ p2.value) refl (cons_agree bare next p1.value more p2.value p1.agrees p2.agrees))
  produced q steps_end f p w = got steps_end w refl
  produced q (context_item {predicates = predicates} k0 a1) f p w = let o0 = on q k0 p refl w in let p1 = expanded q a1 f p o0.more in got (context_item o0.takes p1.reads) p1.more (filtered_agree (other (alone tree.ContextItem) []) (other (alone tree.ContextItem) []) predicates p1.value refl p1.agrees)
  produced q (primary {a = a} {predicates = predicates} a0 a1) f p w = let p0 = expanded q a0 (reads_none a1 refl f) p w in let p1 = expanded q a1 f p p0.more in got (primary p0.reads p1.reads) p1.more (filtered_agree a p0.value predicates p1.value p0.agrees p1.agrees)
  produced q (parent {predicates = predicates} k0 a1) f p w = let o0 = on_dots q k0 p w in let p1 = expanded q a1 f p o0.more in got (parent_way o0.way p1.reads) p1.more (step_agree axes.Parent AnyNode predicates p1.value p1.agrees)
  produced q (attribute {test = test} {predicates = predicates} k0 a1 a2) f p w = let o0 = on_at q k0 p w in let p1 = expanded q a1 (reads_none a2 refl f) p o0.more in let p2 = expanded q a2 f p p1.more in got (attribute_way o0.way p1.reads p2.reads) p2.more (attribute_agree test p1.value predicates p2.value p1.agrees p2.agrees)
  produced q (axis_name {xs = xs} {tail = tail} k0 a1) f p {out = out} w = let o0 = on q k0 p refl w in let p1 = expanded q a1 f p o0.more in got (axis_name o0.takes p1.reads) p1.more (named_agree xs out (first_text xs) (first_text out) tail p1.value o0.text p1.agrees)
  produced q (any_name {predicates = predicates} k0 a1) f p w = let o0 = on q k0 p refl w in let p1 = expanded q a1 f p o0.more in got (any_name o0.takes p1.reads) p1.more (child_agree AnyName AnyName predicates p1.value refl p1.agrees)
  produced q (node_name {xs = xs} {parentheses = parentheses} {predicates = predicates} k0 a1 a2) f p {out = out} w = let o0 = on q k0 p refl w in let p1 = expanded q a1 (reads_none a2 refl f) p o0.more in let p2 = expanded q a2 f p p1.more in got (node_name o0.takes p1.reads p2.reads) p2.more (child_agree (kind_test AnyNode (first_text xs) parentheses) (kind_test AnyNode (first_text out) p1.value) predicates p2.value (kind_agree AnyNode (first_text xs) (first_text out) parentheses p1.value o0.text p1.agrees) p2.agrees)
  produced q (element_name {xs = xs} {parentheses = parentheses} {predicates = predicates} k0 a1 a2) f p {out = out} w = let o0 = on q k0 p refl w in let p1 = expanded q a1 (reads_none a2 refl f) p o0.more in let p2 = expanded q a2 f p p1.more in got (element_name o0.takes p1.reads p2.reads) p2.more (child_agree (kind_test AnyElement (first_text xs) parentheses) (kind_test AnyElement (first_text out) p1.value) predicates p2.value (kind_agree AnyElement (first_text xs) (first_text out) parentheses p1.value o0.text p1.agrees) p2.agrees)
  produced q (plain_step (by b (plain_name among k)) a1) f p w = step_of_name q a1 f p among (name_of q among k p w)
  produced q (plain_step (cut c) a1) f p w = absurd c
  produced q (left_out_step among read is) f p w = absurd is
  produced q (axis_test {test = test} {predicates = predicates} k0 a1 a2) f p w = let o0 = on q k0 p refl w in let p1 = expanded q a1 (reads_none a2 refl f) p o0.more in let p2 = expanded q a2 f p p1.more in got (axis_test o0.takes p1.reads p2.reads) p2.more (test_agree test p1.value predicates p2.value p1.agrees p2.agrees)
  produced q (axis_call {arguments = arguments} {predicates = predicates} k0 a1 k2 a3) f p w = let o0 = on q k0 (deeper p) refl w in let p1 = expanded q a1 (takes_none k2 refl) (deeper p) o0.more in let o2 = on q k2 p refl p1.more in let p3 = expanded q a3 f p o2.more in got (axis_call o0.takes p1.reads o2.takes p3.reads) p3.more (called_agree arguments p1.value predicates p3.value p1.agrees p3.agrees)
  produced q (axis_predicates {predicates = predicates} a0) f p w = let p0 = expanded q a0 f p w in got (axis_predicates p0.reads) p0.more (predicates_agree predicates p0.value p0.agrees)
  produced q (name_call {arguments = arguments} {predicates = predicates} k0 a1 k2 a3) f p w = let o0 = on q k0 (deeper p) refl w in let p1 = expanded q a1 (takes_none k2 refl) (deeper p) o0.more in let o2 = on q k2 p refl p1.more in let p3 = expanded q a3 f p o2.more in got (name_call o0.takes p1.reads o2.takes p3.reads) p3.more (called_agree arguments p1.value predicates p3.value p1.agrees p3.agrees)
  produced q (name_predicates {predicates = predicates} a0) f p w = let p0 = expanded q a0 f p w in got (name_predicates p0.reads) p0.more (predicates_agree predicates p0.value p0.agrees)
  produced q (name_test a0) f p w = let p0 = expanded q a0 f p w in got (name_test p0.reads) p0.more (ap Name p0.agrees)
  produced q (axis_name_test k0) f p w = let o0 = on q k0 p refl w in got (axis_name_test o0.takes) o0.more (ap Name o0.text)
  produced q (any_name_test k0) f p w = let o0 = on q k0 p refl w in got (any_name_test o0.takes) o0.more refl
  produced q (node_test {xs = xs} {parentheses = parentheses} k0 a1) f p {out = out} w = let o0 = on q k0 p refl w in let p1 = expanded q a1 f p o0.more in got (node_test o0.takes p1.reads) p1.more (kind_agree AnyNode (first_text xs) (first_text out) parentheses p1.value o0.text p1.agrees)
  produced q (element_test {xs = xs} {parentheses = parentheses} k0 a1) f p {out = out} w = let o0 = on q k0 p refl w in let p1 = expanded q a1 f p o0.more in got (element_test o0.takes p1.reads) p1.more (kind_agree AnyElement (first_text xs) (first_text out) parentheses p1.value o0.text p1.agrees)
  produced q (kind_parentheses k0 k1) f p w = let o0 = on q k0 (deeper p) refl w in let o1 = on q k1 p refl o0.more in got (kind_parentheses o0.takes o1.takes) o1.more refl
  produced q no_parentheses f p w = got no_parentheses w refl
  produced q (predicate {first = first} {more = more} k0 a1 k2 a3) f p w = let o0 = on q k0 (deeper p) refl w in let p1 = expanded q a1 (takes_none k2 refl) (deeper p) o0.more in let o2 = on q k2 p refl p1.more in let p3 = expanded q a3 f p o2.more in got (predicate o0.takes p1.reads o2.takes p3.reads) p3.more (cons_agree bare first p1.value more p3.value p1.agrees p3.agrees)
  produced q no_predicate f p w = got no_predicate w refl
  produced q (integer_expr {xs = xs} k0) f p {out = out} w = let o0 = on q k0 p refl w in got (integer_expr o0.takes) o0.more (integer_agree xs out o0.text)
  produced q (string_expr {xs = xs} k0) f p {out = out} w = let o0 = on_string q k0 p w in got (string_expr o0.takes) o0.more (string_agree xs out o0.means)
  produced q (variable_expr {xs = xs} {word = word} k0 b a1) f p {out = out} w = let o0 = on q k0 p refl w in let p1 = expanded q a1 f p o0.more in got (variable_expr o0.takes (λ e. e) p1.reads) p1.more (variable_agree xs out word p1.value p1.agrees)
  produced q (variable_cut k0 c) f p w = absurd c
  produced q (parenthesized {a = a} k0 a1 k2) f p w = let o0 = on q k0 (deeper p) refl w in let p1 = expanded q a1 (takes_none k2 refl) (deeper p) o0.more in let o2 = on q k2 p refl p1.more in got (parenthesized o0.takes p1.reads o2.takes) o2.more (enclosed_agree a p1.value p1.agrees)
  produced q (inside a0) f p w = let p0 = expanded q a0 f p w in got (inside p0.reads) p0.more p0.agrees
  produced q empty f p w = got empty w refl
  produced q (some_arguments {xs = xs} {first = first} {more = more} a0 a1) f p {out = out} w = let p0 = expanded q a0 (reads_none a1 refl f) p w in let p1 = expanded q a1 f p p0.more in got (some_arguments p0.reads p1.reads) p1.more (argument_agree xs out first p0.value more p1.value p0.agrees p1.agrees)
  produced q no_arguments f p w = got no_arguments w refl
  produced q (more_arguments {ys = ys} {next = next} {more = more} k0 a1 a2) f p w = let o0 = on q k0 p refl w in let p1 = expanded q a1 (reads_none a2 refl f) p o0.more in let p2 = expanded q a2 f p p1.more in got (more_arguments o0.takes p1.reads p2.reads) p2.more (argument_agree ys o0.rest next p1.value more p2.value p1.agrees p2.agrees)
  produced q arguments_end f p w = got arguments_end w refl
  produced q (variable_name a0) f p w = let p0 = expanded q a0 f p w in got (variable_name p0.reads) p0.more p0.agrees
  produced q (axis_variable k0) f p w = let o0 = on q k0 p refl w in got (axis_variable o0.takes) o0.more o0.text
  produced q (node_variable k0) f p w = let o0 = on q k0 p refl w in got (node_variable o0.takes) o0.more o0.text
  produced q (element_variable k0) f p w = let o0 = on q k0 p refl w in got (element_variable o0.takes) o0.more o0.text
  produced q (plain_name among k0) f p w = plain_expanded among (name_of q among k0 p w) f

  -- a step that begins with a name: where the name is another one, it is a call
  step_of_name : {nests : Bool} {end : List Lexed} → LooksEnd end → {deep depth : ℕ} {ys zs : List Lexed} {tail : Behind} → Reads All r.NameTail deep ys zs tail → NoParenthesis zs → HasRoom nests deep depth → {x : Symbol} {xs out : List Lexed} → IsAmong x (xpath r.PlainName) →
      OnName nests end depth x xs ys out → Expanded nests end r.StepExpr depth out zs (named xs (first_text xs) tail)
  step_of_name q {tail = tail} (by b a) f p {xs = xs} {out = out} among (name_kept o) =
      let p1 = produced q a f p o.more in
      got (plain_step (reading (plain_name among o.takes)) p1.reads) p1.more (named_agree xs out (first_text xs) (first_text out) tail p1.value o.text p1.agrees)
  step_of_name q (by b (name_call {arguments = arguments} {predicates = predicates} k0 a1 k2 a3)) f p {xs = xs} {out = out} among (as_function takes more e g) =
      let o0 = on q k0 (deeper p) refl more in let p1 = expanded q a1 (takes_none k2 refl) (deeper p) o0.more in let o2 = on q k2 p refl p1.more in let p3 = expanded q a3 f p o2.more in
      got (plain_step (reading (plain_name name_is_among takes)) (reading (name_call o0.takes p1.reads o2.takes p3.reads))) p3.more
      (function_agree xs out (first_text xs) (first_text out) arguments p1.value predicates p3.value e p1.agrees p3.agrees)
  step_of_name q (by b (name_predicates a0)) f p among (as_function takes more e g) = absurd (false≢true (sym (reads_none a0 refl f) ∙ g))
  step_of_name q (cut c) f p among o = absurd c

-- ---- whole texts

nothing_behind : {nests : Bool} {end ys : List Lexed} → WrittenOut nests end [] ys → ys ≡ end
nothing_behind done = refl

-- what a text reads
record Whole (out : List Lexed) (a : Operand) : Type 0 where
  said : Operand
  reads : AreRead out said
  agrees : bare a ≡ bare said

-- whole texts spell what they say where that agrees
module _ (variables : List (List ℕ)) (text : List ℕ) (tokens : List Lexed) (a : Operand) (read : Tokens (size text) text tokens (ends.Text (size text)))
    (named : first_fault variables a.names ≡ None) (h : Whole tokens a) where
  whole_spells : Spells variables text a.tree
  whole_spells = record {
    tokens = tokens;
    said = h.said;
    read = read;
    says = h.reads;
    named = fault_free variables a.names h.said.names (ap (λ (z : Operand). z.names) h.agrees) named;
    means = ap (λ (z : Operand). z.tree) h.agrees;
  }

whole : {nests : Bool} (out : List Lexed) (a : Operand) → Expanded nests [] r.Expr 0 out [] a → Whole out a
whole out a o = record { said = o.value; reads = subst (λ l. Reads All r.Expr 0 out l o.value) (nothing_behind o.more) o.reads; agrees = o.agrees }

-- the tokens of a text and where they end are one
abbrev pub TokensAreOne : Type 0
TokensAreOne = (text : List ℕ) (xs ys : List Lexed) (e f : End) → Tokens (size text) text xs e → Tokens (size text) text ys f → (xs ≡ ys) × (e ≡ f)

pub written_out_spells : TokensAreOne → (variables : List (List ℕ)) (text other : List ℕ) (tokens others : List Lexed) (tree : Tree) → Tokens (size text) text tokens (ends.Text (size text))
    → Tokens (size other) other others (ends.Text (size other)) → WrittenOut false [] tokens others → Spells variables text tree → Spells variables other tree
written_out_spells one_tokens variables text other tokens others tree read read_other out spells =
    let same = (one_tokens text tokens spells.tokens _ _ read spells.read).0 in
    let h = whole others spells.said (expanded at_end spells.says refl flat (subst (λ l. WrittenOut false [] l others) same out)) in
    subst (λ (z : Tree). Spells variables other z) (sym spells.means) (whole_spells variables other others spells.said read_other spells.named h)

-- where one more thing may be open, with kind tests too
pub long_forms_spell : (variables : List (List ℕ)) (other : List ℕ) (tokens others : List Lexed) (a : Operand) → Tokens (size other) other others (ends.Text (size other))
    → WrittenOut true [] tokens others → Reads All r.Expr 1 tokens [] a → first_fault variables a.names ≡ None → Spells variables other a.tree
long_forms_spell variables other tokens others a read_other out says named =
    whole_spells variables other others a read_other named (whole others a (expanded at_end says refl one_more out))

-- ---- texts in parentheses

-- a primary expression alone is an expression
alone_reads : {d : ℕ} {xs ys : List Lexed} {a : Operand} → Reads All r.PrimaryExpr d xs ys a → Reads All r.Expr d xs ys a
alone_reads k =
    reading (expr (reading (single_or (reading (or_expr (reading (and_expr (reading (comparison_expr (reading (concatenation_expr (reading (range_expr (reading (additive_expr
    (reading (multiplicative_expr (reading (union_expr (reading (set_expr (reading (no_sign (reading (map_expr (reading (operand
    (reading (relative (reading (path_steps (reading (primary k (reading no_predicate))) (reading steps_end))))) (reading no_left_out))) (reading map_end)))))
    (reading set_end))) (reading union_end))) (reading multiplicative_end))) (reading additive_end))) (reading no_range))) (reading concatenation_end))) (reading not_compared)))
    (reading and_end))) (reading or_end))))) (reading expr_end))

-- what is read in parentheses
enclosed : {nests : Bool} (from to : ℕ) (out : List Lexed) (a : Operand) → Expanded nests (sign s.RightParenthesis ")" to ∷ []) r.Expr 1 out [] a
    → Whole (sign s.LeftParenthesis "(" from ∷ out) (other a.tree a.names)
enclosed from to out a o =
    let few : 1 ≤ greatest_nesting = omega arith in
    let none : 0 ≤ greatest_nesting = omega arith in
    let inner : Reads All r.Expr 1 out (sign s.RightParenthesis ")" to ∷ []) o.value = subst (λ l. Reads All r.Expr 1 out l o.value) (nothing_behind o.more) o.reads in
    record {
      said = other o.value.tree o.value.names;
      reads = alone_reads (reading (parenthesized {a = o.value} (token refl few) (reading (inside inner)) (token refl none)));
      agrees = enclosed_agree a o.value o.agrees;
    }

pub enclosed_spells : (variables : List (List ℕ)) (text : List ℕ) (tokens others : List Lexed) (from to : ℕ) (a : Operand)
    → Tokens (size text) text (sign s.LeftParenthesis "(" from ∷ others) (ends.Text (size text)) → WrittenOut false (sign s.RightParenthesis ")" to ∷ []) tokens others
    → Reads All r.Expr 1 tokens [] a → first_fault variables a.names ≡ None → Spells variables text a.tree
enclosed_spells variables text tokens others from to a read out says named =
    whole_spells variables text (sign s.LeftParenthesis "(" from ∷ others) (other a.tree a.names) read named
    (enclosed from to others a (expanded (before_parenthesis to) says refl flat out))
