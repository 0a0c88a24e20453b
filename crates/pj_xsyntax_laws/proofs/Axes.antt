-- A test with predicates is read as a step along `child`, with the axis before it and without.
use Rattle.std.proofs.Common.{ℕ, ◌≤◌, List, refl}
use lib.Utf8.{encode}
use Rattle.pj_ll.specs.declared.grammar.Symbol.{Symbol}
use Rattle.pj_xexpressions.specs.declared.expr.NodeTest.{NodeTest}
use Rattle.pj_xtokens.specs.Tokens.{Lexed}
use Rattle.pj_xgrammar.specs.declared.rule.Rule.TheVariants as r
use Rattle.pj_xgrammar.specs.XPath.{greatest_nesting}
use Rattle.pj_xexpressions.specs.Names.{axis_of}
use Rattle.pj_xreadings.specs.Operands.{Operand, Test, Predicates, child_step}
use Rattle.pj_xmeaning.specs.Reach.{All}
use Rattle.pj_xmeaning.specs.Reads.{Takes, token, cut, Reads, by, axis_name, any_name, node_name, element_name, plain_step, axis_test, axis_predicates, name_predicates, name_test, axis_name_test, any_name_test, node_test, element_test, plain_name}
use Rattle.pj_xsyntax_laws.specs.Abbreviations.{along_child}
use Rattle.pj_xsyntax_laws.proofs.WholeReadings.{reading}

pub without_axis : (depth : ℕ) (xs ys zs : List Lexed) (test : NodeTest) (predicates : List Operand) → Reads All r.NodeTest depth xs ys test → Reads All r.PredicateList depth ys zs predicates →
    Reads All r.StepExpr depth xs zs (child_step test predicates)
without_axis depth xs ys zs _ predicates (by b (name_test {word = word} a)) x = reading (plain_step {word = word} {tail = Predicates predicates} a (reading (name_predicates x)))
without_axis depth xs ys zs _ predicates (by b (axis_name_test k)) x = reading (axis_name {tail = Predicates predicates} k (reading (axis_predicates x)))
without_axis depth xs ys zs _ predicates (by b (any_name_test k)) x = reading (any_name k x)
without_axis depth xs ys zs _ predicates (by b (node_test {parentheses = parentheses} k a)) x = reading (node_name {parentheses = parentheses} {predicates = predicates} k a x)
without_axis depth xs ys zs _ predicates (by b (element_test {parentheses = parentheses} k a)) x = reading (element_name {parentheses = parentheses} {predicates = predicates} k a x)
without_axis depth xs ys zs _ predicates (cut c) x = absurd c

takes_few : {depth : ℕ} {s : Symbol} {xs ys : List Lexed} → Takes All depth s xs ys → depth ≤ greatest_nesting
takes_few (token e few) = few
takes_few (cut c) = absurd c

test_few : {depth : ℕ} {xs ys : List Lexed} {test : NodeTest} → Reads All r.NodeTest depth xs ys test → depth ≤ greatest_nesting
test_few (by b (name_test (by d (plain_name among k)))) = takes_few k
test_few (by b (name_test (cut c))) = absurd c
test_few (by b (axis_name_test k)) = takes_few k
test_few (by b (any_name_test k)) = takes_few k
test_few (by b (node_test k a)) = takes_few k
test_few (by b (element_test k a)) = takes_few k
test_few (cut c) = absurd c

pub with_axis : (depth from to : ℕ) (xs ys zs : List Lexed) (test : NodeTest) (predicates : List Operand) → Reads All r.NodeTest depth xs ys test → Reads All r.PredicateList depth ys zs predicates →
    Reads All r.StepExpr depth (along_child from to xs) zs (child_step test predicates)
unfolding axis_of encode
with_axis depth from to xs ys zs test predicates a x =
    let few = test_few a in
    reading (axis_name {tail = Test test predicates} (token refl few) (reading (axis_test (token refl few) a x)))
