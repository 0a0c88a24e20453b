-- What a run has at hand for each file may be read by several threads. A `search` that goes down through compiled patterns at once runs out of
-- steps, so each type has its own fact, from those of its fields.
use denote.Param.Send.{IsSend, IsSync, sendable}
use Rattle.std.proofs.Crossing.{crosses}
use Rattle.std.proofs.MapsCrossing.{crosses as maps}
use Rattle.pj_base.proofs.text.Text.TheSendSync as text
use Rattle.pj_cache.proofs.cache.Cache.TheSendSync as found
use Rattle.pj_cache.specs.contracts.key.Key as key
use Rattle.pj_peg.proofs.plan.Plan.TheSendSync as plan
use Rattle.pj_peg.specs.contracts.grammar.WellFormed as well_formed
use Rattle.pj_peg_grammar.proofs.item.Item.TheLaws.TheKnot as item
use Rattle.pj_rule_sets.specs.contracts.expressions.RuleExpressions as expressions
use Rattle.pj_rule_sets.specs.contracts.path_patterns.PathPattern as path_pattern
use Rattle.pj_rule_sets.specs.contracts.path_patterns.PathPatterns as path_patterns
use Rattle.pj_rule_sets.specs.contracts.rule.Rule as rule
use Rattle.pj_rule_sets.specs.contracts.rule_set.RuleSet as rule_set
use Rattle.pj_rule_sets.specs.contracts.spelled.Spelled as spelled
use Rattle.pj_xexpressions.proofs.axis.Axis.TheSendSync as axis
use Rattle.pj_xexpressions.proofs.expr.Expr.TheLaws.TheKnot as query
use Rattle.pj_xexpressions.proofs.expr.NodeTest.TheSendSync as node_test
use Rattle.pj_xexpressions.proofs.function.Function.TheSendSync as function
use Rattle.pj_xexpressions.proofs.operator.Additive.TheSendSync as additive
use Rattle.pj_xexpressions.proofs.operator.Compare.TheSendSync as compare
use Rattle.pj_xexpressions.proofs.operator.Multiplicative.TheSendSync as multiplicative
use Rattle.pj_xexpressions.proofs.operator.Quantifier.TheSendSync as quantifier
use Rattle.pj_xexpressions.proofs.operator.SetOperator.TheSendSync as set_operator
use Rattle.pj_xexpressions.proofs.operator.Sign.TheSendSync as sign
use Rattle.pj_xexpressions.proofs.pmd_function.PmdFunction.TheSendSync as pmd_function
use Rattle.pj_xexpressions.specs.contracts.expr.Expr as expr
use Rattle.pj_xpatterns.specs.contracts.compiled.CompiledPattern as compiled
use Rattle.pj_xpatterns.specs.contracts.patterns.Patterns as patterns
use Rattle.regex.specs.contracts.pattern.Pattern as pattern
use Rattle.regex.specs.contracts.string.regex.Regex as regex
use Rattle.regex_dfa.specs.contracts.dfa.Dfa as dfa
use Rattle.regex_hir.proofs.hir.Hir.TheLaws.TheKnot as tree
use Rattle.regex_hir.specs.contracts.hir.Hir as hir
use Rattle.regex_meta.specs.contracts.plan.Plans as plans
use Rattle.regex_meta.specs.contracts.program.Program as program
use Rattle.regex_meta.specs.contracts.signs.Signs as signs

hir_send : IsSend (hir.the_field).row
hir_send = first_of (search (crosses, tree.crosses, sendable) depth 60 fits 20000, search (crosses, tree.crosses_both, sendable) depth 60 fits 20000)

hir_sync : IsSync (hir.the_field).row
hir_sync = first_of (search (crosses, tree.crosses, sendable) depth 60 fits 20000, search (crosses, tree.crosses_both, sendable) depth 60 fits 20000)

dfa_send : IsSend (dfa.the_field).row
dfa_send = search (crosses, sendable) depth 60 fits 100000

dfa_sync : IsSync (dfa.the_field).row
dfa_sync = search (crosses, sendable) depth 60 fits 100000

plans_send : IsSend (plans.the_field).row
plans_send = let a = hir_send in search (crosses, sendable) depth 60 fits 100000

plans_sync : IsSync (plans.the_field).row
plans_sync = let a = hir_sync in search (crosses, sendable) depth 60 fits 100000

signs_send : IsSend (signs.the_field).row
signs_send = let a = hir_send in search (crosses, sendable) depth 60 fits 100000

signs_sync : IsSync (signs.the_field).row
signs_sync = let a = hir_sync in search (crosses, sendable) depth 60 fits 100000

program_send : IsSend (program.the_field).row
program_send = let a = hir_send in let b = dfa_send in let d = plans_send in let e = signs_send in search (crosses, sendable) depth 60 fits 20000

program_sync : IsSync (program.the_field).row
program_sync = let a = hir_sync in let b = dfa_sync in let d = plans_sync in let e = signs_sync in search (crosses, sendable) depth 60 fits 20000

pattern_send : IsSend (pattern.the_field).row
pattern_send = let a = program_send in search (crosses, sendable) depth 60 fits 20000

pattern_sync : IsSync (pattern.the_field).row
pattern_sync = let a = program_sync in search (crosses, sendable) depth 60 fits 20000

regex_send : IsSend (regex.the_field).row
regex_send = let a = pattern_send in search (crosses, sendable) depth 60 fits 20000

regex_sync : IsSync (regex.the_field).row
regex_sync = let a = pattern_sync in search (crosses, sendable) depth 60 fits 20000

compiled_send : IsSend (compiled.the_field).row
compiled_send = let a = regex_send in search (crosses, sendable) depth 60 fits 20000

compiled_sync : IsSync (compiled.the_field).row
compiled_sync = let a = regex_sync in search (crosses, sendable) depth 60 fits 20000

patterns_send : IsSend (patterns.the_field).row
patterns_send = let a = compiled_send in search (crosses, maps, sendable) depth 60 fits 20000

patterns_sync : IsSync (patterns.the_field).row
patterns_sync = let a = compiled_sync in search (crosses, maps, sendable) depth 60 fits 20000

ruleset parts_of_queries = (text.the_send, text.the_sync, axis.the_field_send, axis.the_field_sync, axis.the_send, axis.the_sync, node_test.the_field_send, node_test.the_field_sync, node_test.the_send, node_test.the_sync, function.the_field_send, function.the_field_sync, function.the_send, function.the_sync, additive.the_field_send, additive.the_field_sync, additive.the_send, additive.the_sync, compare.the_field_send, compare.the_field_sync, compare.the_send, compare.the_sync, multiplicative.the_field_send, multiplicative.the_field_sync, multiplicative.the_send, multiplicative.the_sync, quantifier.the_field_send, quantifier.the_field_sync, quantifier.the_send, quantifier.the_sync, set_operator.the_field_send, set_operator.the_field_sync, set_operator.the_send, set_operator.the_sync, sign.the_field_send, sign.the_field_sync, sign.the_send, sign.the_sync, pmd_function.the_field_send, pmd_function.the_field_sync, pmd_function.the_send, pmd_function.the_sync)

expr_send : IsSend (expr.the_field).row
expr_send = search (parts_of_queries, crosses, query.crosses, sendable) depth 60 fits 20000

expr_sync : IsSync (expr.the_field).row
expr_sync = search (parts_of_queries, crosses, query.crosses, sendable) depth 60 fits 20000

spelled_send : IsSend (spelled.the_field).row
spelled_send = let a = patterns_send in let b = expr_send in search (crosses, sendable) depth 60 fits 20000

spelled_sync : IsSync (spelled.the_field).row
spelled_sync = let a = patterns_sync in let b = expr_sync in search (crosses, sendable) depth 60 fits 20000

expressions_send : IsSend (expressions.the_field).row
expressions_send = let a = spelled_send in search (crosses, sendable) depth 60 fits 20000

expressions_sync : IsSync (expressions.the_field).row
expressions_sync = let a = spelled_sync in search (crosses, sendable) depth 60 fits 20000

path_pattern_send : IsSend (path_pattern.the_field).row
path_pattern_send = let a = compiled_send in search (crosses, sendable) depth 60 fits 20000

path_pattern_sync : IsSync (path_pattern.the_field).row
path_pattern_sync = let a = compiled_sync in search (crosses, sendable) depth 60 fits 20000

path_patterns_send : IsSend (path_patterns.the_field).row
path_patterns_send = let a = path_pattern_send in search (crosses, sendable) depth 60 fits 20000

path_patterns_sync : IsSync (path_patterns.the_field).row
path_patterns_sync = let a = path_pattern_sync in search (crosses, sendable) depth 60 fits 20000

rule_sync : IsSync (rule.the_field).row
rule_sync = let a = expressions_send in let b = expressions_sync in let d = path_patterns_send in let e = path_patterns_sync in search (crosses, sendable) depth 60 fits 20000

pub rule_set_sync : IsSync (rule_set.the_field).row
rule_set_sync = let a = rule_sync in search (crosses, sendable) depth 60 fits 20000

pub grammar_sync : IsSync (well_formed.the_field).row
grammar_sync = search (plan.the_field_sync, crosses, item.crosses, sendable) depth 60 fits 20000

pub key_sync : IsSync (key.the_field).row
key_sync = search (crosses, sendable) depth 60 fits 20000

-- what a run has at hand, for `search`
pub ruleset run_crosses = (rule_set_sync, grammar_sync, key_sync, found.the_field_sync, found.the_sync, text.the_send, text.the_sync, crosses, sendable)
