use Rattle.std.proofs.Common.{Result, Option, ℤ}
use Rattle.pj_xvalue.specs.declared.fault.XCode.{XCode}
use Rattle.pj_xvalue.specs.Items.{values_of}
use Rattle.pj_xvalue.specs.Arguments.{and_then}
use Rattle.pj_xsteps.specs.Arithmetic.{sum as result_of, number_items}
use Rattle.pj_xsteps.specs.Context.{around}
use Rattle.pj_xsteps.specs.Denotes.{behind, denotes, with_term}
use Rattle.pj_xsteps.specs.Means.{◌>>=◌, chain, give, judged}
use Rattle.pj_xsteps.specs.Operands.{operand}
use Rattle.pj_xsteps.specs.Parts.{operated_by}
use Rattle.pj_xframes.specs.Scopes.{variables_of}
use Rattle.pj_xframes.proofs.ListGoals.{goes-made, made-then}
use Rattle.pj_xframes.proofs.numbers.terms_after.Goals as goal

pub returns-clause-goes : goal.returns-clause-goes
returns-clause-goes g c = λ reply at s.
    let a = around c.args.setting.now.tree.now (g.A.Attributes.attribute_of c.args.setting.now.facts.now) (g.A.Attributes.names_of c.args.setting.now.facts.now) c.args.setting.now.patterns.now in
    goes-made a reply at s at s c.terms.result
    (λ (made : Result (Option ℤ) XCode). (judged made >>= λ more. chain (behind at (variables_of s)) (with_term a) (operated_by (denotes a reply) c.args.parts.now) more) >>= λ all. give (number_items all))
    (and_then (operand a (values_of c.args.value.now)) (λ term. result_of c.args.operator c.args.total term)) c.in_ok-total.total
    (made-then (operand a (values_of c.args.value.now)) c.in_ok-term.term (λ term. result_of c.args.operator c.args.total term) c.in_ok-total.total c.in_ok-term.ensures c.in_ok-total.ensures)
    (c.terms.ensures.goes a reply at s)
