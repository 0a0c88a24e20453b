use Rattle.std.proofs.Common.{Bool, Result}
use Rattle.pj_xvalue.specs.declared.fault.XCode.{XCode}
use Rattle.pj_xvalue.specs.Comparison.{general_comparison}
use Rattle.pj_xvalue.specs.Items.{values_of}
use Rattle.pj_xsteps.specs.Context.{around}
use Rattle.pj_xsteps.specs.Means.{◌>>=◌, give, judged, one_boolean}
use Rattle.pj_xsteps.specs.Operands.{with_values}
use Rattle.pj_xframes.proofs.ListGoals.{goes-made}
use Rattle.pj_xframes.proofs.logic.comparison.Goals as goal

pub returns-clause-goes : goal.returns-clause-goes
returns-clause-goes g c = λ reply at s.
    let a = around c.args.setting.now.tree.now (g.A.Attributes.attribute_of c.args.setting.now.facts.now) (g.A.Attributes.names_of c.args.setting.now.facts.now) c.args.setting.now.patterns.now in
    goes-made a reply at s at s c.boolean.result
    (λ (made : Result Bool XCode). judged made >>= λ truth. give (one_boolean truth))
    (general_comparison c.args.op (with_values a (values_of c.args.left.now)) (with_values a (values_of c.args.value.now))) c.in_ok-truth.truth c.in_ok-truth.ensures
    (c.boolean.ensures.goes a reply at s)
