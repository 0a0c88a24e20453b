use Rattle.std.proofs.Common.{sym, subst, List, Result}
use Rattle.pj_xvalue.specs.declared.fault.XCode.{XCode}
use Rattle.pj_xvalue.specs.Items.{ItemValue, values_of}
use Rattle.pj_xvalue.specs.Replies.{outcome}
use Rattle.pj_xvalue.specs.Arguments.{IsGiven}
use Rattle.pj_xsteps.specs.Context.{around}
use Rattle.pj_xsteps.proofs.Values.{of_text-some}
use Rattle.pj_xsteps.proofs.calling.call_of_text.Goals as goal

pub returns-in-len1-up-clause-value : goal.returns-in-len1-up-clause-value
returns-in-len1-up-clause-value g c =
    let a = around c.args.setting.now.tree.now (g.A.Attributes.attribute_of c.args.setting.now.facts.now) (g.A.Attributes.names_of c.args.setting.now.facts.now) c.args.setting.now.patterns.now in
    subst (λ (r : Result (List ItemValue) XCode). IsGiven r (outcome values_of c.call_valued.result)) (sym (of_text-some a c.args.function c.args.at.now c.args.arguments.now c.in-len1-up.len_at_least)) c.call_valued.ensures.value
