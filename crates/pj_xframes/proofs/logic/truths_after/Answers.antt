use Rattle.std.proofs.Common.{Bool, Result, map, sym, ◌∙◌}
use Rattle.std.specs.Prelude.{if◌then◌else◌}
use Rattle.pj_xvalue.specs.declared.fault.XCode.{XCode}
use Rattle.pj_xvalue.specs.Boolean.{effective_boolean}
use Rattle.pj_xvalue.specs.Items.{values_of}
use Rattle.pj_xsteps.specs.Denotes.{denotes, here}
use Rattle.pj_xsteps.specs.Means.{◌>>=◌, decided, decides, give, judged, one_boolean}
use Rattle.pj_xframes.specs.Scopes.{variables_of}
use Rattle.pj_xframes.proofs.ListGoals.{goes-else, goes-made, goes-then}
use Rattle.pj_xframes.proofs.logic.truths_after.Goals as goal

pub returns-then-decides-clause-goes : goal.returns-then-decides-clause-goes
returns-then-decides-clause-goes c = λ a reply at s.
    let rest = decided c.args.quantifier (here at (variables_of s)) (map (denotes a reply) c.args.parts.now) in
    goes-made a reply at s at s c.boolean.result
    (λ (made : Result Bool XCode). judged made >>= λ truth. if decides c.args.quantifier truth then give (one_boolean truth) else rest)
    (effective_boolean (values_of c.args.value.now)) c.in_ok-truth.truth c.in_ok-truth.ensures
    (goes-then a reply at s at s c.boolean.result (decides c.args.quantifier c.in_ok-truth.truth) (give (one_boolean c.in_ok-truth.truth)) rest (sym c.decides.ensures ∙ c.if-decides.true)
    (c.boolean.ensures.goes a reply at s))

pub returns-clause-goes : goal.returns-clause-goes
returns-clause-goes c = λ a reply at s.
    let rest = decided c.args.quantifier (here at (variables_of s)) (map (denotes a reply) c.args.parts.now) in
    goes-made a reply at s at s c.truths.result
    (λ (made : Result Bool XCode). judged made >>= λ truth. if decides c.args.quantifier truth then give (one_boolean truth) else rest)
    (effective_boolean (values_of c.args.value.now)) c.in_ok-truth.truth c.in_ok-truth.ensures
    (goes-else a reply at s at s c.truths.result (decides c.args.quantifier c.in_ok-truth.truth) (give (one_boolean c.in_ok-truth.truth)) rest (sym c.decides.ensures ∙ c.if-decides.false)
    (c.truths.ensures.goes a reply at s))
