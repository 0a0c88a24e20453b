use Rattle.std.proofs.Common.{ℕ, ◌<◌, List, get_or, length, ap, ◌∙◌, arith}
use Rattle.std.specs.List.{enumerate_from}
use Rattle.std.proofs.lemmas.List.{length-map}
use Rattle.pj_xvalue.specs.Items.{values_of}
use Rattle.pj_xsteps.specs.Steps.{named_attributes}
use Rattle.pj_xsteps.proofs.Values.{named-more}
use Rattle.pj_xsteps.proofs.axis_step.node_attributes.Goals as goal

pub loop-i-preserved : goal.loop-i-preserved
loop-i-preserved g c =
    let value_of = g.A.Attributes.attribute_of c.args.setting.now.facts.now c.args.n in
    let names = g.A.Attributes.names_of c.args.setting.now.facts.now c.args.n in
    let x = c.name_at-name.result.now in
    let whole = named_attributes value_of c.args.test.now c.args.n (enumerate_from 0 names) in
    let within : c.loop-i.i < length names = omega (arith, ap length c.names-names.ensures.value, length-map c.names-names.result.now (λ name. name.now)) in
    named-more value_of c.args.test.now c.args.n names c.loop-i.i x (values_of c.loop-i.items) _ whole within
    (c.name_at-name.ensures ∙ ap (λ (l : List (List ℕ)). get_or l c.loop-i.i x) c.names-names.ensures.value) c.in_ok-push_named.ensures c.loop-i.invariant
