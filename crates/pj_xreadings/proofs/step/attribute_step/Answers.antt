use Rattle.std.proofs.Common.{◌∙◌, ap}
use Rattle.pj_xexpressions.specs.Trees.{AttributeStep, node}
use Rattle.pj_xreadings.proofs.StepForms.{other_alike}
use Rattle.pj_xreadings.proofs.TreeForms.{tree_of_attribute_step}
use Rattle.pj_xreadings.proofs.step.attribute_step.Goals as goal

pub returns : goal.returns
returns c =
    let predicates = c.in_ok-predicates.predicates in
    let trees = tree_of_attribute_step c.args.test predicates ∙ ap (node (AttributeStep c.args.test)) c.in_ok-predicates.ensures.exprs in
    c.other.ensures ∙ other_alike _ _ _ _ trees c.in_ok-predicates.ensures.names
