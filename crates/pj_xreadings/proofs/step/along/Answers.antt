use Rattle.std.proofs.Common.{◌∙◌, ap}
use Rattle.pj_xexpressions.specs.Trees.{Step, node}
use Rattle.pj_xreadings.proofs.StepForms.{other_alike}
use Rattle.pj_xreadings.proofs.TreeForms.{tree_of_step}
use Rattle.pj_xreadings.proofs.step.along.Goals as goal

pub returns : goal.returns
returns c =
    let predicates = c.in_ok-predicates.predicates in
    let trees = tree_of_step c.args.axis c.args.test predicates ∙ ap (node (Step c.args.axis c.args.test)) c.in_ok-predicates.ensures.exprs in
    c.other.ensures ∙ other_alike _ _ _ _ trees c.in_ok-predicates.ensures.names
