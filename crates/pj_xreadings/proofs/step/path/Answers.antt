use Rattle.std.proofs.Common.{◌≡◌, ◌∙◌, ap, map}
use Rattle.pj_xexpressions.specs.Trees.{Path, node}
use Rattle.pj_xreadings.specs.Operands.{names_of, trees_of}
use Rattle.pj_xreadings.specs.Seen.{seen_reading}
use Rattle.pj_xreadings.proofs.StepForms.{other_alike, path_all}
use Rattle.pj_xreadings.proofs.TreeForms.{tree_of_path}
use Rattle.pj_xreadings.proofs.step.path.Goals as goal

pub returns-in_ok-steps-in-Err : goal.returns-in_ok-steps-in-Err
returns-in_ok-steps-in-Err c =
    let steps = c.args.steps in
    let same : c.in-Err.steps ≡ steps = c.in-Err.ensures.0 in
    let trees = tree_of_path c.in_ok-steps-in-Err.steps ∙ ap (node Path) (c.in_ok-steps-in-Err.ensures.exprs ∙ ap (λ l. trees_of (map seen_reading l)) same) in
    let names = c.in_ok-steps-in-Err.ensures.names ∙ ap (λ l. names_of (map seen_reading l)) same in
    c.other.ensures ∙ other_alike _ _ _ _ trees names ∙ path_all steps c.in-Err.ensures.1
