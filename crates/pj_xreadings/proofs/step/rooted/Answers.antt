use Rattle.std.proofs.Common.{◌≡◌, ◌∙◌, [], ◌∷◌, ap, map}
use Rattle.pj_xexpressions.specs.Trees.{Path, Tree, Root, alone, node}
use Rattle.pj_xreadings.specs.Operands.{Operand, names_of, other, trees_of}
use Rattle.pj_xreadings.specs.Seen.{seen_reading}
use Rattle.pj_xreadings.proofs.StepForms.{other_alike}
use Rattle.pj_xreadings.proofs.TreeForms.{tree_of_path, tree_of_root}
use Rattle.pj_xreadings.proofs.step.rooted.Goals as goal

pub returns : goal.returns
returns c =
    let steps = map seen_reading c.args.steps in
    let root : seen_reading c.bare.result ≡ other (alone Root) [] = c.bare.ensures ∙ ap (λ (t : Tree). other t []) tree_of_root in
    let all : map seen_reading c.in_ok-all.all ≡ other (alone Root) [] ∷ steps = ap (map seen_reading) c.in_ok-all.ensures ∙ ap (λ (a : Operand). a ∷ steps) root in
    let trees = tree_of_path c.in_ok-steps.steps ∙ ap (node Path) (c.in_ok-steps.ensures.exprs ∙ ap trees_of all) in
    c.other.ensures ∙ other_alike _ _ _ _ trees (c.in_ok-steps.ensures.names ∙ ap names_of all)
