use Rattle.std.proofs.Common.{◌∙◌, ◌∷◌, [], ◌++◌, ap, sym, append_assoc}
use Rattle.pj_xexpressions.specs.Trees.{If, node, tree_of}
use Rattle.pj_xreadings.specs.Seen.{seen_mentions, seen_reading}
use Rattle.pj_xreadings.proofs.StepForms.{other_alike}
use Rattle.pj_xreadings.proofs.TreeForms.{tree_of_if}
use Rattle.pj_xreadings.proofs.clause.choice.Goals as goal

pub returns : goal.returns
returns c =
    let test = seen_reading c.args.test in
    let yes = seen_reading c.args.yes in
    let no = seen_reading c.args.no in
    let first = seen_mentions c.in_ok-test.first.items in
    let second = seen_mentions c.in_ok-yes.second.items in
    let third = seen_mentions c.in_ok-no.third.items in
    let trees =
    tree_of_if c.in_ok-test.test c.in_ok-yes.yes c.in_ok-no.no
    ∙ ap (λ t. node If (t ∷ tree_of c.in_ok-yes.yes.value ∷ tree_of c.in_ok-no.no.value ∷ [])) c.in_ok-test.ensures.expr
    ∙ ap (λ t. node If (test.tree ∷ t ∷ tree_of c.in_ok-no.no.value ∷ [])) c.in_ok-yes.ensures.expr
    ∙ ap (λ t. node If (test.tree ∷ yes.tree ∷ t ∷ [])) c.in_ok-no.ensures.expr in
    let names =
    c.in_ok-names.ensures
    ∙ ap (λ l. first ++ l) c.in_ok-before.ensures
    ∙ ap (λ l. l ++ (second ++ third)) c.in_ok-test.ensures.names
    ∙ ap (λ l. test.names ++ (l ++ third)) c.in_ok-yes.ensures.names
    ∙ ap (λ l. test.names ++ (yes.names ++ l)) c.in_ok-no.ensures.names
    ∙ sym (append_assoc test.names yes.names no.names) in
    c.other.ensures ∙ other_alike _ _ _ _ trees names
