use Rattle.std.proofs.Common.{◌≡◌, ◌∙◌, ap, map, [], rules}
use Rattle.pj_xexpressions.specs.Trees.{Comma, node, tree_of}
use Rattle.pj_xreadings.specs.Steps.{called}
use Rattle.pj_xreadings.proofs.TreeForms.{tree_of_comma}
use Rattle.pj_xreadings.proofs.call.called.Goals as goal

pub returns-in-Some : goal.returns-in-Some
returns-in-Some c = c.call_of.ensures ∙ ap (λ o. called o (map tree_of c.args.arguments.items)) c.in-Some.ensures

pub returns-in-None : goal.returns-in-None
returns-in-None c =
    let items : c.new.result.items ≡ [] = search rules in
    tree_of_comma c.new.result ∙ ap (λ l. node Comma (map tree_of l)) items ∙ ap (λ o. called o (map tree_of c.args.arguments.items)) c.in-None.ensures
