use Rattle.std.proofs.Common.{◌≡◌, ◌∙◌, ◌∷◌, ◌++◌, ap, sym, map}
use Rattle.pj_xexpressions.specs.Trees.{Filter, node, tree_of}
use Rattle.pj_xreadings.specs.Operands.{names_of}
use Rattle.pj_xreadings.specs.Seen.{seen_mentions, seen_reading}
use Rattle.pj_xreadings.proofs.StepForms.{filter_all, other_alike}
use Rattle.pj_xreadings.proofs.TreeForms.{tree_of_filter}
use Rattle.pj_xreadings.proofs.step.filtered.Goals as goal

pub returns : goal.returns
returns c =
    let primary = seen_reading c.args.primary in
    let predicates = map seen_reading c.args.predicates in
    let trees =
    tree_of_filter c.in_ok-primary.primary c.in_ok-predicates.predicates
    ∙ ap (λ t. node Filter (t ∷ map tree_of c.in_ok-predicates.predicates.items)) c.in_ok-primary.ensures.expr
    ∙ ap (λ l. node Filter (primary.tree ∷ l)) c.in_ok-predicates.ensures.exprs in
    let names : seen_mentions c.in_ok-all.all.items ≡ primary.names ++ names_of predicates =
    c.in_ok-all.ensures ∙ ap (λ l. l ++ seen_mentions c.in_ok-predicates.behind.items) c.in_ok-primary.ensures.names ∙ ap (λ l. primary.names ++ l) c.in_ok-predicates.ensures.names in
    c.other.ensures ∙ other_alike _ _ _ _ trees names ∙ filter_all primary c.args.predicates (sym c.is_empty.ensures ∙ c.if-is_empty.false)
