use Rattle.std.proofs.Common.{◌++◌, ◌∙◌, ap, sym, filter, append_assoc, List}
use Rattle.std.proofs.lemmas.List.Elements.{filter-append}
use Rattle.pj_xvalue.specs.Items.{ItemValue, values_of}
use Rattle.pj_xaxes.specs.Axes.{axis_nodes}
use Rattle.pj_xsteps.specs.Steps.{passes, elements, document_behind}
use Rattle.pj_xsteps.proofs.axis_step.push_of_element.Goals as goal

pub returns : goal.returns
returns c =
    let t = c.args.tree.now in
    let p = passes t c.args.test.now in
    let es = elements (axis_nodes t c.args.along c.args.n) in
    let d = document_behind c.args.along c.args.n in
    c.in_ok-push_document_behind.ensures t ∙ ap (λ (l : List ItemValue). l ++ filter p d) c.in_ok-push_elements.ensures
    ∙ append_assoc (values_of c.args.items.now) (filter p es) (filter p d) ∙ ap (λ (l : List ItemValue). values_of c.args.items.now ++ l) (sym (filter-append p es d))
