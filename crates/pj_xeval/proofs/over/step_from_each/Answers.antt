use Rattle.std.proofs.Common.{◌++◌, sym, ap, subst, ◌∙◌, arith, length, take, List}
use Rattle.std.proofs.lemmas.List.{map-append, take_all}
use Rattle.pj_xvalue.specs.declared.item.Item.{Item}
use Rattle.pj_xvalue.specs.Items.{ItemValue, value_of_item, values_of}
use Rattle.pj_xvalue.specs.OfTree.{OfTree}
use Rattle.pj_xvalue.proofs.OfTreeLaws.{of_tree-at}
use Rattle.pj_xeval.specs.Over.{stepped_at_each}
use Rattle.pj_xeval.proofs.ManySteps.{each_more, each-step-of_tree}
use Rattle.pj_xeval.proofs.over.step_from_each.Goals as goal

pub step_from-requires : goal.step_from-requires
step_from-requires c = of_tree-at (length c.args.tree.now.nodes) c.args.items.now c.loop-item.item-index c.item-item.result (omega arith) c.item-item.is c.requires

pub loop-item-preserved : goal.loop-item-preserved
loop-item-preserved c =
    let t = c.args.tree.now in
    let before = stepped_at_each t c.args.along c.args.test.now (values_of (take c.loop-item.item-index c.args.items.now)) in
    ap values_of c.in_ok-append.ensures.ok ∙ map-append value_of_item c.loop-item.found c.in_ok-more.more
    ∙ ap (λ (l : List ItemValue). l ++ values_of c.in_ok-more.more) c.loop-item.invariant
    ∙ ap (λ (l : List ItemValue). before ++ l) c.in_ok-more.ensures
    ∙ sym (each_more t c.args.along c.args.test.now c.args.items.now c.loop-item.item-index c.item-item.result (omega arith) c.item-item.is)

pub returns-clause-of_tree : goal.returns-clause-of_tree
returns-clause-of_tree c =
    let t = c.args.tree.now in
    subst (λ (xs : List ItemValue). OfTree (length t.nodes) xs)
    (sym (c.loop-item.invariant ∙ ap (λ (xs : List Item). stepped_at_each t c.args.along c.args.test.now (values_of xs)) (take_all c.loop-item.item-index c.args.items.now (omega arith))))
    (each-step-of_tree t c.args.along c.args.test.now (values_of c.args.items.now) c.len-count.ensures.tree.some c.requires)
