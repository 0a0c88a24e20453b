use Rattle.std.proofs.Common.{◌≡◌, ◌++◌, ◌∷◌, [], ◌∙◌, ap, sym, subst, map, take, length, arith, List}
use Rattle.pj_xvalue.specs.declared.item.Item.{Item}
use Rattle.pj_xvalue.specs.Items.{ItemValue, values_of}
use Rattle.pj_xvalue.specs.OfTree.{OfTree, ArgumentsOfTree}
use Rattle.pj_xvalue.proofs.OfTreeLaws.{arguments-more}
use Rattle.pj_xsteps.specs.Context.{around}
use Rattle.pj_xsteps.specs.Operands.{with_values}
use Rattle.pj_xsteps.proofs.OfTree.{arguments-at}
use Rattle.pj_xsteps.proofs.Values.{pushed, arguments_more}
use Rattle.pj_xsteps.proofs.calling.valued_behind.Goals as goal

pub with_values-requires : goal.with_values-requires
with_values-requires g c =
    let n = length c.args.setting.now.tree.now.nodes in
    subst (λ (xs : List Item). OfTree n (values_of xs)) (sym c.as_slice.ensures) (arguments-at n c.args.arguments.now c.loop-argument.argument-index c.argument-item.result (omega arith) c.argument-item.is c.requires.arguments)

pub loop-argument-preserved : goal.loop-argument-preserved
loop-argument-preserved g c =
    let n = length c.args.setting.now.tree.now.nodes in
    let a = around c.args.setting.now.tree.now (g.A.Attributes.attribute_of c.args.setting.now.facts.now) (g.A.Attributes.names_of c.args.setting.now.facts.now) c.args.setting.now.patterns.now in
    let all = c.loop-argument.all in
    let v = c.in_ok-values.values in
    let is = pushed all _ v c.in_ok-push.ensures.ok in
    let same : values_of v ≡ with_values a (values_of c.argument-item.result) = c.in_ok-values.ensures.value ∙ ap (λ (xs : List Item). with_values a (values_of xs)) c.as_slice.ensures in
    record {
      value = is ∙ ap (λ (l : List (List ItemValue)). l ++ values_of v ∷ []) c.loop-argument.invariant.value
          ∙ ap (λ (w : List ItemValue). (map values_of c.args.before ++ map (with_values a) (map values_of (take c.loop-argument.argument-index c.args.arguments.now))) ++ w ∷ []) same
          ∙ sym (arguments_more a (map values_of c.args.before) c.args.arguments.now c.loop-argument.argument-index c.argument-item.result (omega arith) c.argument-item.is);
      of_tree = subst (λ (l : List (List ItemValue)). ArgumentsOfTree n l) (sym is) (arguments-more n (map values_of all) (values_of v) c.loop-argument.invariant.of_tree c.in_ok-values.ensures.of_tree);
    }
