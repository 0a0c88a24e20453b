use Rattle.std.proofs.Common.{◌++◌, sym, ap, ◌∙◌, arith, length, List}
use Rattle.pj_xvalue.specs.Items.{ItemValue, value_of_item}
use Rattle.pj_xvalue.proofs.OfTreeLaws.{of_tree-at}
use Rattle.pj_xsteps.specs.Context.{around}
use Rattle.pj_xsteps.specs.Operands.{valued}
use Rattle.pj_xsteps.proofs.Values.{valued_more}
use Rattle.pj_xsteps.proofs.operands.with_values.Goals as goal

pub push_valued-requires : goal.push_valued-requires
push_valued-requires g c = of_tree-at (length c.args.setting.now.tree.now.nodes) c.args.items.now c.loop-item.item-index c.item-item.result (omega arith) c.item-item.is c.requires

pub loop-item-preserved : goal.loop-item-preserved
loop-item-preserved g c =
    let a = around c.args.setting.now.tree.now (g.A.Attributes.attribute_of c.args.setting.now.facts.now) (g.A.Attributes.names_of c.args.setting.now.facts.now) c.args.setting.now.patterns.now in
    let of = of_tree-at (length c.args.setting.now.tree.now.nodes) c.args.items.now c.loop-item.item-index c.item-item.result (omega arith) c.item-item.is c.requires in
    record {
      value = c.in_ok-push_valued.ensures.value ∙ ap (λ (l : List ItemValue). l ++ valued a (value_of_item c.item-item.result)) c.loop-item.invariant.value
          ∙ sym (valued_more a c.args.items.now c.loop-item.item-index c.item-item.result (omega arith) c.item-item.is);
      no_attribute = c.in_ok-push_valued.ensures.no_attribute c.loop-item.invariant.no_attribute;
      of_tree = c.in_ok-push_valued.ensures.of_tree _ of c.loop-item.invariant.of_tree;
    }
