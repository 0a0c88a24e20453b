use Rattle.std.proofs.Common.{◌≡◌, take, length, IsTrue}
use Rattle.pj_xvalue.specs.Items.{values_of, have_no_attribute}
use Rattle.pj_xvalue.specs.OfTree.{OfTree}
use Rattle.pj_xsteps.specs.Context.{around}
use Rattle.pj_xsteps.specs.Operands.{with_values}
use Rattle.pj_xsteps.proofs.operands.with_values.Given as goal

abbrev pub invariant-loop-item : goal.invariant-loop-item
invariant-loop-item g l =
    let around = around l.setting.tree.now (g.A.Attributes.attribute_of l.setting.facts.now) (g.A.Attributes.names_of l.setting.facts.now) l.setting.patterns.now in
    record {
      value : values_of l.values ≡ with_values around (values_of (take l.item-index l.items));
      no_attribute : IsTrue (have_no_attribute (values_of l.values));
      of_tree : OfTree (length l.setting.tree.now.nodes) (values_of l.values);
    }
