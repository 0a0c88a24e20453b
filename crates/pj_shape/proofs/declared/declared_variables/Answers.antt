use Rattle.std.proofs.Common.{arith}
use Rattle.pj_shape.specs.NameLists.{has_word, has_place}
use Rattle.pj_shape.specs.Marks.{variables_in}
use Rattle.pj_shape.proofs.Names.{one_more_node}
use Rattle.pj_shape.proofs.declared.declared_variables.Goals as goal

pub loop-number-preserved : goal.loop-number-preserved
loop-number-preserved c = record {
  within = let h = c.loop-number-test.true in omega arith;
  found = λ name.
      one_more_node c.args.text.now c.args.tokens.now name c.args.nodes.now c.loop-number.number c.node_at.result (has_word name c.loop-number.names.keys) (has_word name c.add_variable.new.names.keys)
      (has_place c.args.text.now c.args.tokens.now name (variables_in c.args.nodes.now)) c.node_at.ensures.value (c.in_ok-add_variable.ensures.value name) (c.loop-number.invariant.found name);
}
