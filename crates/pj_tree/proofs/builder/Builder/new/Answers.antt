use Rattle.pj_tree.proofs.builder.Builder.new.Goals as goal
use Rattle.pj_tree.proofs.NestedLaws.{writes_preorder}
use Rattle.pj_tree.proofs.Growth.{started_is}

pub invariant_of-result : goal.invariant_of-result
invariant_of-result c = rw (c.new.ensures.items, c.new-2.ensures.items) started_is

pub returns-clause-calls : goal.returns-clause-calls
returns-clause-calls c = writes_preorder c.args.text.now
