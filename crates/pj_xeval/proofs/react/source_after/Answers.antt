use Rattle.pj_xvalue.specs.Items.{values_of}
use Rattle.pj_xeval.proofs.Arms.{goes-source}
use Rattle.pj_xeval.proofs.react.source_after.Goals as goal

pub returns-in-For-clause-goes : goal.returns-in-For-clause-goes
returns-in-For-clause-goes c = λ a reply at. goes-source a reply c.args.binding _ c.args.binder at c.args.scope.now c.for_over.new.scope (values_of c.args.value) c.for_over.result c.in-For.is (c.for_over.ensures.goes a reply at)

pub returns-in-For-clause-of_tree : goal.returns-in-For-clause-of_tree
returns-in-For-clause-of_tree c = λ n h. c.for_over.ensures.of_tree n h

pub returns-in-For-clause-scope : goal.returns-in-For-clause-scope
returns-in-For-clause-scope c = λ n h k. c.for_over.ensures.scope n h k

pub returns-in-Quantified-clause-goes : goal.returns-in-Quantified-clause-goes
returns-in-Quantified-clause-goes c = λ a reply at. goes-source a reply c.args.binding _ c.args.binder at c.args.scope.now c.quantified_over.new.scope (values_of c.args.value) c.quantified_over.result c.in-Quantified.is (c.quantified_over.ensures.goes a reply at)

pub returns-in-Quantified-clause-of_tree : goal.returns-in-Quantified-clause-of_tree
returns-in-Quantified-clause-of_tree c = λ n h. c.quantified_over.ensures.of_tree n h

pub returns-in-Quantified-clause-scope : goal.returns-in-Quantified-clause-scope
returns-in-Quantified-clause-scope c = λ n h k. c.quantified_over.ensures.scope n h k

pub returns-in-Let-clause-goes : goal.returns-in-Let-clause-goes
returns-in-Let-clause-goes c = λ a reply at. goes-source a reply c.args.binding _ c.args.binder at c.args.scope.now c.let_after.new.scope (values_of c.args.value) c.let_after.result c.in-Let.is (c.let_after.ensures.goes a reply at)

pub returns-in-Let-clause-of_tree : goal.returns-in-Let-clause-of_tree
returns-in-Let-clause-of_tree c = λ n h. c.let_after.ensures.of_tree n

pub returns-in-Let-clause-scope : goal.returns-in-Let-clause-scope
returns-in-Let-clause-scope c = λ n h k. c.let_after.ensures.scope n h k
