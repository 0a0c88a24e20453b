use Rattle.std.specs.Prelude.{length}
use Rattle.rows_evaluation.proofs.evaluation.put_at_document.Goals as goal

pub evaluate-given-requires-clause-variables : goal.evaluate-given-requires-clause-variables
evaluate-given-requires-clause-variables c = c.requires.variables (length c.args.tree.now.nodes)
