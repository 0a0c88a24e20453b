use Rattle.rows_evaluation.proofs.evaluation.put_expression.Goals as goal

pub put_at_document-requires-clause-variables : goal.put_at_document-requires-clause-variables
put_at_document-requires-clause-variables c = c.in_ok-variables.ensures
