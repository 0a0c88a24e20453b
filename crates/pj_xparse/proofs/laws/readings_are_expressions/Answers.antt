use Rattle.pj_xparse.proofs.Expressions.{reading_is_expression}
use Rattle.pj_xparse.proofs.laws.readings_are_expressions.Goals as goal

pub returns : goal.returns
returns c = reading_is_expression c.read_expressions_fit.ensures.fits c.read_expressions_fit.ensures.nesting c.expressions_have_shapes.ensures c.nesting_is_least.ensures
