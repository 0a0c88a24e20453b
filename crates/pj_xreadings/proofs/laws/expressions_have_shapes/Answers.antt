use Rattle.pj_xreadings.proofs.SameShape.{expression_has_shape}
use Rattle.pj_xreadings.proofs.laws.expressions_have_shapes.Goals as goal

pub returns : goal.returns
returns c = expression_has_shape
