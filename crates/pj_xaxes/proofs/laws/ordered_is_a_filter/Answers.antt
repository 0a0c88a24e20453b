use Rattle.pj_xaxes.proofs.Ordered.{ordered-filter}
use Rattle.pj_xaxes.proofs.laws.ordered_is_a_filter.Goals as goal

pub returns : goal.returns
returns c = λ items all are all_are up inside. ordered-filter items all are all_are up inside
