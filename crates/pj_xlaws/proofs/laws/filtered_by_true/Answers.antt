use Rattle.pj_xlaws.proofs.Filters.{filtered}
use Rattle.pj_xlaws.proofs.laws.filtered_by_true.Goals as goal

pub returns : goal.returns
returns c = filtered
