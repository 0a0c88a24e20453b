use Rattle.std.proofs.Common.{ap}
use Rattle.std.specs.Prelude.{Some}
use Rattle.pj_names.specs.JavaType.{Unknown}
use Rattle.pj_calls.specs.Candidates.{candidates_by}
use Rattle.pj_calls.proofs.laws.unknown_receivers.Goals as goal

pub returns : goal.returns
returns c = λ t n is. ap (λ kind. candidates_by t n kind (Some Unknown)) is
