use Rattle.pj_names.proofs.AskingLaws.{asks-then}
use Rattle.pj_file_oracle.proofs.anonymous.by_node.Goals as goal

pub returns : goal.returns
returns g c = asks-then _ c.in_ok-ty.ensures c.by_type.ensures
