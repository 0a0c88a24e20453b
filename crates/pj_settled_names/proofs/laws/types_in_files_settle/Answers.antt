use Rattle.pj_settled_names.proofs.FileWorld.{in_file}
use Rattle.pj_settled_names.proofs.laws.types_in_files_settle.Goals as goal

pub returns : goal.returns
returns g c = λ world tree meaning finite settle. in_file finite tree {m = meaning} settle
