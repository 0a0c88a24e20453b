use Rattle.pj_workers.proofs.FileLaws.{no_tree}
use Rattle.pj_workers.proofs.laws.files_without_tree_have_one_error.Goals as goal

pub returns : goal.returns
returns c = no_tree
