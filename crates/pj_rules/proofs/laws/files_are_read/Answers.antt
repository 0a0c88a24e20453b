use Rattle.pj_rules.proofs.FilesRead.{of_file}
use Rattle.pj_rules.proofs.MarkupRead.{settled}
use Rattle.pj_rules.proofs.laws.files_are_read.Goals as goal

pub returns : goal.returns
returns c = record { markup = settled; files = λ files path there. of_file settled files path there }
