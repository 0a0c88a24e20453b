use Rattle.pj_outside.specs.Doors.{found_at}
use Rattle.pj_cache_store.proofs.Naming.{answer_named}
use Rattle.pj_cache_store.proofs.laws.class_folders_answer_by_name.Goals as goal

pub returns : goal.returns
returns c = λ most folders name. answer_named name (found_at folders name most)
