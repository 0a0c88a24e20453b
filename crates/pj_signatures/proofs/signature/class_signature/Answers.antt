use Rattle.pj_signatures.specs.Seen.{seen_class}
use Rattle.pj_signatures.proofs.Exact.{class_exactly}
use Rattle.pj_signatures.proofs.signature.class_signature.Goals as goal

pub returns-clause-spelled : goal.returns-clause-spelled
returns-clause-spelled c = class_exactly c.args.text.now (seen_class c.in_ok-found.found) c.in_ok-found.ensures
