use Rattle.pj_signatures.specs.Seen.{seen_option}
use Rattle.pj_signatures.proofs.Exact.{field_exactly}
use Rattle.pj_signatures.proofs.signature.descriptor.Goals as goal

pub returns-clause-spelled : goal.returns-clause-spelled
returns-clause-spelled c = field_exactly c.args.text.now (seen_option c.in_ok-found.found) c.in_ok-found.ensures
