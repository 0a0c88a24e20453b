use Rattle.pj_signatures.specs.Seen.{seen_method}
use Rattle.pj_signatures.proofs.Exact.{method_descriptor_exactly}
use Rattle.pj_signatures.proofs.signature.method_descriptor.Goals as goal

pub returns-clause-spelled : goal.returns-clause-spelled
returns-clause-spelled c = method_descriptor_exactly c.args.text.now (seen_method c.in_ok-found.found) c.in_ok-found.ensures
