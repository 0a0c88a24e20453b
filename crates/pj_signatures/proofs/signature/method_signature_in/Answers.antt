use Rattle.pj_signatures.specs.Seen.{seen_method}
use Rattle.pj_names.specs.JavaType.{bound_types}
use Rattle.pj_signatures.proofs.Exact.{method_exactly}
use Rattle.pj_signatures.proofs.signature.method_signature_in.Goals as goal

pub returns-clause-spelled : goal.returns-clause-spelled
returns-clause-spelled c = method_exactly (bound_types c.args.around.now) c.args.text.now (seen_method c.in_ok-found.found) c.in_ok-found.ensures
