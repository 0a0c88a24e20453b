use Rattle.pj_signatures.specs.Seen.{seen_option}
use Rattle.pj_names.specs.JavaType.{bound_types}
use Rattle.pj_signatures.proofs.Exact.{type_exactly}
use Rattle.pj_signatures.proofs.signature.field_signature_in.Goals as goal

pub returns-clause-spelled : goal.returns-clause-spelled
returns-clause-spelled c = type_exactly (bound_types c.args.around.now) c.args.text.now (seen_option c.in_ok-found.found) c.in_ok-found.ensures
