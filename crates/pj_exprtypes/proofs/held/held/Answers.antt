use Rattle.pj_names.specs.JavaType.{java_type}
use Rattle.pj_names.proofs.Held.{asks-held}
use Rattle.pj_exprtypes.proofs.held.held.Goals as goal

pub returns : goal.returns
returns g c = λ meaning is_held. asks-held meaning (java_type c.args.ty.now) c.args.names.now is_held c.asked_again.ensures
