use Rattle.std.proofs.Common.{rules}
use Rattle.pj_names.proofs.AskingLaws.{asks-refused}
use Rattle.pj_exprtypes.proofs.of_calls.node_pair.Goals as goal

pub returns-in_err-found-clause-asks : goal.returns-in_err-found-clause-asks
returns-in_err-found-clause-asks g c = asks-refused _ c.in_err-found.ensures.asks (search rules)
