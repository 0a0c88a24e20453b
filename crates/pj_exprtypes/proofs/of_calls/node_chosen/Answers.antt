use Rattle.std.proofs.Common.{rules}
use Rattle.pj_names.proofs.AskingLaws.{asks-refused, asks-then}
use Rattle.pj_exprtypes.proofs.of_calls.node_chosen.Goals as goal

pub returns-in_err-receiver-clause-asks : goal.returns-in_err-receiver-clause-asks
returns-in_err-receiver-clause-asks g c = asks-refused _ c.in_err-receiver.ensures.asks (search rules)

pub returns-in_err-found-clause-asks : goal.returns-in_err-found-clause-asks
returns-in_err-found-clause-asks g c = asks-then _ c.in_ok-receiver.ensures.asks (asks-refused _ c.in_err-found.ensures (search rules))

pub returns-clause-asks : goal.returns-clause-asks
returns-clause-asks g c = asks-then _ c.in_ok-receiver.ensures.asks (asks-then _ c.in_ok-found.ensures c.chosen_with.ensures.asks)
