use Rattle.std.proofs.Common.{rules}
use Rattle.pj_names.proofs.AskingLaws.{asks-refused}
use Rattle.pj_calls.proofs.choosing.chosen_among.Goals as goal

pub returns-in_err-choice : goal.returns-in_err-choice
returns-in_err-choice g c = asks-refused _ c.in_err-choice.ensures.asks (search rules)
