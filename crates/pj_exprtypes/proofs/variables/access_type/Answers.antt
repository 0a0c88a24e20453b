use Rattle.std.proofs.Common.{ap, rules}
use Rattle.std.specs.Prelude.{Ok}
use Rattle.pj_names.proofs.AskingLaws.{asks-refused, asks-return, asks-then}
use Rattle.pj_exprtypes.proofs.variables.access_type.Goals as goal

pub returns-in_err-meant-clause-asks : goal.returns-in_err-meant-clause-asks
returns-in_err-meant-clause-asks g c =
    let asked = rw (c.first_word.ensures, c.tree.ensures) at c.in_err-meant.ensures.asks in
    asks-refused _ asked (search rules)

pub returns-clause-asks : goal.returns-clause-asks
returns-clause-asks g c =
    let asked = rw (c.first_word.ensures, c.tree.ensures) at c.in_ok-meant.ensures.asks in
    asks-then _ asked (asks-return (ap (λ found. Ok found) c.meant_type.ensures.value))
