use Rattle.std.proofs.Common.{Option, ap, sym}
use Rattle.std.specs.Prelude.{Ok}
use Rattle.pj_names.specs.JavaType.{JavaType}
use Rattle.pj_names.proofs.AskingLaws.{asks-return, asks-then}
use Rattle.pj_scopes.proofs.Turns.{asks-as}
use Rattle.pj_calls.specs.Candidates.{candidates_of}
use Rattle.pj_exprtypes.proofs.variables.call_with.Goals as goal

pub returns-clause-asks : goal.returns-clause-asks
returns-clause-asks g c =
    asks-then _ (asks-as (ap (λ (receiver : Option JavaType). candidates_of c.args.file.now c.args.n receiver) (sym c.receiver_in.ensures)) c.in_ok-found.ensures)
    (asks-return (ap (λ found. Ok found) c.typing_of.ensures.value))
