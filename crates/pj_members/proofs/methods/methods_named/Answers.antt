use Rattle.std.proofs.Common.{rules}
use Rattle.pj_names.proofs.AskingLaws.{asks-then, asks-refused, asks-return, asks-stop}
use Rattle.pj_members.proofs.methods.methods_named.Goals as goal

pub returns-in_err-found : goal.returns-in_err-found
returns-in_err-found g c = asks-then _ c.in_ok-types.ensures (asks-refused _ c.in_err-found.ensures (search rules))

pub returns-in_err-left : goal.returns-in_err-left
returns-in_err-left g c = asks-then _ c.in_ok-types.ensures (asks-then _ c.in_ok-found.ensures (asks-stop (search rules)))

pub returns : goal.returns
returns g c = asks-then _ c.in_ok-types.ensures (asks-then _ c.in_ok-found.ensures (asks-return (search rules)))
