use Rattle.std.proofs.Common.{rules}
use Rattle.pj_names.proofs.AskingLaws.{asks-then, asks-refused, asks-return, asks-stop}
use Rattle.pj_members.proofs.receiver_methods.methods_of_receiver.Goals as goal

pub returns-in_err-declared : goal.returns-in_err-declared
returns-in_err-declared g c = asks-refused _ c.in_err-declared.ensures (search rules)

pub returns-in_err-given : goal.returns-in_err-given
returns-in_err-given g c = asks-then _ c.in_ok-declared.ensures (asks-refused _ c.in_err-given.ensures (search rules))

pub returns-in_err-left : goal.returns-in_err-left
returns-in_err-left g c = asks-then _ c.in_ok-declared.ensures (asks-then _ c.in_ok-given.ensures (asks-stop (search rules)))

pub returns : goal.returns
returns g c = asks-then _ c.in_ok-declared.ensures (asks-then _ c.in_ok-given.ensures (asks-return (search rules)))
