use Rattle.std.proofs.Common.{rules, subst}
use Rattle.pj_names.proofs.AskingLaws.{asks-refused, asks-stop, asks-then}
use Rattle.pj_names.specs.JavaType.{java_types}
use Rattle.pj_names.specs.Told.{Asks, seen}
use Rattle.pj_types.specs.Supertypes.{Listed}
use Rattle.pj_members.specs.Receivers.{given_methods, head_of}
use Rattle.pj_types.specs.Members.{all_methods}
use Rattle.pj_members.proofs.receiver_methods.given_of_receiver.Goals as goal

pub returns-in_err-known : goal.returns-in_err-known
returns-in_err-known g c = asks-refused _ c.in_err-known.ensures (search rules)

pub returns-in_err-head : goal.returns-in_err-head
returns-in_err-head g c = asks-then _ c.in_ok-known.ensures (asks-stop (search rules))

pub returns : goal.returns
returns g c =
    let told = g.O.Oracle.tells c.look_up.new.oracle in
    let told_then = g.O.Oracle.tells c.given_methods.new.oracle in
    let here = subst (λ (head : Listed). Asks (given_methods c.args.name.now head) told told_then (seen all_methods c.given_methods.result)) c.in_ok-head.ensures c.given_methods.ensures in
    asks-then (λ known. given_methods c.args.name.now (head_of c.args.class.now (java_types c.args.arguments.now) known)) c.in_ok-known.ensures here
