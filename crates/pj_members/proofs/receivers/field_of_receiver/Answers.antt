use Rattle.std.proofs.Common.{subst}
use Rattle.pj_names.proofs.AskingLaws.{asks-then}
use Rattle.pj_names.specs.JavaType.{java_types}
use Rattle.pj_names.specs.Told.{Asks, seen}
use Rattle.pj_types.specs.Supertypes.{Listed}
use Rattle.pj_members.specs.Receivers.{field_on_list, first_from, head_of}
use Rattle.pj_members.specs.Seen.{seen_field}
use Rattle.pj_members.proofs.receivers.field_of_receiver.Goals as goal

pub returns : goal.returns
returns g c =
    let told = g.O.Oracle.tells c.look_up.new.oracle in
    let told_then = g.O.Oracle.tells c.first_field_from.new.oracle in
    let here = subst (λ (head : Listed). Asks (first_from (field_on_list c.args.name.now) head) told told_then (seen seen_field c.first_field_from.result)) c.in_ok-head.ensures c.first_field_from.ensures in
    asks-then (λ known. first_from (field_on_list c.args.name.now) (head_of c.args.class.now (java_types c.args.arguments.now) known)) c.in_ok-known.ensures here
