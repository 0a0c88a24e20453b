use Rattle.std.proofs.Common.{subst}
use Rattle.pj_names.proofs.AskingLaws.{asks-then}
use Rattle.pj_names.specs.JavaType.{java_types}
use Rattle.pj_names.specs.Told.{Asks, seen}
use Rattle.pj_types.specs.Supertypes.{Listed}
use Rattle.pj_members.specs.Receivers.{first_from, head_of, supertype_test}
use Rattle.pj_members.specs.SupertypeWalks.{seen_types}
use Rattle.pj_members.proofs.receivers.supertype_of_receiver.Goals as goal

pub returns : goal.returns
returns g c =
    let told = g.O.Oracle.tells c.look_up.new.oracle in
    let told_then = g.O.Oracle.tells c.first_supertype_from.new.oracle in
    let here = subst (λ (head : Listed). Asks (first_from (supertype_test c.args.wanted.now) head) told told_then (seen seen_types c.first_supertype_from.result)) c.in_ok-head.ensures c.first_supertype_from.ensures in
    asks-then (λ known. first_from (supertype_test c.args.wanted.now) (head_of c.args.class.now (java_types c.args.arguments.now) known)) c.in_ok-known.ensures here
