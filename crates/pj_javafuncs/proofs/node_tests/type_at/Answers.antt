use Rattle.std.proofs.Common.{ap}
use Rattle.pj_type_names.proofs.Turns.{asks-as}
use Rattle.pj_file_oracle.specs.Held.{FileOwn}
use Rattle.pj_exprtypes.specs.TypeOf.{type_of}
use Rattle.pj_javafuncs.specs.Replies.{type_at}
use Rattle.pj_javafuncs.proofs.Beneath.{asks-over}
use Rattle.pj_javafuncs.proofs.node_tests.type_at.Goals as goal

pub returns-in-Some-clause-asks : goal.returns-in-Some-clause-asks
returns-in-Some-clause-asks g c =
    let file = c.args.oracle.now.file.now in
    let own : FileOwn = record { tree = file; held = c.args.oracle.now.held.ghost_name } in
    let call = c.type_of.ensures in
    asks-as (ap (type_at file) c.in-Some.is) (asks-over _ _ own _ (type_of file c.in-Some.n) call.held (λ i. record { tree = call.file i; held = call.same_table i }) call.asks)
