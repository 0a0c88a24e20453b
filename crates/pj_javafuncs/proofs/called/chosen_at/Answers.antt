use Rattle.pj_file_oracle.specs.Held.{FileOwn}
use Rattle.pj_exprtypes.specs.Chosen.{chosen_pair}
use Rattle.pj_javafuncs.proofs.Beneath.{asks-over}
use Rattle.pj_javafuncs.proofs.called.chosen_at.Goals as goal

pub returns-clause-asks : goal.returns-clause-asks
returns-clause-asks g c =
    let file = c.args.oracle.now.file.now in
    let own : FileOwn = record { tree = file; held = c.args.oracle.now.held.ghost_name } in
    let call = c.chosen.ensures in
    asks-over _ _ own _ (chosen_pair file c.args.n) call.held (λ i. record { tree = call.file i; held = call.same_table i }) call.asks
