use Rattle.std.specs.Prelude.{[]}
use Rattle.pj_names.proofs.AskingLaws.{asks-then}
use Rattle.pj_members.specs.Receivers.{given_in}
use Rattle.pj_members.proofs.receiver_methods.given_methods.Goals as goal

pub returns : goal.returns
returns g c = asks-then (λ classes. given_in c.args.name.now [] classes) c.in_ok-classes.ensures c.given_in.ensures
