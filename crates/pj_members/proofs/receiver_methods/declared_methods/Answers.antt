use Rattle.std.specs.Prelude.{[]}
use Rattle.pj_names.proofs.AskingLaws.{asks-then}
use Rattle.pj_members.specs.Methods.{found_in}
use Rattle.pj_members.proofs.receiver_methods.declared_methods.Goals as goal

pub returns : goal.returns
returns g c = asks-then (λ types. found_in c.args.class.now c.args.name.now [] types) c.in_ok-types.ensures c.found_in.ensures
