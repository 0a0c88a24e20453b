use Rattle.std.proofs.Common.{rules, ap}
use Rattle.std.specs.Prelude.{Ok}
use Rattle.pj_names.proofs.AskingLaws.{asks-refused, asks-return, asks-stop, asks-then}
use Rattle.pj_leaf_types.proofs.superclass.by_node.Goals as goal

pub returns-in_err-is_interface : goal.returns-in_err-is_interface
returns-in_err-is_interface g c = asks-then _ c.in_ok-ty.ensures (asks-refused _ c.in_err-is_interface.ensures (search rules))

pub returns-in_err-superclass : goal.returns-in_err-superclass
returns-in_err-superclass g c = asks-then _ c.in_ok-ty.ensures (asks-then _ c.in_ok-is_interface.ensures (asks-stop (search rules)))

pub returns : goal.returns
returns g c = asks-then _ c.in_ok-ty.ensures (asks-then _ c.in_ok-is_interface.ensures (asks-return (ap (λ ty. Ok ty) c.in_ok-superclass.ensures)))
