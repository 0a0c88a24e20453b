use Rattle.std.proofs.Common.{◌≡◌, false, rules}
use Rattle.pj_members.specs.Methods.{is_constructor}
use Rattle.pj_members.proofs.receiver_methods.classes_for.Goals as goal

pub returns : goal.returns
returns g c =
    let other : is_constructor c.args.name.now ≡ false = search rules in
    rw other c.list_from.ensures
