use Rattle.std.proofs.Common.{refl}
use Rattle.pj_names.proofs.AskingLaws.{asks-return}
use Rattle.pj_scopes.proofs.Turns.{asks-as}
use Rattle.pj_calls.proofs.Turns.{around-named, around-none}
use Rattle.pj_calls.proofs.unqualified.of_around.Goals as goal

pub returns-in_default : goal.returns-in_default
returns-in_default g c =
    let none = rw (c.class_text.ensures, c.in_default.is) at c.in_ok-class.ensures in
    asks-as (around-none c.args.file.now c.args.name.now c.args.class none) (asks-return refl)

pub returns : goal.returns
returns g c =
    let made = rw (c.class_text.ensures, c.in-Some.is) at c.in_ok-class.ensures in
    asks-as (around-named c.args.file.now c.args.name.now c.args.class c.in-Some.class made.0 made.1) c.of_class.ensures
