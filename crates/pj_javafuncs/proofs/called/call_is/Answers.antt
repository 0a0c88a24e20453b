use Rattle.std.proofs.Common.{◌≡◌, Bool, true, ap, rules}
use Rattle.std.specs.Prelude.{if◌then◌else◌, false}
use Rattle.pj_tree.specs.Tree.{kind_of}
use Rattle.pj_names.specs.Asking.{Return, bind}
use Rattle.pj_names.proofs.AskingLaws.{asks-refused, asks-then}
use Rattle.pj_type_names.proofs.Turns.{asks-as}
use Rattle.pj_exprtypes.specs.Chosen.{chosen_pair}
use Rattle.pj_javafuncs.specs.Called.{calls_named, chosen_is}
use Rattle.pj_javafuncs.proofs.called.call_is.Goals as goal

pub returns-in_err-found-clause-asks : goal.returns-in_err-found-clause-asks
returns-in_err-found-clause-asks g c =
    let file = c.args.oracle.now.file.now in
    let pattern = c.args.pattern.now in
    let named : calls_named pattern.method file c.args.n (kind_of file c.args.n) ≡ true = search rules in
    asks-as (ap (λ (b : Bool). if b then bind (chosen_pair file c.args.n) (λ found. chosen_is pattern found) else Return false) named) (asks-refused _ c.in_err-found.ensures.asks (search rules))

pub returns-clause-asks : goal.returns-clause-asks
returns-clause-asks g c =
    let file = c.args.oracle.now.file.now in
    let pattern = c.args.pattern.now in
    let named : calls_named pattern.method file c.args.n (kind_of file c.args.n) ≡ true = search rules in
    asks-as (ap (λ (b : Bool). if b then bind (chosen_pair file c.args.n) (λ found. chosen_is pattern found) else Return false) named) (asks-then _ c.in_ok-found.ensures.asks c.chosen_is.ensures)
