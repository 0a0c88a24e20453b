use Rattle.std.proofs.Common.{◌∙◌, sym}
use Rattle.std.proofs.lemmas.List.{length-map}
use Rattle.pj_names.proofs.AskingLaws.{asks-then}
use Rattle.pj_overload.specs.Seen.{argument_seen}
use Rattle.pj_overload.specs.Seen.{candidates_seen}
use Rattle.pj_overload.proofs.InsideLaws.{found-among}
use Rattle.pj_overload.proofs.choosing.choice_in.Goals as goal

pub returns-clause-asks : goal.returns-clause-asks
returns-clause-asks g c =
    let count = length-map c.args.arguments.now argument_seen ∙ sym c.len.ensures in
    asks-then _ c.in_ok-found.ensures.asks (rw count c.choice_among.ensures.asks)

pub returns-clause-inside : goal.returns-clause-inside
returns-clause-inside g c =
    found-among c.choice_among.result (candidates_seen c.in_ok-found.found) (candidates_seen c.args.candidates.now) c.in_ok-found.ensures.inside c.choice_among.ensures.inside
