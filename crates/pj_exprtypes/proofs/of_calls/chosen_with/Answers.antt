use Rattle.std.proofs.Common.{◌≡◌, Option, ap, rules}
use Rattle.pj_names.proofs.AskingLaws.{asks-refused, asks-stop, asks-then}
use Rattle.pj_scopes.proofs.Turns.{asks-as}
use Rattle.pj_calls.specs.declared.candidates.Candidates.{Candidates}
use Rattle.pj_calls.specs.Calls.{chosen_with}
use Rattle.pj_calls.specs.Nodes.{arguments_of, functions_of}
use Rattle.pj_calls.specs.Seen.{seen_candidates}
use Rattle.pj_exprtypes.specs.TypeOf.{type_of}
use Rattle.pj_exprtypes.proofs.of_calls.chosen_with.Goals as goal

pub returns-in_err-arguments-clause-asks : goal.returns-in_err-arguments-clause-asks
returns-in_err-arguments-clause-asks g c =
    let file = c.args.file.now in
    let nodes : c.as_slice.result.now ≡ arguments_of file c.args.n = search rules in
    let asked = rw nodes at c.in_err-arguments.ensures.asks in
    asks-as (ap (λ (found : Option Candidates). chosen_with file (type_of file) c.args.n (seen_candidates found)) c.in-Some.is) (asks-refused _ asked (search rules))

pub returns-in_err-functions-clause-asks : goal.returns-in_err-functions-clause-asks
returns-in_err-functions-clause-asks g c =
    let file = c.args.file.now in
    let nodes : c.as_slice.result.now ≡ arguments_of file c.args.n = search rules in
    let asked = rw nodes at c.in_ok-arguments.ensures.asks in
    asks-as (ap (λ (found : Option Candidates). chosen_with file (type_of file) c.args.n (seen_candidates found)) c.in-Some.is) (asks-then _ asked (asks-stop (search rules)))

pub returns-clause-asks : goal.returns-clause-asks
returns-clause-asks g c =
    let file = c.args.file.now in
    let nodes : c.as_slice.result.now ≡ arguments_of file c.args.n = search rules in
    let asked = rw nodes at c.in_ok-arguments.ensures.asks in
    let places : c.in_ok-functions.functions ≡ functions_of file c.args.n = search rules in
    let chosen = rw places at c.chosen_among.ensures in
    asks-as (ap (λ (found : Option Candidates). chosen_with file (type_of file) c.args.n (seen_candidates found)) c.in-Some.is) (asks-then _ asked chosen)
