use Rattle.std.proofs.Common.{refl, rules}
use Rattle.pj_names.proofs.AskingLaws.{asks-stop}
use Rattle.pj_names.proofs.Held.{asks-late}
use Rattle.pj_parse.specs.FileOutcome.{outcome_of}
use Rattle.pj_workers.proofs.Chosen.{all_within}
use Rattle.pj_workers.proofs.Rows.{merged_asks, refused_rows, result_is}
use Rattle.pj_workers.proofs.analyse.analyse_by.Goals as goal

pub returns-in_err-which-clause-asks : goal.returns-in_err-which-clause-asks
returns-in_err-which-clause-asks g c = λ meant are. asks-stop (search rules)

pub bytes_runs-requires-clause-numbers : goal.bytes_runs-requires-clause-numbers
bytes_runs-requires-clause-numbers g c = all_within _ _ (search rules)

pub returns-in_err-runs-clause-asks : goal.returns-in_err-runs-clause-asks
returns-in_err-runs-clause-asks g c = λ meant are.
    refused_rows c.args.rules.now c.as_slice.result.now c.args.path.now (outcome_of c.args.bytes.now) (g.O.Oracle.tells c.args.oracle.now) (g.O.Oracle.tells c.bytes_runs.new.oracle) meant are (search rules)
    c.in_err-runs.field-0.0 _ c.in_err-runs.ensures.asks (search rules)

pub returns-in_err-result_of-clause-asks : goal.returns-in_err-result_of-clause-asks
returns-in_err-result_of-clause-asks g c = λ meant are.
    let found = c.in_ok-runs.runs in
    asks-late (merged_asks c.args.rules.now c.as_slice.result.now c.args.path.now (outcome_of c.args.bytes.now) (g.O.Oracle.tells c.args.oracle.now) (g.O.Oracle.tells c.bytes_runs.new.oracle) meant are (search rules)
    found _ c.in_ok-runs.ensures.asks c.in_ok-runs.ensures.runs.head refl) (search rules)

pub returns-clause-asks : goal.returns-clause-asks
returns-clause-asks g c = λ meant are.
    merged_asks c.args.rules.now c.as_slice.result.now c.args.path.now (outcome_of c.args.bytes.now) (g.O.Oracle.tells c.args.oracle.now) (g.O.Oracle.tells c.bytes_runs.new.oracle) meant are (search rules)
    c.in_ok-runs.runs _ c.in_ok-runs.ensures.asks c.in_ok-runs.ensures.runs.head c.in_ok-result_of.ensures.rows

pub returns-clause-found : goal.returns-clause-found
returns-clause-found g c = λ meant are.
    result_is c.args.rules.now c.as_slice.result.now c.args.path.now c.args.bytes.now (g.O.Oracle.tells c.args.oracle.now) c.in_ok-runs.runs c.in_ok-result_of.field-0 meant c.in_ok-runs.ensures.runs are (search rules)
    c.in_ok-result_of.ensures.rows c.in_ok-result_of.ensures.runs c.in_ok-result_of.ensures.ascending c.in_ok-result_of.ensures.members
