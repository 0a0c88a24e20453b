use Rattle.std.proofs.Common.{◌≡◌, ◌++◌, ◌∙◌, ℕ, List, ap, flat_map, rules}
use Rattle.pj_names.proofs.Held.{asks-late}
use Rattle.pj_outside.specs.Files.{Bytes}
use Rattle.pj_workers.specs.declared.result.FileResult.{FileResult}
use Rattle.pj_workers.proofs.Ran.{all_by_runs, ran_of}
use Rattle.pj_workers.proofs.analyse.analyse_files.Goals as goal

pub returns-in_err-found-clause-asks : goal.returns-in_err-found-clause-asks
returns-in_err-found-clause-asks g c = λ meant are.
    let asked = c.in_err-found.ensures.asks meant are in
    search rules

pub returns-in_err-paths-clause-asks : goal.returns-in_err-paths-clause-asks
returns-in_err-paths-clause-asks g c = λ meant are. asks-late (c.in_ok-found.ensures.asks meant are) (search rules)

pub returns-in_err-ran-clause-asks : goal.returns-in_err-ran-clause-asks
returns-in_err-ran-clause-asks g c = λ meant are. asks-late (c.in_ok-found.ensures.asks meant are) (search rules)

pub returns-in_err-note_files-clause-asks : goal.returns-in_err-note_files-clause-asks
returns-in_err-note_files-clause-asks g c = λ meant are. asks-late (c.in_ok-found.ensures.asks meant are) (search rules)

pub returns-clause-asks : goal.returns-clause-asks
returns-clause-asks g c = λ meant are. c.in_ok-found.ensures.asks meant are

pub returns-clause-found : goal.returns-clause-found
returns-clause-found g c = λ meant are. c.in_ok-found.ensures.found meant are

pub returns-clause-ran : goal.returns-clause-ran
returns-clause-ran g c =
    let set = c.args.rules.now in
    let meant = c.sets_have_rules.ensures in
    let each : c.in_ok-ran.ran ≡ flat_map (ran_of set) c.in_ok-found.found = c.in_ok-ran.ensures ∙ ap (λ (l : List (Bytes × FileResult)). flat_map (ran_of set) l) c.as_slice.ensures in
    c.in_ok-note_files.ensures.ran
    ∙ ap (λ (l : List (Bytes × ℕ)). c.args.work.now.ran ++ l) (each ∙ all_by_runs set (g.O.Oracle.tells c.args.oracle.now) meant.0 c.args.files.now c.in_ok-found.found meant.1 (c.in_ok-found.ensures.found meant.0 meant.1))
