use Rattle.std.proofs.Common.{◌≡◌, ◌++◌, ◌∙◌, ℕ, List, ap, rules}
use Rattle.pj_names.proofs.AskingLaws.{asks-stop}
use Rattle.pj_names.proofs.Held.{asks-late}
use Rattle.pj_outside.specs.Files.{Bytes}
use Rattle.pj_parse.specs.FileOutcome.{outcome_of}
use Rattle.pj_workers.specs.Evaluated.{with_path}
use Rattle.pj_workers.specs.Views.{evaluated_by}
use Rattle.pj_workers.proofs.Ran.{by_runs}
use Rattle.pj_workers.proofs.analyse.analyse_file.Goals as goal

pub returns-in_err-grammar-clause-asks : goal.returns-in_err-grammar-clause-asks
returns-in_err-grammar-clause-asks g c = λ meant are. asks-stop (search rules)

pub returns-in_err-found-clause-asks : goal.returns-in_err-found-clause-asks
returns-in_err-found-clause-asks g c = λ meant are.
    let asked = c.in_err-found.ensures.asks meant are in
    search rules

pub returns-in_err-copied-clause-asks : goal.returns-in_err-copied-clause-asks
returns-in_err-copied-clause-asks g c = λ meant are. asks-late (c.in_ok-found.ensures.asks meant are) (search rules)

pub returns-in_err-put_evaluated-clause-asks : goal.returns-in_err-put_evaluated-clause-asks
returns-in_err-put_evaluated-clause-asks g c = λ meant are. asks-late (c.in_ok-found.ensures.asks meant are) (search rules)

pub returns-in_err-note_file-clause-asks : goal.returns-in_err-note_file-clause-asks
returns-in_err-note_file-clause-asks g c = λ meant are. asks-late (c.in_ok-found.ensures.asks meant are) (search rules)

pub returns-clause-asks : goal.returns-clause-asks
returns-clause-asks g c = λ meant are. c.in_ok-found.ensures.asks meant are

pub returns-clause-found : goal.returns-clause-found
returns-clause-found g c = λ meant are. c.in_ok-found.ensures.found meant are

pub returns-clause-ran : goal.returns-clause-ran
returns-clause-ran g c =
    let set = c.args.rules.now in
    let path = c.args.path.now in
    let found = c.in_ok-found.found in
    let meant = c.sets_have_rules.ensures in
    let own : c.put_evaluated.new.ran ≡ with_path path (evaluated_by set path found.runs) = c.in_ok-put_evaluated.ensures ∙ (λ i. c.new-ran.ensures i ++ with_path path (evaluated_by set path (c.as_slice.ensures i))) in
    c.in_ok-note_file.ensures.ran
    ∙ ap (λ (l : List (Bytes × ℕ)). c.args.work.now.ran ++ l) (own ∙ ap (λ (ns : List ℕ). with_path path ns) (by_runs set path (outcome_of c.args.bytes.now) meant.0 found.runs _ meant.1 (c.in_ok-found.ensures.found meant.0 meant.1).runs))
