use Rattle.std.proofs.Common.{rules, ◌≡◌, ◌<◌, ◌≤◌, ◌∙◌, Bool, false, List, ℕ, ap, length, refl, subst, sym}
use Rattle.std.specs.List.{All, AllZip}
use Rattle.pj_cache.specs.declared.cache.CachedResult.{CachedResult}
use Rattle.pj_cache.specs.declared.cache.Entry.{Entry}
use Rattle.pj_fitting.specs.Right.{Key}
use Rattle.pj_names.proofs.AskingLaws.{asks-refused, asks-return, asks-stop, asks-then}
use Rattle.pj_names.specs.Asking.{Return}
use Rattle.pj_parse.specs.FileOutcome.{outcome_of}
use Rattle.pj_reports.specs.declared.ruled.Ruled.{Ruled}
use Rattle.pj_workers.specs.Chosen.{chosen}
use Rattle.pj_workers.specs.FileMeaning.{rule_meaning}
use Rattle.pj_workers.specs.JavaReplies.{java_replies}
use Rattle.pj_workers.specs.Results.{RestsOn, rules_in}
use Rattle.pj_workers.specs.Rules.{AreRulesOf, Rule}
use Rattle.pj_cached_files.specs.Asked.{missing_numbers}
use Rattle.pj_cached_files.specs.Completed.{AreTogether, where_tree}
use Rattle.pj_cached_files.specs.Made.{new_results}
use Rattle.pj_cached_files.proofs.NewResults.{numbers_of_keys, numbers_of_rules, runs_short}
use Rattle.pj_cached_files.proofs.file.completed.Goals as goal

pub analyse_rules-requires-clause-numbers : goal.analyse_rules-requires-clause-numbers
analyse_rules-requires-clause-numbers g c =
    subst (λ (ns : List ℕ). All (λ (n : ℕ). n < length c.args.run.now.rules.now.rules) ns) (sym c.requires.missing) (numbers_of_rules c.args.run.now.rules.now c.args.path.now c.args.part.stay)

pub new_results-requires-clause-numbers : goal.new_results-requires-clause-numbers
new_results-requires-clause-numbers g c =
    let set = c.args.run.now.rules.now in
    subst (λ (ns : List ℕ). All (λ (n : ℕ). n < length c.as_slice.result.now) ns) (sym (c.as_slice-2.ensures ∙ c.requires.missing))
    (subst (λ (ks : List Key). All (λ (n : ℕ). n < length ks) (missing_numbers set c.args.path.now c.args.part.stay)) (sym (c.as_slice.ensures ∙ c.requires.keys)) (numbers_of_keys set c.args.path.now c.args.part.stay))

pub new_results-requires-clause-runs : goal.new_results-requires-clause-runs
new_results-requires-clause-runs g c =
    let meant = c.sets_have_rules.ensures in
    let found = c.in_ok-found.found in
    let short : length found.runs ≤ length c.args.part.missing =
    runs_short (λ rule run. RestsOn (g.O.Oracle.tells c.args.oracle.now) (rule_meaning java_replies c.args.path.now c.args.bytes.now rule) run.rows run.names) (outcome_of c.args.bytes.now) c.args.part.missing meant.0 found.runs
    (c.in_ok-found.ensures.found meant.0 meant.1) in
    subst (λ (ns : List ℕ). length found.runs ≤ length ns) (sym c.as_slice-2.ensures) short

pub returns-in_err-found-clause-asks : goal.returns-in_err-found-clause-asks
returns-in_err-found-clause-asks g c = λ meant are. asks-refused (λ (came : List Ruled). Return false) (c.in_err-found.ensures.asks meant are) (search rules)

pub returns-in_err-made-clause-asks : goal.returns-in_err-made-clause-asks
returns-in_err-made-clause-asks g c = λ meant are. asks-then (λ (came : List Ruled). Return false) (c.in_ok-found.ensures.asks meant are) (asks-stop (search rules))

pub returns-in_err-results-clause-asks : goal.returns-in_err-results-clause-asks
returns-in_err-results-clause-asks g c = λ meant are. asks-then (λ (came : List Ruled). Return false) (c.in_ok-found.ensures.asks meant are) (asks-stop (search rules))

pub returns-in_err-entry-clause-asks : goal.returns-in_err-entry-clause-asks
returns-in_err-entry-clause-asks g c = λ meant are. asks-then (λ (came : List Ruled). Return false) (c.in_ok-found.ensures.asks meant are) (asks-stop (search rules))

pub returns-clause-asks : goal.returns-clause-asks
returns-clause-asks g c = λ meant are. asks-then (λ (came : List Ruled). Return false) (c.in_ok-found.ensures.asks meant are) (asks-return refl)

pub returns-clause-left : goal.returns-clause-left
returns-clause-left g c =
    let set = c.args.run.now.rules.now in
    let found = c.in_ok-found.found in
    let stay = c.args.part.stay in
    let numbers : c.as_slice-2.result.now ≡ missing_numbers set c.args.path.now stay = c.as_slice-2.ensures ∙ c.requires.missing in
    let keys = c.as_slice.ensures ∙ c.requires.keys in
    let made = c.in_ok-made.made in
    record {
      path = ap (λ (e : Entry). e.path) c.in_ok-entry.ensures;
      bytes = ap (λ (e : Entry). e.bytes) c.in_ok-entry.ensures;
      head_is = ap (λ (e : Entry). e.head) c.in_ok-entry.ensures ∙ c.in_ok-found.ensures.head;
      reused = refl;
      ran = c.evaluated-ran.ensures ∙ (λ i. where_tree (c.in_ok-found.ensures.head i) (c.requires.missing i));
      made = made;
      are_made = record {
        runs = found.runs;
        is = c.in_ok-made.ensures.value ∙ (λ i. new_results (chosen (numbers i) (keys i)) found.runs);
        rest = subst (λ (ns : List ℕ). (meant : List Rule) → AreRulesOf set meant
            → AllZip (λ rule run. RestsOn (g.O.Oracle.tells c.args.oracle.now) (rule_meaning java_replies c.args.path.now c.args.bytes.now rule) run.rows run.names) (rules_in (outcome_of c.args.bytes.now) (chosen ns meant)) found.runs)
            c.requires.missing c.in_ok-found.ensures.found;
        classes = c.in_ok-made.ensures.classes;
      };
      results = subst (λ (l : List CachedResult). AreTogether stay made l) (sym (ap (λ (e : Entry). e.results) c.in_ok-entry.ensures))
          (record { members = c.in_ok-results.ensures.members; ascending = c.in_ok-results.ensures.ascending });
    }
