-- The rows of a file, and what the program has of it.
use Rattle.std.proofs.Common.{◌≡◌, ◌∙◌, ◌==◌, ℕ, List, [], ◌∷◌, Result, Ok, Err, ap, length, map, refl, subst, sym}
use Rattle.std.specs.Prelude.{IsTrue}
use Rattle.std.specs.Cmp.Lexicographic.{slice_cmp}
use Rattle.std.specs.FinSet as sets
use Rattle.std.specs.List.{AllByRecursion, AllZip, list_any}
use Rattle.std.specs.List.Sorted.{IsNonDecreasing, IsStrictlySortedBy}
use Rattle.std.specs.Ordering.{nat_cmp}
use Rattle.std.specs.Str.{IsUtf8}
use Rattle.pj_attrs.specs.FileFacts.{FileFacts, facts_of}
use Rattle.pj_findings.specs.Merged.{merge}
use Rattle.pj_findings.specs.declared.run.RuleRun.{RuleRun}
use Rattle.pj_names.specs.Asking.{Asking, Return, bind}
use Rattle.pj_names.specs.ClassName.{NameSet, name_set}
use Rattle.pj_names.specs.Held.{IsHeld}
use Rattle.pj_names.specs.Told.{Asks, Told, with_names}
use Rattle.pj_names.specs.declared.oracle.AskFault.{AskFault}
use Rattle.pj_names.proofs.AskingLaws.{asks-refused, asks-return, asks-then}
use Rattle.pj_names.proofs.NameLists.{with_names-empty}
use Rattle.pj_reports.specs.declared.ruled.Head.{Head}
use Rattle.pj_reports.specs.declared.ruled.Ruled.{Ruled}
use Rattle.pj_grammar.specs.Words.{seen}
use Rattle.pj_source.specs.SourceText.{SourceText}
use Rattle.pj_lex.specs.declared.token.Token.{Token}
use Rattle.pj_parse.specs.FileOutcome.{outcome_of}
use Rattle.pj_parse.specs.JavaFile.{IsJavaFile, JavaFile, java_file}
use Rattle.pj_parse.specs.Parses.{file_parsed}
use Rattle.pj_parse.specs.PoolText.{pool_of}
use Rattle.pj_parse.specs.Refused.{IsRefused, file_seen as java_file_seen}
use Rattle.pj_parse.specs.declared.entry.Entry.{Entry}
use Rattle.pj_parse.specs.declared.file_fault.FileFault.{FileFault}
use Rattle.pj_parse.specs.declared.file_fault.FileRefused.{FileRefused}
use Rattle.pj_parse.specs.declared.file_fault.FileRefused.TheVariants.{Fault, Memory}
use Rattle.pj_parse.specs.declared.parsing.Parsed.{Parsed}
use Rattle.pj_reports.specs.declared.rows.FileRows.{FileRows}
use Rattle.pj_rule_sets.specs.Rules.{EffectiveRule, EffectiveRules}
use Rattle.pj_suppress.specs.Marks as marks
use Rattle.pj_outside.specs.Files.{Bytes}
use Rattle.pj_workers.specs.Chosen.{chosen, chosen_at, numbers_to}
use Rattle.pj_workers.specs.FileMeaning.{file_at, file_meaning, head_of, rule_at, rule_meaning}
use Rattle.pj_workers.specs.Marked.{is_marked}
use Rattle.pj_workers.specs.JavaReplies.{java_replies}
use Rattle.pj_workers.specs.Results.{IsResultAt, IsResultOf, RestsOn, came_to, rules_in}
use Rattle.pj_workers.specs.Rules.{AreRulesOf, IsRuleOf, Rule}
use Rattle.pj_workers.specs.Views.{AreRunsOf, AsksOf, IsErrorOf, IsOfOneFile, all_names, rows_by}
use Rattle.pj_workers.specs.declared.result.FileResult.{FileResult}
use Rattle.pj_workers.specs.declared.result.FileRuns.{FileRuns}
use Rattle.pj_workers.specs.declared.view.FileView.{FileView}
use Rattle.pj_workers.proofs.Chosen.{all_beside, chosen_are_file}
use Rattle.pj_workers.proofs.FileLaws.{one_error}
use Rattle.pj_workers.proofs.MarkLaws.{marks_are_one}
use Rattle.pj_workers.proofs.Resting.{all_before, rests_before, together_held}

-- ---- with a tree

-- the rules of a set, by the list and the marker that the program has
pub marked_rules : (set : EffectiveRules) (marker : Bytes) (rules : List EffectiveRule) (meant : List Rule) → rules ≡ set.rules → marker ≡ set.marker → AreRulesOf set meant → AllZip (IsRuleOf marker) rules meant
marked_rules set marker rules meant is marked are =
    subst (λ (m : Bytes). AllZip (IsRuleOf m) rules meant) (sym marked) (subst (λ (l : List EffectiveRule). AllZip (IsRuleOf set.marker) l meant) (sym is) are)

-- a view of a file that was parsed
pub is_of_one : (source : SourceText) (parsed : Parsed) (view : FileView) → view.facts.now ≡ facts_of source (file_parsed parsed) → view.tree.now ≡ parsed.tree → parsed.tree.text ≡ source.text
    → ((line : ℕ) → list_any (λ other. other == line) view.marked.now ≡ marks.is_marked source parsed.tokens view.marker.now line) → AllByRecursion (λ (token : Token). IsUtf8 token.text.now) parsed.tokens
    → IsNonDecreasing view.marked.now → IsOfOneFile view
is_of_one source parsed view facts tree text marked utf8 up = record {
  tree_is = tree ∙ ap (λ (f : FileFacts). f.file.tree) (sym facts);
  text_is = ap (λ (f : FileFacts). f.file.tree.text) facts ∙ text ∙ ap (λ (f : FileFacts). f.source.text) (sym facts);
  marked_are = λ line. marked line
      ∙ sym (marks_are_one (java_file source (file_parsed parsed)) parsed.tokens view.marker.now line refl utf8)
      ∙ ap (λ (f : FileFacts). is_marked (java_file f.source f.file) view.marker.now line) (sym facts);
  ascending = up;
}

-- the file that a view of it has
pub java_file_is : (source : SourceText) (parsed : Parsed) (facts : FileFacts) → facts ≡ facts_of source (file_parsed parsed) → parsed.pool ≡ pool_of parsed.tree → java_file facts.source facts.file ≡ java_file_seen source parsed
java_file_is source parsed facts is pool =
    ap (λ (f : FileFacts). java_file f.source f.file) is
    ∙ ap (λ (p : List Entry). record { source = source; tokens = map seen parsed.tokens; tree = parsed.tree; pool = p }) (sym pool)

-- ---- without one

module _ {K : Type 0} (set : EffectiveRules) (numbers : List ℕ) (path : Bytes) (t : Told K) where
  error_asks : (fault : FileFault) (found : FileRuns) → IsErrorOf (Fault fault) found → AsksOf set numbers path (Err fault) t t (Ok found)
  error_asks fault found is = λ meant are. asks-return (λ i. Ok (came_to (is.1 i)))

  error_runs : (fault : FileFault) (found : FileRuns) → IsErrorOf (Fault fault) found → AreRunsOf set numbers path (Err fault) t found
  error_runs fault found is = record {
    head = is.0;
    runs = λ meant are. subst (λ (runs : List RuleRun). AllZip (λ rule run. RestsOn t (rule_at java_replies path (Err fault) rule) run.rows run.names) [] runs) (sym is.1) tt;
  }

  module _ (bytes : Bytes) (one : (o : Result JavaFile FileFault) → IsJavaFile bytes o → o ≡ outcome_of bytes) where
    pub refused_asks : (refused : FileRefused) (found : FileRuns) → IsRefused bytes refused → IsErrorOf refused found → AsksOf set numbers path (outcome_of bytes) t t (Ok found)
    refused_asks (Fault fault) found is error = subst (λ (o : Result JavaFile FileFault). AsksOf set numbers path o t t (Ok found)) (one (Err fault) is) (error_asks fault found error)
    refused_asks Memory found is error = absurd error

    pub refused_runs : (refused : FileRefused) (found : FileRuns) → IsRefused bytes refused → IsErrorOf refused found → AreRunsOf set numbers path (outcome_of bytes) t found
    refused_runs (Fault fault) found is error = subst (λ (o : Result JavaFile FileFault). AreRunsOf set numbers path o t found) (one (Err fault) is) (error_runs fault found error)
    refused_runs Memory found is error = absurd error

-- ---- the file's result

-- what rules came to in a file, each with the names on which that rests
abbrev AreRested : {K : Type 0} → Told K → Bytes → Result JavaFile FileFault → List Rule → List RuleRun → Type 0
AreRested t path o rules runs = AllZip (λ rule run. RestsOn t (rule_at java_replies path o rule) run.rows run.names) (rules_in o rules) runs

-- those of all numbers are those of all rules
all_runs : {K : Type 0} (set : EffectiveRules) (numbers : List ℕ) (path : Bytes) (o : Result JavaFile FileFault) (t : Told K) (found : FileRuns) (meant : List Rule) → AreRunsOf set numbers path o t found → AreRulesOf set meant
    → numbers ≡ numbers_to (length set.rules) → AreRested t path o meant found.runs
all_runs set numbers path o t found meant runs are is =
    subst (λ (rules : List Rule). AreRested t path o rules found.runs) (ap (λ (l : List ℕ). chosen l meant) is ∙ all_beside (IsRuleOf set.marker) set.rules meant are) (runs.runs meant are)

none_beside : {X Y : Type 0} (R : X → Y → Type 0) (ys : List Y) → AllZip R [] ys → ys ≡ []
none_beside R [] h = refl
none_beside R (y ∷ ys) h = absurd h

file_held : {K : Type 0} (path : Bytes) (o : Result JavaFile FileFault) (t : Told K) (found : FileRuns) (meant : List Rule) → found.head ≡ head_of o → AreRested t path o meant found.runs → IsTrue t.is_told
    → IsHeld t.world (file_at java_replies path o meant) (rows_by found) (name_set (all_names found.runs))
file_held path (Ok file) t found meant head runs told =
    subst (λ (h : Head). IsHeld t.world (file_at java_replies path (Ok file) meant) (merge h (came_to found.runs)) (name_set (all_names found.runs))) (sym head)
    (together_held t (rule_at java_replies path (Ok file)) (λ results. merge (head_of (Ok file)) results) meant found.runs runs told)
file_held path (Err fault) t found meant head runs told =
    let none : found.runs ≡ [] = none_beside (λ rule run. RestsOn t (rule_at java_replies path (Err fault) rule) run.rows run.names) found.runs runs in
    subst (λ (m : Asking FileRows). IsHeld t.world m (rows_by found) (name_set (all_names found.runs))) (sym (one_error java_replies path meant fault)) (record {
      value_is = λ d far. ap (λ (h : Head). merge h (came_to found.runs)) (sym head);
      names_are = λ d far. ap (λ (runs : List RuleRun). name_set (all_names runs)) (sym none);
    })

pub result_is : {K : Type 0} (set : EffectiveRules) (numbers : List ℕ) (path bytes : Bytes) (t : Told K) (runs : FileRuns) (made : FileResult) (meant : List Rule) → AreRunsOf set numbers path (outcome_of bytes) t runs
    → AreRulesOf set meant → numbers ≡ numbers_to (length set.rules) → made.rows ≡ rows_by runs → made.runs ≡ runs.runs → IsStrictlySortedBy (slice_cmp nat_cmp) made.names → name_set made.names ≡ with_names sets.empty (all_names runs.runs)
    → IsResultOf t java_replies path bytes meant made
result_is set numbers path bytes t runs made meant are of is rows own up together =
    let rested = all_runs set numbers path (outcome_of bytes) t runs meant are of is in
    record {
      rows = record {
        ascending = up;
        held = λ told. subst (λ (s : NameSet). IsHeld t.world (file_at java_replies path (outcome_of bytes) meant) made.rows s) (sym (with_names-empty (all_names runs.runs)) ∙ sym together)
            (subst (λ (r : FileRows). IsHeld t.world (file_at java_replies path (outcome_of bytes) meant) r (name_set (all_names runs.runs))) (sym rows) (file_held path (outcome_of bytes) t runs meant are.head rested told));
      };
      runs = subst (λ (rs : List RuleRun). AreRested t path (outcome_of bytes) meant rs) (sym own) rested;
      merged = rows ∙ (λ i. merge (are.head i) (came_to (sym own i)));
    }

-- It asks what the rules mean together at a file, where it asks what those of all numbers come to.
module _ {K : Type 0} (set : EffectiveRules) (numbers : List ℕ) (path : Bytes) (o : Result JavaFile FileFault) (t u : Told K) (meant : List Rule) (are : AreRulesOf set meant) (is : numbers ≡ numbers_to (length set.rules)) where
  together : bind (chosen_at java_replies path o numbers meant) (λ results. Return (merge (head_of o) results)) ≡ file_at java_replies path o meant
  together = chosen_are_file java_replies path o meant numbers (ap (λ (l : List ℕ). chosen l meant) is ∙ all_beside (IsRuleOf set.marker) set.rules meant are)

  pub merged_asks : (found : FileRuns) (rows : FileRows) → AsksOf set numbers path o t u (Ok found) → found.head ≡ head_of o → rows ≡ rows_by found → Asks (file_at java_replies path o meant) t u (Ok rows)
  merged_asks found rows asks head of = subst (λ (m : Asking FileRows). Asks m t u (Ok rows)) together
      (asks-then (λ (results : List Ruled). Return (merge (head_of o) results)) (asks meant are) (asks-return (ap Ok of ∙ ap (λ (h : Head). Ok (merge h (came_to found.runs))) head)))

  pub refused_rows : (e : AskFault) (r : Result FileRows AskFault) → AsksOf set numbers path o t u (Err e) → r ≡ Err e → Asks (file_at java_replies path o meant) t u r
  refused_rows e r asks of = subst (λ (m : Asking FileRows). Asks m t u r) together (asks-refused (λ (results : List Ruled). Return (merge (head_of o) results)) (asks meant are) of)

-- what an oracle tells later of a file, it told before
pub result_before : {K : Type 0} (t u : Told K) (meant : List Rule) (file : Bytes × Bytes) (found : Bytes × FileResult) → u.is_told ≡ t.is_told → u.world ≡ t.world → IsResultAt u java_replies meant file found → IsResultAt t java_replies meant file found
result_before t u meant file found told world at = record {
  path = at.path;
  result = record {
    rows = rests_before t u (file_meaning java_replies file.0 file.1 meant) found.1.rows found.1.names told world at.result.rows;
    runs = all_before t u (rule_meaning java_replies file.0 file.1) (rules_in (outcome_of file.1) meant) found.1.runs told world at.result.runs;
    merged = at.result.merged;
  };
}
