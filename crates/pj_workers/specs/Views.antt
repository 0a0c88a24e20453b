-- What the program has of a file that has a tree, and of a rule in it. This serves private clauses.
use Rattle.std.specs.Prelude.{◌≡◌, ◌==◌, ◌∷◌, ℕ, Bool, List, [], Some, Result, flat_map, if◌then◌else◌}
use Rattle.std.specs.List.{AllZip, list_any}
use Rattle.std.specs.List.Sorted.{IsNonDecreasing}
use Rattle.std.specs.Option.{option_map}
use Rattle.pj_exprtypes.specs.Table.{KeepsOver}
use Rattle.pj_exprtypes.specs.declared.held.HeldType.{HeldType}
use Rattle.pj_file_oracle.specs.Held.{Holds}
use Rattle.pj_file_oracle.specs.declared.held.Held.{Held}
use Rattle.pj_findings.specs.Merged.{merge}
use Rattle.pj_findings.specs.declared.run.RuleRun.{RuleRun}
use Rattle.pj_names.specs.Asking.{Asking}
use Rattle.pj_names.specs.ClassName.{Name}
use Rattle.pj_names.specs.Told.{Asks, Told, seen}
use Rattle.pj_names.specs.declared.oracle.AskFault.{AskFault}
use Rattle.pj_parse.specs.JavaFile.{JavaFile, java_file}
use Rattle.pj_parse.specs.declared.file_fault.FileFault.{FileFault}
use Rattle.pj_parse.specs.declared.file_fault.FileRefused.{FileRefused}
use Rattle.pj_parse.specs.declared.file_fault.FileRefused.TheVariants.{Fault, Memory}
use Rattle.pj_reports.specs.declared.rows.FileRows.{FileRows}
use Rattle.pj_reports.specs.declared.ruled.Head.TheVariants.{Message}
use Rattle.pj_reports.specs.declared.ruled.Ruled.{Ruled}
use Rattle.pj_reports.specs.declared.ruled.Spot.{Spot}
use Rattle.pj_rule_sets.specs.Expressions.{HasPatterns, variables_of}
use Rattle.pj_rule_sets.specs.declared.expressions.RuleExpressions.{RuleExpressions}
use Rattle.pj_rule_sets.specs.declared.spelled.Spelled.{Spelled}
use Rattle.pj_rule_sets.specs.Rules.{EffectiveRule, EffectiveRules, texts_of}
use Rattle.pj_tree.specs.Tree.{Tree}
use Rattle.pj_tree.specs.declared.node.Node.{Node}
use Rattle.pj_xsteps.specs.Means.{Means, give, ◌>>=◌}
use Rattle.pj_parse.specs.Messages.{fault_message}
use Rattle.pj_outside.specs.Files.{Bytes}
use Rattle.pj_workers.specs.Chosen.{chosen, chosen_at}
use Rattle.pj_workers.specs.Evaluated.{active_numbers}
use Rattle.pj_workers.specs.FileMeaning.{head_of, nothing, rule_at}
use Rattle.pj_workers.specs.Marked.{is_marked}
use Rattle.pj_workers.specs.JavaReplies.{java_replies}
use Rattle.pj_workers.specs.Results.{RestsOn, came_to, rules_in}
use Rattle.pj_xlaws.specs.Laws.{Reply}
use Rattle.pj_workers.specs.RuleMeaning.{extent_at, found_of, reason_at, rule_in_file}
use Rattle.pj_workers.specs.Rules.{AreRulesOf, Rule, source_of}
use Rattle.pj_workers.specs.declared.result.FileRuns.{FileRuns}
use Rattle.pj_workers.specs.declared.view.FileView.{FileView}
use Rattle.pj_workers.specs.declared.view.RuleView.{RuleView}

-- ---- files

-- the file that is seen
abbrev pub file_seen : FileView → JavaFile
file_seen view = java_file view.facts.now.source view.facts.now.file

-- All that the view has is of one file, and its lines are those that comments with the marker mark.
pub record IsOfOneFile (view : FileView) : Type 0 where
  pub tree_is : view.tree.now ≡ view.facts.now.file.tree
  pub text_is : view.facts.now.file.tree.text ≡ view.facts.now.source.text
  pub marked_are : (line : ℕ) → list_any (λ other. other == line) view.marked.now ≡ is_marked (file_seen view) view.marker.now line
  pub ascending : IsNonDecreasing view.marked.now

-- ---- rules in files

-- the rule that these expressions make of the rule of a set with this marker
abbrev pub with_expressions : Bytes → EffectiveRule → RuleExpressions → Rule
with_expressions marker effective kept = record { source = source_of marker effective; query = kept.query.expr; suppression = option_map (λ (spelled : Spelled). spelled.expr) kept.suppression }

abbrev pub rule_seen : RuleView → Rule
rule_seen view = with_expressions view.file.now.marker.now view.rule.now view.kept.now

-- The view has the patterns of its expressions.
pub record HasItsPatterns (effective : EffectiveRule) (kept : RuleExpressions) : Type 0 where
  pub query : HasPatterns (variables_of (texts_of effective)) kept.query
  pub suppression : (spelled : Spelled) → kept.suppression ≡ Some spelled → HasPatterns (variables_of (texts_of effective)) spelled

-- what a rule means in a file of a path for which it is active, or is not
abbrev pub if_active : Bool → Bytes → JavaFile → Rule → Asking Ruled
if_active active path file rule = if active then rule_in_file (java_replies path file) file rule else nothing

-- What is held of a file is right over an oracle: what its classes answered, and types of its nodes.
pub record AreRight {K : Type 0} (tree : Tree) (told : Told K) (held : Held) (types_held : List HeldType) : Type 0 where
  pub answers : Holds tree told held
  pub types : KeepsOver tree told types_held

-- what a rule finds at one node
abbrev pub found_there : Reply → JavaFile → Rule → Node → Means Spot
found_there reply file rule n = reason_at reply file rule n >>= λ why. give (found_of n (extent_at reply file rule n) why)

-- ---- the steps of a file's analysis

-- the rows of a file with this head in which the rules came to this
abbrev pub rows_by : FileRuns → FileRows
rows_by found = merge found.head (came_to found.runs)

-- It asks what the rules of these numbers of the set come to at a file with this outcome.
abbrev pub AsksOf : {K : Type 0} → EffectiveRules → List ℕ → Bytes → Result JavaFile FileFault → Told K → Told K → Result FileRuns AskFault → Type 0
AsksOf set numbers path outcome old new result =
    (rules : List Rule) → AreRulesOf set rules → Asks (chosen_at java_replies path outcome numbers rules) old new (seen (λ (found : FileRuns). came_to found.runs) result)

-- What is said of a file with this outcome, and what the rules of these numbers of the set come to in it.
pub record AreRunsOf {K : Type 0} (set : EffectiveRules) (numbers : List ℕ) (path : Bytes) (outcome : Result JavaFile FileFault) (told : Told K) (found : FileRuns) : Type 0 where
  pub head : found.head ≡ head_of outcome
  pub runs : (rules : List Rule) → AreRulesOf set rules → AllZip (λ rule run. RestsOn told (rule_at java_replies path outcome rule) run.rows run.names) (rules_in outcome (chosen numbers rules)) found.runs

-- Of a file that was refused is said why, and no rule comes to anything.
abbrev pub IsErrorOf : FileRefused → FileRuns → Type 0
IsErrorOf (Fault fault) found = (found.head ≡ Message (fault_message fault)) × (found.runs ≡ [])
IsErrorOf Memory found = ⊥

-- the names of rules, one rule after the other
abbrev pub all_names : List RuleRun → List Name
all_names runs = flat_map (λ (run : RuleRun). run.names) runs

-- ---- what was evaluated

-- the numbers of the rules that were evaluated on a file of a path in which the rules came to this: where there are no runs, there is no tree or no rule
abbrev pub evaluated_by : EffectiveRules → Bytes → List RuleRun → List ℕ
evaluated_by set path [] = []
evaluated_by set path (run ∷ runs) = active_numbers set path
