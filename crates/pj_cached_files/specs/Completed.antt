-- What is left of a file by what stays of its old results, as it is made. This serves private clauses.
use Rattle.std.specs.Prelude.{◌≡◌, ◌++◌, ℕ, false, true, List, [], map, if◌then◌else◌}
use Rattle.std.specs.List.{All, AllZip, IsDistinct}
use Rattle.std.specs.List.Sorted.{IsPermutation, IsStrictlySortedBy}
use Rattle.pj_cache.specs.Places.{byte_order}
use Rattle.pj_cache.specs.declared.cache.CachedResult.{CachedResult}
use Rattle.pj_cached_files.specs.Asked.{keys_of_set, missing_numbers}
use Rattle.pj_cached_files.specs.Made.{IsClassText, new_results}
use Rattle.pj_cached_files.specs.Ran.{has_tree}
use Rattle.pj_cached_files.specs.declared.entry.LeftFile.{LeftFile}
use Rattle.pj_findings.specs.declared.run.RuleRun.{RuleRun}
use Rattle.pj_fitting.specs.Left.{File}
use Rattle.pj_fitting.specs.Right.{Key}
use Rattle.pj_left_cache.specs.Bytes.{first_key}
use Rattle.pj_left_cache.specs.Missing.{is_same_key}
use Rattle.pj_names.specs.Told.{Told}
use Rattle.pj_parse.specs.FileOutcome.{outcome_of}
use Rattle.pj_reports.specs.declared.ruled.Head.{Head}
use Rattle.pj_rule_sets.specs.Rules.{EffectiveRules}
use Rattle.pj_workers.specs.Chosen.{chosen}
use Rattle.pj_workers.specs.FileMeaning.{head_of, rule_meaning}
use Rattle.pj_workers.specs.JavaReplies.{java_replies}
use Rattle.pj_workers.specs.Results.{RestsOn, rules_in}
use Rattle.pj_workers.specs.Rules.{AreRulesOf, Rule}

-- Results that stay and results that are made, together in the order of an entry.
pub record AreTogether (stay made results : List CachedResult) : Type 0 where
  pub members : IsPermutation (stay ++ made) results
  pub ascending : IsDistinct is_same_key (map first_key (stay ++ made)) → IsStrictlySortedBy byte_order (map first_key results)

-- What is left of a file that is used again as it is: its old head with the results that stay.
pub record IsUsedAgain (file : File) (head : Head) (stay : List CachedResult) (left : LeftFile) : Type 0 where
  pub path : left.entry.path ≡ file.0
  pub bytes : left.entry.bytes ≡ file.1
  pub head_is : left.entry.head ≡ head
  pub results : AreTogether stay [] left.entry.results
  pub reused : left.is_reused ≡ true
  pub ran : left.ran ≡ []

-- numbers of rules that are looked at at a file with this head: none of them is evaluated where there is no tree
abbrev pub where_tree : Head → List ℕ → List ℕ
where_tree head numbers = if has_tree head then numbers else []

-- the keys of the rules that are missing
abbrev pub missing_keys : EffectiveRules → File → List CachedResult → List Key
missing_keys set file stay = chosen (missing_numbers set file.0 stay) (keys_of_set set)

-- New results of the missing rules: one for each run of such a rule, under its key; and the runs are what these rules mean at the file.
pub record AreMade {K : Type 0} (told : Told K) (set : EffectiveRules) (file : File) (stay made : List CachedResult) : Type 0 where
  pub runs : List RuleRun
  pub is : made ≡ new_results (missing_keys set file stay) runs
  pub rest : (rules : List Rule) → AreRulesOf set rules
      → AllZip (λ rule run. RestsOn told (rule_meaning java_replies file.0 file.1 rule) run.rows run.names) (rules_in (outcome_of file.1) (chosen (missing_numbers set file.0 stay) rules)) runs
  pub classes : All (λ (r : CachedResult). All IsClassText r.names) made

-- What is left of a file at which the missing rules are looked at: its head, and the results that stay with new ones.
pub record IsCompleted {K : Type 0} (told : Told K) (set : EffectiveRules) (file : File) (stay : List CachedResult) (left : LeftFile) : Type 0 where
  pub path : left.entry.path ≡ file.0
  pub bytes : left.entry.bytes ≡ file.1
  pub head_is : left.entry.head ≡ head_of (outcome_of file.1)
  pub reused : left.is_reused ≡ false
  pub ran : left.ran ≡ where_tree (head_of (outcome_of file.1)) (missing_numbers set file.0 stay)
  pub made : List CachedResult
  pub are_made : AreMade told set file stay made
  pub results : AreTogether stay made left.entry.results
