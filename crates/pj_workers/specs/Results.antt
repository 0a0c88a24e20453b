-- What comes of a file over an oracle: the rows, and what each rule came to, with the classes on which they rest.
use Rattle.std.specs.Prelude.{◌≡◌, List, [], Result, Ok, Err, IsTrue, map}
use Rattle.std.specs.Cmp.Lexicographic.{slice_cmp}
use Rattle.std.specs.List.{AllZip}
use Rattle.std.specs.List.Sorted.{IsStrictlySortedBy}
use Rattle.std.specs.Ordering.{nat_cmp}
use Rattle.pj_findings.specs.Merged.{merge}
use Rattle.pj_findings.specs.declared.run.RuleRun.{RuleRun}
use Rattle.pj_names.specs.Asking.{Asking}
use Rattle.pj_names.specs.ClassName.{Name, name_set}
use Rattle.pj_names.specs.Held.{IsHeld}
use Rattle.pj_names.specs.Told.{Told}
use Rattle.pj_parse.specs.FileOutcome.{outcome_of}
use Rattle.pj_parse.specs.JavaFile.{JavaFile}
use Rattle.pj_parse.specs.declared.file_fault.FileFault.{FileFault}
use Rattle.pj_reports.specs.declared.ruled.Ruled.{Ruled}
use Rattle.pj_outside.specs.Files.{Bytes}
use Rattle.pj_workers.specs.FileMeaning.{Replies, file_meaning, head_of, rule_meaning}
use Rattle.pj_workers.specs.Rules.{Rule}
use Rattle.pj_workers.specs.declared.result.FileResult.{FileResult}

-- A value rests on these names, in the order of their bytes, each once: where the oracle tells its worlds, the meaning gives this
-- value in them, and it asks just these names.
pub record RestsOn {K A : Type 0} (told : Told K) (meaning : Asking A) (value : A) (names : List Name) : Type 0 where
  pub ascending : IsStrictlySortedBy (slice_cmp nat_cmp) names
  pub held : IsTrue told.is_told → IsHeld told.world meaning value (name_set names)

-- the rules that are looked at in a file with this outcome: none where there is no tree
abbrev pub rules_in : Result JavaFile FileFault → List Rule → List Rule
rules_in (Ok file) rules = rules
rules_in (Err fault) rules = []

-- what rules came to
abbrev pub came_to : List RuleRun → List Ruled
came_to runs = map (λ (run : RuleRun). run.rows) runs

-- What comes of rules in a file of a path and these bytes: the rows are the file's meaning; what each rule came to is the rule's
-- meaning, with names of its own; and the rows are the head with these, merged.
pub record IsResultOf {K : Type 0} (told : Told K) (replies : Replies) (path bytes : Bytes) (rules : List Rule) (found : FileResult) : Type 0 where
  pub rows : RestsOn told (file_meaning replies path bytes rules) found.rows found.names
  pub runs : AllZip (λ rule run. RestsOn told (rule_meaning replies path bytes rule) run.rows run.names) (rules_in (outcome_of bytes) rules) found.runs
  pub merged : found.rows ≡ merge (head_of (outcome_of bytes)) (came_to found.runs)

-- What comes of a file, with its path.
pub record IsResultAt {K : Type 0} (told : Told K) (replies : Replies) (rules : List Rule) (file : Bytes × Bytes) (found : Bytes × FileResult) : Type 0 where
  pub path : found.0 ≡ file.0
  pub result : IsResultOf told replies file.0 file.1 rules found.1
