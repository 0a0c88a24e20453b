-- What rules mean at a file: the head of the file with the meaning of each rule, one after the other, merged by node and rule. Each
-- part is a function of the path, the bytes and one rule, so that what is kept of one rule in one file can be used again.
use Rattle.std.specs.Prelude.{List, [], Result, Ok, Err, if◌then◌else◌}
use Rattle.pj_findings.specs.Merged.{merge}
use Rattle.pj_reports.specs.declared.ruled.Head.{Head}
use Rattle.pj_reports.specs.declared.ruled.Head.TheVariants.{Package, Message}
use Rattle.pj_reports.specs.declared.ruled.Ruled.{Ruled}
use Rattle.pj_reports.specs.declared.ruled.Ruled.TheVariants.{Spots}
use Rattle.pj_names.specs.Asking.{Asking, Return, bind, each}
use Rattle.pj_outside.specs.Files.{Bytes}
use Rattle.pj_parse.specs.FileOutcome.{outcome_of}
use Rattle.pj_parse.specs.JavaFile.{JavaFile}
use Rattle.pj_parse.specs.declared.file_fault.FileFault.{FileFault}
use Rattle.pj_reports.specs.declared.rows.FileRows.{FileRows}
use Rattle.pj_symbols.specs.Names.{package_name}
use Rattle.pj_parse.specs.Messages.{fault_message}
use Rattle.pj_xlaws.specs.Laws.{Reply}
use Rattle.pj_workers.specs.RuleMeaning.{rule_in_file}
use Rattle.pj_workers.specs.Rules.{Rule, is_active}

-- what the functions of PMD reply in a file of a path
abbrev pub Replies : Type 0
Replies = Bytes → JavaFile → Reply

-- what is said of a file beside its rules: the name of its package, or the message that says why it has no tree
abbrev pub head_of : Result JavaFile FileFault → Head
head_of (Ok file) = Package (package_name file.tree)
head_of (Err fault) = Message (fault_message fault)

-- what comes of a rule that is not active, or where there is no tree: nothing, and nothing is asked
abbrev pub nothing : Asking Ruled
nothing = Return (Spots [])

module _ (replies : Replies) where
  abbrev pub rule_at : Bytes → Result JavaFile FileFault → Rule → Asking Ruled
  rule_at path (Err fault) rule = nothing
  rule_at path (Ok file) rule = if is_active rule.source path then rule_in_file (replies path file) file rule else nothing

  -- what a rule means at a file of these bytes
  abbrev pub rule_meaning : Bytes → Bytes → Rule → Asking Ruled
  rule_meaning path bytes rule = rule_at path (outcome_of bytes) rule

  -- what rules mean together at a file with this outcome
  abbrev pub file_at : Bytes → Result JavaFile FileFault → List Rule → Asking FileRows
  file_at path outcome rules = bind (each (rule_at path outcome) rules) (λ results. Return (merge (head_of outcome) results))

  -- what they mean together at a file of these bytes
  abbrev pub file_meaning : Bytes → Bytes → List Rule → Asking FileRows
  file_meaning path bytes rules = file_at path (outcome_of bytes) rules
