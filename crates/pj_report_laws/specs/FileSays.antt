-- What the rows of a file say: all of it, in one record. What rules mean is told from some depth of recursions on, so each record is for a depth.
use Rattle.std.specs.Prelude.{◌≡◌, ◌⊎◌, ◌↔◌, ◌<◌, ◌≤◌, ◌==◌, ℕ, false, List, [], ◌∷◌, Ok, Err, None, Some, filter, length, map, slice_get}
use Rattle.std.specs.List.{AllByRecursion, AllZip, list_any}
use Rattle.std.specs.List.Sorted.{IsStrictlySortedBy}
use Rattle.std.specs.Ordering.{nat_cmp}
use Rattle.pj_findings.specs.Extents.{extent_of}
use Rattle.pj_findings.specs.Laws.{is_of}
use Rattle.pj_findings.specs.Merged.{only_error}
use Rattle.pj_findings.specs.Messages.{rule_message}
use Rattle.pj_names.specs.declared.rule_row.ConfigError.{ConfigError}
use Rattle.pj_outside.specs.Files.{Bytes, Files}
use Rattle.pj_parse.specs.FileOutcome.{outcome_of}
use Rattle.pj_parse.specs.JavaFile.{JavaFile}
use Rattle.pj_parse.specs.Messages.{fault_message}
use Rattle.pj_parse.specs.declared.file_fault.FileFault.{FileFault}
use Rattle.pj_reports.specs.declared.report.Report.{Report}
use Rattle.pj_reports.specs.declared.rows.FileError.{FileError}
use Rattle.pj_reports.specs.declared.rows.FileRows.{FileRows}
use Rattle.pj_reports.specs.declared.rows.Finding.{Finding}
use Rattle.pj_symbols.specs.Names.{package_name}
use Rattle.pj_tree.specs.declared.node.Node.{Node}
use Rattle.pj_xaxes.specs.Order.{has_item}
use Rattle.pj_xvalue.specs.Items.{ItemValue, Element}
use Rattle.pj_xvalue.specs.declared.fault.XCode.{XCode}
use Rattle.pj_workers.specs.Cold.{IsCold, World}
use Rattle.pj_workers.specs.FileFacts.{place_of}
use Rattle.pj_workers.specs.FileMeaning.{Replies}
use Rattle.pj_workers.specs.Laws.{AreInOrder, IsAnalysed, IsOfOne}
use Rattle.pj_workers.specs.RuleFacts.{IsFirstCode, IsUncovered, items_in, reason_in}
use Rattle.pj_workers.specs.Rules.{Rule, is_active}

-- ---- the rows of one rule

-- the findings of the rule of a number
abbrev pub findings_of : ℕ → FileRows → List Finding
findings_of number rows = filter (λ (finding : Finding). finding.rule == number) rows.findings

-- the errors of the rule of a number
abbrev pub errors_of : ℕ → FileRows → List FileError
errors_of number rows = filter (is_of number) rows.errors

-- The rows say nothing of the rule of a number.
pub record SaysNothing (number : ℕ) (rows : FileRows) : Type 0 where
  -- They have no finding of it.
  pub findings : findings_of number rows ≡ []
  -- They have no error of it.
  pub errors : errors_of number rows ≡ []

-- The rows have just one error of the rule of a number, with this message.
abbrev pub HasOneError : ℕ → Bytes → FileRows → Type 0
HasOneError number message rows = errors_of number rows ≡ record { rule = Some number; message = message } ∷ []

module _ (replies : Replies) (world : World) (depth : ℕ) (path : Bytes) (java : JavaFile) (rule : Rule) where
  -- What a finding of the rule says of its node, in a file with this tree.
  pub record SaysOfNode (finding : Finding) : Type 0 where
    -- It begins and ends at the lines and the columns where the node does.
    pub place : record { begin = finding.begin; end = finding.end } ≡ extent_of (place_of java) java.tree (record { 0 = finding.node })
    -- Its reason is the first one that covers a finding there.
    pub reason : reason_in depth world (replies path java) java rule (record { 0 = finding.node }) ≡ Ok finding.reason
    -- It is not suppressed if and only if nothing covers it.
    pub reported : (finding.reason ≡ None) ↔ IsUncovered depth world (replies path java) java rule (record { 0 = finding.node })

  -- What rows say of the rule, which has this number.
  pub record SaysOfRule (number : ℕ) (rows : FileRows) : Type 0 where
    -- Without an error of the rule its findings are at exactly the nodes that its query denotes.
    pub nodes : errors_of number rows ≡ []
        → (values : List ItemValue) × (items_in depth world (replies path java) java rule ≡ Ok values) × ((n : Node) → list_any (λ (finding : Finding). finding.node == n.0) (findings_of number rows) ≡ has_item values (Element n))
    -- Its findings stand in the order of their nodes, and no node stands twice.
    pub once : IsStrictlySortedBy nat_cmp (map (λ (finding : Finding). finding.node) (findings_of number rows))
    -- Each of them stands at its node and has its reason.
    pub each : AllByRecursion SaysOfNode (findings_of number rows)
    -- The rule has one error if and only if a code is its first, and the message is that of the code.
    pub error : (message : Bytes) → HasOneError number message rows ↔ ((code : XCode) × IsFirstCode depth world (replies path java) java rule code × (message ≡ rule_message rule.source.texts.row.name code))
    -- It has no error, or it has one error in place of findings.
    pub either : (errors_of number rows ≡ []) ⊎ ((findings_of number rows ≡ []) × ((message : Bytes) × HasOneError number message rows))

-- ---- the rows of a file

-- What rows say of a file of this path and these bytes.
pub record SaysOfFile (replies : Replies) (world : World) (rules : List Rule) (depth : ℕ) (path bytes : Bytes) (rows : FileRows) : Type 0 where
  -- The findings stand by node and then by rule, none twice, and the errors by rule, none twice.
  pub in_order : AreInOrder rows
  -- Each finding is of one of the rules.
  pub of_rules : AllByRecursion (λ (finding : Finding). finding.rule < length rules) rows.findings
  -- A file without a tree has the one error that says why, and nothing else.
  pub no_tree : (fault : FileFault) → outcome_of bytes ≡ Err fault → rows ≡ only_error (fault_message fault)
  -- A file with a tree has the package that the tree declares.
  pub package_is : (java : JavaFile) → outcome_of bytes ≡ Ok java → rows.«package» ≡ package_name java.tree
  -- In a file with a tree each error is of one of the rules.
  pub errors_of_rules : (java : JavaFile) → outcome_of bytes ≡ Ok java → AllByRecursion (λ (error : FileError). IsOfOne (length rules) error.rule) rows.errors
  -- A rule that is not active for the path says nothing there.
  pub inactive : (number : ℕ) (rule : Rule) → slice_get rules number ≡ Some rule → is_active rule.source path ≡ false → SaysNothing number rows
  -- A rule that is active says what it means there, if the file has a tree.
  pub active : (number : ℕ) (java : JavaFile) (rule : Rule) → IsAnalysed path bytes rules number java rule → SaysOfRule replies world depth path java rule number rows

-- ---- cold reports

-- The rows of a path are those of a file: from some depth of recursions on they say this of it.
pub record SaysOfSource (replies : Replies) (world : World) (rules : List Rule) (file : Bytes × Bytes) (rows : Bytes × FileRows) : Type 0 where
  -- The path is that of the file.
  pub path : rows.0 ≡ file.0
  -- The depth of recursions from which on it is so.
  pub least : ℕ
  -- The rows say what the rules mean at the file.
  pub says : (depth : ℕ) → least ≤ depth → SaysOfFile replies world rules depth file.0 file.1 rows.1

-- So do the rows of each file of a cold report.
abbrev pub ColdSaysWhatRulesMean : Type 0
ColdSaysWhatRulesMean = (replies : Replies) (world : World) (files : Files) (rules : List Rule) (unusable : List ConfigError) (report : Report) → IsCold replies world files rules unusable report
    → AllZip (SaysOfSource replies world rules) files report.files
