-- The cold report: what rules mean at files over a world of classes, worked out from these alone.
use Rattle.std.specs.Prelude.{◌≡◌, Bool, IsTrue, List, Option, Ok, map}
use Rattle.std.specs.List.{AllZip}
use Rattle.pj_names.specs.Asking.{Asking}
use Rattle.pj_names.specs.declared.answer.Answer.{Answer}
use Rattle.pj_names.specs.ClassName.{Name, NameSet}
use Rattle.pj_names.specs.Meaning.{Gives, Means, whole}
use Rattle.pj_outside.specs.Files.{Bytes, Files}
use Rattle.pj_parse.specs.FileOutcome.{outcome_of}
use Rattle.pj_parse.specs.JavaFile.{JavaFile}
use Rattle.pj_reports.specs.declared.report.Report.{Report}
use Rattle.pj_reports.specs.declared.rows.FileRows.{FileRows}
use Rattle.pj_names.specs.declared.rule_row.ConfigError.{ConfigError}
use Rattle.pj_tree.specs.declared.node.Node.{Node}
use Rattle.pj_workers.specs.FileMeaning.{Replies, file_meaning}
use Rattle.pj_xlaws.specs.Laws.{Reply}
use Rattle.pj_workers.specs.Rules.{Rule}
use Rattle.pj_xexpressions.specs.declared.pmd_function.PmdFunction.{PmdFunction}
use Rattle.pj_xvalue.specs.Items.{ItemValue}

-- what the world answers for each name
abbrev pub World : Type 0
World = Name → Answer

-- The meaning of the rules at the file comes to these rows, with the names of this set asked. A meaning has no depth: this is
-- what it is from some depth of recursions on.
abbrev pub ComesTo : Replies → World → List Rule → Bytes → Bytes → FileRows → NameSet → Type 0
ComesTo replies world rules path bytes rows names = Means (whole world) (file_meaning replies path bytes rules) (Gives rows names)

-- A meaning comes to something over a world: from some depth of recursions on it has one value, and asks one set of names.
abbrev pub Settles : {A : Type 0} → World → Asking A → Type 0
Settles {A} world meaning = (value : A) × (names : NameSet) × Means (whole world) meaning (Gives value names)

-- Such functions of PMD reply so, whatever they are called with.
abbrev pub RepliesSettle : (PmdFunction → Bool) → World → Reply → Type 0
RepliesSettle may world reply = (function : PmdFunction) → IsTrue (may function) → (at : Option Node) (arguments : List (List ItemValue)) → Settles world (reply function at arguments)

-- So they reply in a file of a path, if its bytes have a tree.
abbrev pub SourceSettles : (PmdFunction → Bool) → Replies → World → Bytes × Bytes → Type 0
SourceSettles may replies world source = (file : JavaFile) → outcome_of source.1 ≡ Ok file → RepliesSettle may world (replies source.0 file)

-- What the rules mean at a file of a path comes to something.
abbrev pub FileSettles : Replies → World → List Rule → Bytes × Bytes → Type 0
FileSettles replies world rules file = Settles world (file_meaning replies file.0 file.1 rules)

-- the rows of a file of a path
pub record AreRowsOf (replies : Replies) (world : World) (rules : List Rule) (file : Bytes × Bytes) (rows : Bytes × FileRows) : Type 0 where
  pub path : rows.0 ≡ file.0
  pub names : NameSet
  pub comes : ComesTo replies world rules file.0 file.1 rows.1 names

-- The cold report of rules and configuration errors over files: the row of each rule, and the rows of each file, in their order.
pub record IsCold (replies : Replies) (world : World) (files : Files) (rules : List Rule) (unusable : List ConfigError) (report : Report) : Type 0 where
  pub rules_are : report.rules ≡ map (λ rule. rule.source.texts.row) rules
  pub files_are : AllZip (AreRowsOf replies world rules) files report.files
  pub errors_are : report.errors ≡ unusable
