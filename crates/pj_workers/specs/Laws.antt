-- What follows from the definitions.
use Rattle.std.specs.Prelude.{◌≡◌, ◌≤◌, Option, ◌⊎◌, ◌↔◌, ◌<◌, ◌==◌, ◌&&◌, ℕ, Bool, true, false, List, [], ◌∷◌, filter, flat_map, length, map, slice_get, Ok, Err, None, Some}
use Rattle.std.specs.List.{AllByRecursion, AllZip, list_any}
use Rattle.std.specs.List.Sorted.{IsStrictlySortedBy}
use Rattle.std.specs.Str.{IsUtf8}
use Rattle.pj_grammar.specs.Words.{seen}
use Rattle.pj_lex.specs.declared.token.Token.{Token}
use Rattle.pj_suppress.specs.Marks as marks
use Rattle.pj_suppress.specs.Words.{Text}
use Rattle.pj_findings.specs.Laws.{IsAscending, error_order, finding_order, is_of}
use Rattle.pj_findings.specs.Merged.{error_by, finding_of, found_by, merge, only_error}
use Rattle.pj_findings.specs.Extents.{extent_of}
use Rattle.pj_findings.specs.Messages.{rule_message}
use Rattle.pj_reports.specs.declared.ruled.Spot.{Spot}
use Rattle.pj_names.specs.Asking.{Return, bind, names_of, value_of}
use Rattle.pj_outside.specs.Files.{Bytes, Files}
use Rattle.pj_parse.specs.FileOutcome.{outcome_of}
use Rattle.pj_parse.specs.JavaFile.{JavaFile}
use Rattle.pj_parse.specs.declared.file_fault.FileFault.{FileFault}
use Rattle.pj_reports.specs.declared.report.Report.{Report}
use Rattle.pj_reports.specs.declared.rows.FileRows.{FileRows}
use Rattle.pj_reports.specs.declared.rows.FileError.{FileError}
use Rattle.pj_reports.specs.declared.rows.Finding.{Finding}
use Rattle.pj_reports.specs.declared.ruled.Ruled.{Ruled}
use Rattle.pj_reports.specs.declared.ruled.Ruled.TheVariants.{Spots, Message}
use Rattle.pj_symbols.specs.Names.{package_name}
use Rattle.pj_tree.specs.declared.node.Node.{Node}
use Rattle.pj_xaxes.specs.Order.{has_item}
use Rattle.pj_xexpressions.specs.declared.pmd_function.PmdFunction.{PmdFunction}
use Rattle.pj_workers.specs.Plain.{RepliesPlain}
use Rattle.pj_xvalue.specs.Items.{ItemValue, Element}
use Rattle.pj_xvalue.specs.declared.fault.XCode.{XCode}
use Rattle.pj_names.specs.declared.rule_row.ConfigError.{ConfigError}
use Rattle.pj_workers.specs.Calls.{RuleCallsOnly, asks_nothing}
use Rattle.pj_workers.specs.Chosen.{chosen_meaning, numbers_to}
use Rattle.pj_workers.specs.Cold.{FileSettles, IsCold, SourceSettles, World}
use Rattle.pj_parse.specs.Messages.{fault_message}
use Rattle.pj_workers.specs.FileFacts.{place_of}
use Rattle.pj_workers.specs.FileMeaning.{Replies, file_meaning, head_of, nothing, rule_meaning}
use Rattle.pj_workers.specs.JavaReplies.{java_replies}
use Rattle.pj_workers.specs.Marked.{is_marked}
use Rattle.pj_workers.specs.RuleFacts.{IsFirstCode, IsUncovered, items_in, reason_in}
use Rattle.pj_xlaws.specs.Laws.{Reply}
use Rattle.pj_workers.specs.RuleMeaning.{rule_in_file}
use Rattle.pj_workers.specs.Rules.{IsSpelled, Rule, is_active}

-- A rule that is not active for a path means nothing there, and asks nothing.
abbrev pub InactiveIsNothing : Type 0
InactiveIsNothing = (replies : Replies) (path bytes : Bytes) (rule : Rule) → is_active rule.source path ≡ false → rule_meaning replies path bytes rule ≡ nothing

-- Whatever the rules, a file without a tree has its one error, and nothing is asked.
abbrev pub NoTreeIsOneError : Type 0
NoTreeIsOneError = (replies : Replies) (path bytes : Bytes) (rules : List Rule) (fault : FileFault) → outcome_of bytes ≡ Err fault
    → file_meaning replies path bytes rules ≡ Return (only_error (fault_message fault))

-- What a rule finds in a file ascends: no node stands twice.
abbrev pub RuleAscends : Type 0
RuleAscends = (replies : Replies) (world : World) (depth : ℕ) (path bytes : Bytes) (rule : Rule) → IsAscending (value_of depth world (rule_meaning replies path bytes rule))

-- There is one cold report at most.
abbrev pub OneCold : Type 0
OneCold = (replies : Replies) (world : World) (files : Files) (rules : List Rule) (unusable : List ConfigError) (r s : Report)
    → IsCold replies world files rules unusable r → IsCold replies world files rules unusable s → r ≡ s

-- Where the functions of PMD that rules call reply without asking for a class, the rules have a cold report of files, and it is the same over every world.
abbrev pub SomeCold : Type 0
SomeCold = (replies : Replies) (may : PmdFunction → Bool) → ((path : Bytes) (file : JavaFile) → RepliesPlain may (replies path file))
    → (files : Files) (rules : List Rule) (unusable : List ConfigError) → AllByRecursion (RuleCallsOnly may) rules
    → (report : Report) × ((world : World) → IsCold replies world files rules unusable report)

-- Where what rules mean at each file comes to something over a world, they have a cold report of the files over it.
abbrev pub SettledCold : Type 0
SettledCold = (replies : Replies) (world : World) (files : Files) (rules : List Rule) (unusable : List ConfigError) → AllByRecursion (FileSettles replies world rules) files
    → (report : Report) × IsCold replies world files rules unusable report

-- What rules mean at a file comes to something over a world, if what the functions of PMD that they call reply there does.
abbrev pub SettleByReplies : Type 0
SettleByReplies = (replies : Replies) (may : PmdFunction → Bool) (world : World) (path bytes : Bytes) (rules : List Rule) → AllByRecursion (RuleCallsOnly may) rules
    → SourceSettles may replies world (path, bytes) → FileSettles replies world rules (path, bytes)

-- All functions of PMD but four ask for no class in a Java file, and recur within bounds.
abbrev pub OnlyTypesAsk : Type 0
OnlyTypesAsk = (path : Bytes) (file : JavaFile) → RepliesPlain asks_nothing (java_replies path file)

-- So rules that call none of these four come to something at every file, over every world.
abbrev pub SettleWithoutTypes : Type 0
SettleWithoutTypes = (world : World) (path bytes : Bytes) (rules : List Rule) → AllByRecursion (RuleCallsOnly asks_nothing) rules → FileSettles java_replies world rules (path, bytes)

-- A finding stands where its node does.
abbrev pub StandsAtNode : JavaFile → Spot → Type 0
StandsAtNode file found = record { begin = found.begin; end = found.end } ≡ extent_of (place_of file) file.tree (record { 0 = found.node })

-- So do all that a rule finds in a file.
abbrev pub SpotsAreNodes : Type 0
SpotsAreNodes = (reply : Reply) (world : World) (depth : ℕ) (file : JavaFile) (rule : Rule) → AllByRecursion (StandsAtNode file) (found_by (value_of depth world (rule_in_file reply file rule)))

-- ---- the rows of a file

-- They stand in order: the findings by node and then by rule, none twice, and the errors by rule.
pub record AreInOrder (rows : FileRows) : Type 0 where
  pub findings : IsStrictlySortedBy finding_order rows.findings
  pub errors : IsStrictlySortedBy error_order rows.errors

-- Of the rule of a number they have just what the rule came to: findings, or an error.
pub record AreOfRule (rows : FileRows) (number : ℕ) (came_to : Ruled) : Type 0 where
  pub findings : filter (λ (finding : Finding). finding.rule == number) rows.findings ≡ map (finding_of number) (found_by came_to)
  pub errors : filter (is_of number) rows.errors ≡ error_by number came_to
  pub either : (found_by came_to ≡ []) ⊎ (error_by number came_to ≡ [])

-- What rules mean at a file stands in order, whatever the functions of PMD reply, over every world and at each depth.
abbrev pub FilesAreInOrder : Type 0
FilesAreInOrder = (replies : Replies) (world : World) (depth : ℕ) (path bytes : Bytes) (rules : List Rule) → AreInOrder (value_of depth world (file_meaning replies path bytes rules))

-- Of each rule it has what this rule alone means at the file.
abbrev pub FilesAreTheirRules : Type 0
FilesAreTheirRules = (replies : Replies) (world : World) (depth : ℕ) (path bytes : Bytes) (rules : List Rule) (number : ℕ) (rule : Rule) → slice_get rules number ≡ Some rule
    → AreOfRule (value_of depth world (file_meaning replies path bytes rules)) number (value_of depth world (rule_meaning replies path bytes rule))

-- Each finding is of one of the rules.
abbrev pub FindingsHaveRules : Type 0
FindingsHaveRules = (replies : Replies) (world : World) (depth : ℕ) (path bytes : Bytes) (rules : List Rule)
    → AllByRecursion (λ (finding : Finding). finding.rule < length rules) (value_of depth world (file_meaning replies path bytes rules)).findings

-- an error is of one of so many rules
abbrev pub IsOfOne : ℕ → Option ℕ → Type 0
IsOfOne count None = ⊥
IsOfOne count (Some number) = number < count

-- So is each error of a file that has a tree, and its package is that of the tree.
abbrev pub ErrorsHaveRules : Type 0
ErrorsHaveRules = (replies : Replies) (world : World) (depth : ℕ) (path bytes : Bytes) (rules : List Rule) (file : JavaFile) → outcome_of bytes ≡ Ok file
    → AllByRecursion (λ (error : FileError). IsOfOne (length rules) error.rule) (value_of depth world (file_meaning replies path bytes rules)).errors

abbrev pub PackagesAreOfTrees : Type 0
PackagesAreOfTrees = (replies : Replies) (world : World) (depth : ℕ) (path bytes : Bytes) (rules : List Rule) (file : JavaFile) → outcome_of bytes ≡ Ok file
    → (value_of depth world (file_meaning replies path bytes rules)).«package» ≡ package_name file.tree

-- The names that it asks are those that its rules ask, one rule after the other.
abbrev pub NamesAreTheirRules : Type 0
NamesAreTheirRules = (replies : Replies) (world : World) (depth : ℕ) (path bytes : Bytes) (rules : List Rule)
    → names_of depth world (file_meaning replies path bytes rules) ≡ flat_map (λ rule. names_of depth world (rule_meaning replies path bytes rule)) rules

-- What the rules of all numbers come to, one after the other, is merged with the head of the file to what they mean together there.
abbrev pub ChosenAreFile : Type 0
ChosenAreFile = (replies : Replies) (path bytes : Bytes) (rules : List Rule)
    → file_meaning replies path bytes rules ≡ bind (chosen_meaning replies path bytes (numbers_to (length rules)) rules) (λ results. Return (merge (head_of (outcome_of bytes)) results))

-- ---- what a rule comes to in a file

-- The nodes that a rule finds in a file are the elements that its query denotes there.
abbrev pub FoundAreDenoted : Type 0
FoundAreDenoted = (reply : Reply) (world : World) (depth : ℕ) (file : JavaFile) (rule : Rule) (spots : List Spot) → value_of depth world (rule_in_file reply file rule) ≡ Spots spots
    → (values : List ItemValue) × (items_in depth world reply file rule ≡ Ok values) × ((n : Node) → list_any (λ (spot : Spot). spot.node == n.0) spots ≡ has_item values (Element n))

-- It comes to a message exactly where its query, the items of that, or the reason at one of its nodes is a code, and the message
-- tells the first of these.
abbrev pub MessagesTellCodes : Type 0
MessagesTellCodes = (reply : Reply) (world : World) (depth : ℕ) (file : JavaFile) (rule : Rule) (message : Bytes)
    → (value_of depth world (rule_in_file reply file rule) ≡ Message message) ↔ ((code : XCode) × IsFirstCode depth world reply file rule code × (message ≡ rule_message rule.source.texts.row.name code))

-- The reason of a finding is the first that covers it at its node, and none exactly where nothing does.
pub record HasItsReason (depth : ℕ) (world : World) (reply : Reply) (file : JavaFile) (rule : Rule) (spot : Spot) : Type 0 where
  pub first : reason_in depth world reply file rule (record { 0 = spot.node }) ≡ Ok spot.reason
  pub none : (spot.reason ≡ None) ↔ IsUncovered depth world reply file rule (record { 0 = spot.node })

-- So it is for all that a rule finds in a file.
abbrev pub SpotsHaveReasons : Type 0
SpotsHaveReasons = (reply : Reply) (world : World) (depth : ℕ) (file : JavaFile) (rule : Rule) (spots : List Spot) → value_of depth world (rule_in_file reply file rule) ≡ Spots spots
    → AllByRecursion (HasItsReason depth world reply file rule) spots

-- ---- from end to end

-- the bytes of a file have this tree, and the rule of this number is active for its path
pub record IsAnalysed (path bytes : Bytes) (rules : List Rule) (number : ℕ) (file : JavaFile) (rule : Rule) : Type 0 where
  pub tree : outcome_of bytes ≡ Ok file
  pub numbered : slice_get rules number ≡ Some rule
  pub active : is_active rule.source path ≡ true

-- whether a finding is of the rule of a number, and at a node
abbrev pub is_finding : ℕ → Node → Finding → Bool
is_finding number n finding = (finding.rule == number) && (finding.node == n.0)

-- Where the rows of a file have no error of the rule of a number, they have a finding of it at a node exactly where its query
-- denotes the node.
abbrev pub FindingsAreDenoted : Type 0
FindingsAreDenoted = (replies : Replies) (world : World) (depth : ℕ) (path bytes : Bytes) (rules : List Rule) (number : ℕ) (file : JavaFile) (rule : Rule) → IsAnalysed path bytes rules number file rule
    → filter (is_of number) (value_of depth world (file_meaning replies path bytes rules)).errors ≡ []
    → (values : List ItemValue) × (items_in depth world (replies path file) file rule ≡ Ok values)
    × ((n : Node) → list_any (is_finding number n) (value_of depth world (file_meaning replies path bytes rules)).findings ≡ has_item values (Element n))

-- They have an error of it with a message exactly where a code of it is the first, and this is the code's message.
abbrev pub ErrorsTellCodes : Type 0
ErrorsTellCodes = (replies : Replies) (world : World) (depth : ℕ) (path bytes : Bytes) (rules : List Rule) (number : ℕ) (file : JavaFile) (rule : Rule) (message : Bytes) → IsAnalysed path bytes rules number file rule
    → (filter (is_of number) (value_of depth world (file_meaning replies path bytes rules)).errors ≡ record { rule = Some number; message = message } ∷ [])
    ↔ ((code : XCode) × IsFirstCode depth world (replies path file) file rule code × (message ≡ rule_message rule.source.texts.row.name code))

-- ---- cold reports

-- A cold report has the files in their order, and the rows of each stand in order.
abbrev pub ColdIsInOrder : Type 0
ColdIsInOrder = (replies : Replies) (world : World) (files : Files) (rules : List Rule) (unusable : List ConfigError) (report : Report) → IsCold replies world files rules unusable report
    → (map (λ (of_file : Bytes × FileRows). of_file.0) report.files ≡ map (λ (file : Bytes × Bytes). file.0) files) × AllByRecursion (λ (of_file : Bytes × FileRows). AreInOrder of_file.1) report.files

-- What rows say of the rule of a number, of a file with this tree, where recursions go at most so deep: without an error of it, its
-- findings are at just the nodes that its query denotes; and each of its findings has its reason.
pub record AreDenoted (replies : Replies) (world : World) (depth : ℕ) (path : Bytes) (number : ℕ) (java : JavaFile) (rule : Rule) (rows : FileRows) : Type 0 where
  pub nodes : filter (is_of number) rows.errors ≡ []
      → (values : List ItemValue) × (items_in depth world (replies path java) java rule ≡ Ok values) × ((n : Node) → list_any (is_finding number n) rows.findings ≡ has_item values (Element n))
  pub reasons : (spots : List Spot) × (filter (λ (finding : Finding). finding.rule == number) rows.findings ≡ map (finding_of number) spots) × AllByRecursion (HasItsReason depth world (replies path java) java rule) spots

-- The rows of a file are what the rules mean there from some depth of recursions on, and so they say of each rule that is active for the path.
pub record FindWhatIsDenoted (replies : Replies) (world : World) (rules : List Rule) (file : Bytes × Bytes) (rows : Bytes × FileRows) : Type 0 where
  pub least : ℕ
  pub meant : (depth : ℕ) → least ≤ depth → value_of depth world (file_meaning replies file.0 file.1 rules) ≡ rows.1
  pub denoted : (depth : ℕ) → least ≤ depth → (number : ℕ) (java : JavaFile) (rule : Rule) → IsAnalysed file.0 file.1 rules number java rule → AreDenoted replies world depth file.0 number java rule rows.1

-- So do the rows of each file of a cold report.
abbrev pub ColdFindsWhatIsDenoted : Type 0
ColdFindsWhatIsDenoted = (replies : Replies) (world : World) (files : Files) (rules : List Rule) (unusable : List ConfigError) (report : Report) → IsCold replies world files rules unusable report
    → AllZip (FindWhatIsDenoted replies world rules) files report.files

-- ---- rules by their texts

-- Rules of one source mean the same: what a rule means is determined by its texts, the path patterns of its ruleset and the marker.
abbrev pub RulesAreTexts : Type 0
RulesAreTexts = (replies : Replies) (path bytes : Bytes) (a b : Rule) → a.source ≡ b.source → IsSpelled a → IsSpelled b → rule_meaning replies path bytes a ≡ rule_meaning replies path bytes b

-- Lists of rules of the same sources, each spelled.
abbrev pub AreAlike : List Rule → List Rule → Type 0
AreAlike = AllZip (λ a b. (a.source ≡ b.source) × IsSpelled a × IsSpelled b)

-- So do lists of them.
abbrev pub ListsAreTexts : Type 0
ListsAreTexts = (replies : Replies) (path bytes : Bytes) (xs ys : List Rule) → AreAlike xs ys → file_meaning replies path bytes xs ≡ file_meaning replies path bytes ys

-- The lines that are marked are those that the tokens of the program mark.
abbrev pub MarksAreOne : Type 0
MarksAreOne = (file : JavaFile) (tokens : List Token) (marker : Text) (line : ℕ) → file.tokens ≡ map seen tokens → AllByRecursion (λ token. IsUtf8 token.text.now) tokens
    → is_marked file marker line ≡ marks.is_marked file.source tokens marker line
