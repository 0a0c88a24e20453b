-- The steps to a cold report, for clauses: what they give, and what their refusals say.
use Rattle.std.specs.Prelude.{◌≡◌, ℕ, List, Result, Ok, Err}
use Rattle.std.specs.List.{AllZip}
use Rattle.pj_names.specs.declared.oracle.AskFault.{AskFault}
use Rattle.pj_names.specs.declared.oracle.AskFault.TheVariants as unanswered
use Rattle.pj_outside.specs.Faults.{Rises}
use Rattle.pj_outside.specs.Files.{Bytes, Files}
use Rattle.pj_reports.specs.declared.rows.FileRows.{FileRows}
use Rattle.pj_rule_sets.specs.Rules.{EffectiveRules}
use Rattle.pj_workers.specs.Cold.{AreRowsOf, World}
use Rattle.pj_workers.specs.JavaReplies.{java_replies}
use Rattle.pj_workers.specs.Rules.{AreRulesOf, Rule}

-- what is counted of a door with a fault of asking
abbrev pub CountsAskFault : ℕ → ℕ → AskFault → Type 0
CountsAskFault old new unanswered.Failed = Rises old new
CountsAskFault old new unanswered.Memory = new ≡ old

-- The door's faults rise exactly with `Failed`.
abbrev pub CountsDoorFaults : {A : Type 0} → ℕ → ℕ → Result A AskFault → Type 0
CountsDoorFaults old new (Ok a) = new ≡ old
CountsDoorFaults old new (Err fault) = CountsAskFault old new fault

-- the rows of files in a world, of the rules of the set
abbrev pub AreRows : World → EffectiveRules → Files → List (Bytes × FileRows) → Type 0
AreRows world set files rows = (rules : List Rule) → AreRulesOf set rules → AllZip (AreRowsOf java_replies world rules) files rows
