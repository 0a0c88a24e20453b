-- The cold report of a set of rules over class folders.
use Rattle.std.specs.Prelude.{List}
use Rattle.pj_outside.specs.Doors.{ClassFolders, opened}
use Rattle.pj_outside.specs.Files.{Bytes, Files}
use Rattle.pj_reports.specs.declared.report.Report.{Report}
use Rattle.pj_rule_sets.specs.Rules.{EffectiveRules}
use Rattle.pj_table.specs.ClassWorld.{folders_world}
use Rattle.pj_workers.specs.Cold.{IsCold, World}
use Rattle.pj_workers.specs.JavaReplies.{java_replies}
use Rattle.pj_workers.specs.Rules.{AreRulesOf, Rule}

-- what the class folders of these names answer: each name of a class has the answer of the first folder with the class's file
abbrev pub world_of : ClassFolders → List Bytes → World
world_of classes names = (folders_world (opened classes names)).answer

-- The report is the cold one of the set over the sources in this world: of its rules with the expressions that their texts spell.
pub record IsColdOf (world : World) (sources : Files) (set : EffectiveRules) (report : Report) : Type 0 where
  pub rules : List Rule
  pub are_rules : AreRulesOf set rules
  pub cold : IsCold java_replies world sources rules set.unusable report
