-- How many classes are looked for in class folders where there is no cache.
use Rattle.std.specs.Prelude.{◌≡◌, ℕ, List, [], ◌∷◌}
use Rattle.std.specs.FinSet as name_sets
use Rattle.std.specs.List.{AllZip}
use Rattle.pj_names.specs.ClassName.{NameSet}
use Rattle.pj_outside.specs.Doors.{count_and}
use Rattle.pj_outside.specs.Files.{Bytes, Files}
use Rattle.pj_reports.specs.declared.rows.FileRows.{FileRows}
use Rattle.pj_rule_sets.specs.Rules.{EffectiveRules}
use Rattle.pj_workers.specs.Cold.{ComesTo, World}
use Rattle.pj_workers.specs.JavaReplies.{java_replies}
use Rattle.pj_workers.specs.Rules.{AreRulesOf, Rule}

-- What the rules mean at a file asks for just these classes.
pub record AskAt (world : World) (rules : List Rule) (file : Bytes × Bytes) (names : NameSet) : Type 0 where
  pub rows : FileRows
  pub comes : ComesTo java_replies world rules file.0 file.1 rows names

-- sets of names, together
abbrev pub all_of : List NameSet → NameSet
all_of [] = name_sets.empty
all_of (names ∷ more) = name_sets.union names (all_of more)

-- What the rules of a set mean at sources asks for just these classes, together.
pub record AskAtAll (world : World) (sources : Files) (set : EffectiveRules) (names : NameSet) : Type 0 where
  pub rules : List Rule
  pub are_rules : AreRulesOf set rules
  pub of_files : List NameSet
  pub each : AllZip (AskAt world rules) sources of_files
  pub all : names ≡ all_of of_files

-- The finds rise by the number of names of a set, or to the greatest number that a count can have.
abbrev pub CountsNames : ℕ → ℕ → NameSet → Type 0
CountsNames old new names = new ≡ count_and old (name_sets.len names)

-- They rise by the number of classes for which what the rules of a set mean at sources asks: each is looked for once.
pub record CountsAsked (world : World) (sources : Files) (set : EffectiveRules) (old new : ℕ) : Type 0 where
  pub names : NameSet
  pub asked : AskAtAll world sources set names
  pub counts : CountsNames old new names
