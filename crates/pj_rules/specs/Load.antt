-- What a load gives: the rules of the files that are named, with their configuration errors, or the first fault in the order of reading.
use Rattle.std.specs.Prelude.{◌≡◌, ℕ, ◌+◌, ◌<◌, true, false, List, [], ◌∷◌, ◌++◌, length, Option, Some, None, nat_le, if◌then◌else◌}
use Rattle.std.specs.List.{filter_map, flat_map}
use Rattle.pj_outside.specs.Files.{Files}
use Rattle.pj_rule_texts.specs.Files.{IsRead, is_there}
use Rattle.pj_rule_sets.specs.Lists.{Taken, not_available, referred_in}
use Rattle.pj_rule_sets.specs.declared.entry.Entry.TheVariants as entry
use Rattle.pj_names.specs.declared.rule_row.ConfigError.{ConfigError}
use Rattle.pj_rule_texts.specs.References.{is_from_elsewhere}
use Rattle.pj_rule_texts.specs.Values.{Text}
use Rattle.pj_rule_texts.specs.declared.written.Part.{Part}
use Rattle.pj_rule_texts.specs.declared.written.Part.TheVariants as part
use Rattle.pj_rule_texts.specs.declared.written.WrittenRuleset.{WrittenRuleset}
use Rattle.pj_rules.specs.Effective.{AddAll, AreJudged, FileFaults, nothing}
use Rattle.pj_rule_sets.specs.Rules.{EffectiveRule, EffectiveRules, rule_of}
use Rattle.pj_rules.specs.declared.fault.RuleFault.{RuleFault}
use Rattle.pj_rules.specs.declared.fault.RuleWhat.TheVariants.{MissingRef}
use Rattle.pj_rules.specs.declared.progress.Progress.{Progress}

-- a top ruleset: its list, and its path patterns
pub record TopRules : Type 0 where
  pub list : List Taken
  pub exclude : List Text
  pub include : List Text

abbrev pub exclude_of : Part → Option Text
exclude_of (part.ExcludePattern pattern) = Some pattern
exclude_of _ = None

abbrev pub include_of : Part → Option Text
include_of (part.IncludePattern pattern) = Some pattern
include_of _ = None

module _ (files : Files) where
  -- what stands for a path that is named, which is looked up as written: the ruleset that is there, or a rule that is not available
  pub data IsTop (path : Text) : TopRules → Type 0 where
    file : {written : WrittenRuleset} {progress : Progress} → IsRead files path written → AddAll files path written.rule_set nothing written.parts progress →
        AreJudged true written.parts →
        IsTop path (record { list = progress.list; exclude = filter_map exclude_of written.parts; include = filter_map include_of written.parts })
    elsewhere : is_there files path ≡ false → is_from_elsewhere path ≡ true →
        IsTop path (record { list = (referred_in path path, not_available None path) ∷ []; exclude = []; include = [] })

  pub data IsTopFault (path : Text) : RuleFault → Type 0 where
    file : {fault : RuleFault} → FileFaults files true (path ∷ []) path fault → IsTopFault path fault
    missing : is_there files path ≡ false → is_from_elsewhere path ≡ false → IsTopFault path (record { path = path; what = MissingRef path })

  pub data AreTops : List Text → List TopRules → Type 0 where
    none : AreTops [] []
    more : {path : Text} {paths : List Text} {top : TopRules} {tops : List TopRules} → IsTop path top → AreTops paths tops → AreTops (path ∷ paths) (top ∷ tops)

  -- the first fault in the order of reading: each path that is named is read to its end before the next one
  pub record IsFirstFault (paths : List Text) (fault : RuleFault) : Type 0 where
    pub before : List Text
    pub path : Text
    pub behind : List Text
    pub tops : List TopRules
    pub stands : paths ≡ before ++ path ∷ behind
    pub fine : AreTops before tops
    pub is_fault : IsTopFault path fault

-- rules of a priority number above the minimum are dropped
abbrev pub kept_rule : ℕ → ℕ → List Text → List Text → Taken → Option EffectiveRule
kept_rule minimum number exclude include (origin, entry.Rule texts) = if nat_le texts.row.priority minimum then Some (rule_of number exclude include texts) else None
kept_rule minimum number exclude include (origin, entry.Unusable unusable) = None

-- configuration errors stay
abbrev pub error_of : Taken → Option ConfigError
error_of (origin, entry.Rule texts) = None
error_of (origin, entry.Unusable unusable) = Some unusable.error

abbrev pub rules_of_top : ℕ → ℕ → TopRules → List EffectiveRule
rules_of_top minimum number top = filter_map (kept_rule minimum number top.exclude top.include) top.list

abbrev pub errors_of_top : TopRules → List ConfigError
errors_of_top top = filter_map error_of top.list

-- top rulesets are numbered in their order
abbrev pub rules_from : ℕ → ℕ → List TopRules → List EffectiveRule
rules_from minimum number [] = []
rules_from minimum number (top ∷ tops) = rules_of_top minimum number top ++ rules_from minimum (number + 1) tops

abbrev pub effective : ℕ → Text → List TopRules → EffectiveRules
effective minimum marker tops = record { rules = rules_from minimum 0 tops; unusable = flat_map errors_of_top tops; marker = marker }

-- how many rules there are, unusable ones included
abbrev pub count_of : EffectiveRules → ℕ
count_of rules = length rules.rules + length rules.unusable

abbrev pub greatest_count : ℕ
greatest_count = 2000

-- The rules of the files that are named, with this minimum priority and marker.
pub record IsEffective (files : Files) (paths : List Text) (minimum : ℕ) (marker : Text) (rules : EffectiveRules) : Type 0 where
  pub tops : List TopRules
  pub are_tops : AreTops files paths tops
  pub is : rules ≡ effective minimum marker tops

-- There are more rules than may be: so many.
pub record AreTooMany (files : Files) (paths : List Text) (minimum : ℕ) (marker : Text) (count : ℕ) : Type 0 where
  pub rules : EffectiveRules
  pub effective_rules : IsEffective files paths minimum marker rules
  pub counted : count ≡ count_of rules
  pub too_many : greatest_count < count
