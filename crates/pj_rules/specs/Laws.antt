-- Laws of the definitions.
use Rattle.std.specs.Prelude.{◌≡◌, ◌≢◌, ◌⊎◌, ℕ, IsTrue, List}
use Rattle.std.specs.List.{AllByRecursion}
use Rattle.pj_markup.specs.Depth.{greatest_depth}
use Rattle.pj_markup.specs.Faults as markup
use Rattle.pj_markup.specs.Markup.{Doc}
use Rattle.pj_markup.specs.declared.element.Row.{Row}
use Rattle.pj_markup.specs.declared.reading.MarkupFault.{MarkupFault}
use Rattle.pj_markup.specs.declared.reading.MarkupFault.TheVariants.{Memory}
use Rattle.pj_outside.specs.Files.{Files}
use Rattle.pj_rule_sets.specs.Expressions.{IsSound}
use Rattle.pj_rule_sets.specs.Lists.{Taken}
use Rattle.pj_rule_sets.specs.Rules.{EffectiveRule, EffectiveRules, texts_of}
use Rattle.pj_rule_texts.specs.Files.{IsRead, IsUnreadable, is_there}
use Rattle.pj_rule_texts.specs.Values.{Text}
use Rattle.pj_rule_texts.specs.declared.file_fault.FileFault.{FileFault}
use Rattle.pj_rule_texts.specs.declared.written.WrittenRuleset.{WrittenRuleset}
use Rattle.pj_rules.specs.Effective.{HasRules}
use Rattle.pj_rules.specs.Load.{IsEffective, IsFirstFault}
use Rattle.pj_rules.specs.declared.fault.RuleFault.{RuleFault}

-- Each text is markup that nests no deeper than it may, or it has a fault, which is not want of memory.
abbrev pub MarkupOrFault : Type 0
MarkupOrFault = (text : List ℕ) → ((rows : List Row) × Doc greatest_depth text rows) ⊎ ((fault : MarkupFault) × (fault ≢ Memory) × markup.IsFault text fault)

-- What stands under a path is read as a ruleset, or it has a fault.
abbrev pub ReadOrFault : Type 0
ReadOrFault = (files : Files) (path : Text) → IsTrue (is_there files path) → ((written : WrittenRuleset) × IsRead files path written) ⊎ ((fault : FileFault) × IsUnreadable files path fault)

-- A file has one list of rules at most.
abbrev pub OneList : Type 0
OneList = (files : Files) (path : Text) (a b : List Taken) → HasRules files path a → HasRules files path b → a ≡ b

-- The files that are named have one set of rules at most.
abbrev pub OneSet : Type 0
OneSet = (files : Files) (paths : List Text) (minimum : ℕ) (marker : Text) (a b : EffectiveRules) → IsEffective files paths minimum marker a → IsEffective files paths minimum marker b → a ≡ b

-- Files that have rules have no fault.
abbrev pub RulesOrFault : Type 0
RulesOrFault = (files : Files) (paths : List Text) (minimum : ℕ) (marker : Text) (rules : EffectiveRules) (fault : RuleFault) →
    IsEffective files paths minimum marker rules → IsFirstFault files paths fault → ⊥

-- The files that are named have one first fault at most.
abbrev pub OneFirstFault : Type 0
OneFirstFault = (files : Files) (paths : List Text) (a b : RuleFault) → IsFirstFault files paths a → IsFirstFault files paths b → a ≡ b

-- The rules that files come to can be used: their texts spell expressions, and their patterns are patterns.
abbrev pub RulesAreSound : Type 0
RulesAreSound = (files : Files) (paths : List Text) (minimum : ℕ) (marker : Text) (rules : EffectiveRules) → IsEffective files paths minimum marker rules →
    AllByRecursion (λ (rule : EffectiveRule). IsSound (texts_of rule)) rules.rules
