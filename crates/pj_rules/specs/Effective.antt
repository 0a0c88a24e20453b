-- The rules of ruleset files, with references replaced by the rules that they name, and the first fault in the order of reading.
use Rattle.std.specs.Prelude.{⊤, ◌≡◌, Bool, true, false, List, [], ◌∷◌, ◌++◌, Option, Some, None, Ok, Err, unwrap_or}
use Rattle.std.specs.List.{flat_map}
use Rattle.pj_outside.specs.Files.{Files}
use Rattle.pj_rule_sets.specs.Expressions.{IsSound}
use Rattle.pj_rule_sets.specs.Faults as expressions
use Rattle.pj_rule_sets.specs.Patterns.{whole}
use Rattle.pj_rule_sets.specs.declared.fault.ExpressionFault.{ExpressionFault}
use Rattle.pj_rule_sets.specs.declared.fault.ExpressionFault.TheVariants as unsound
use Rattle.pj_rule_texts.specs.References.{WholeFile, OneRule, is_from_elsewhere, reference_of}
use Rattle.pj_rule_texts.specs.Rules.{defined, is_xpath_rule, new_name, overridden}
use Rattle.pj_rule_texts.specs.Values.{Text}
use Rattle.pj_rule_texts.specs.declared.fault.TextFault.{TextFault}
use Rattle.pj_rule_texts.specs.declared.fault.TextFault.TheVariants as texts
use Rattle.pj_rule_texts.specs.declared.rule.RuleTexts.{RuleTexts}
use Rattle.pj_rule_texts.specs.declared.written.Part.{Part}
use Rattle.pj_rule_texts.specs.declared.written.Part.TheVariants as part
use Rattle.pj_rule_texts.specs.declared.written.WrittenRule.{WrittenRule}
use Rattle.pj_rule_texts.specs.declared.written.WrittenRuleset.{WrittenRuleset}
use Rattle.pj_rule_texts.specs.Files.{IsRead, IsUnreadable}
use Rattle.pj_rule_texts.specs.declared.file_fault.FileFault.{FileFault}
use Rattle.pj_rule_texts.specs.declared.file_fault.FileFault.TheVariants as of_file
use Rattle.pj_rule_sets.specs.Lists.{Taken, defined_in, is_among, named, not_an_xpath_rule, not_available, put, put_all, referred_in, without}
use Rattle.pj_rule_sets.specs.declared.entry.Entry.TheVariants as entry
use Rattle.pj_rule_sets.specs.declared.entry.Unusable.{Unusable}
use Rattle.pj_rule_sets.specs.declared.entry.Origin.{Origin}
use Rattle.pj_rules.specs.LookUp.{look_up}
use Rattle.pj_rules.specs.declared.progress.Progress.{Progress}
use Rattle.pj_rules.specs.declared.fault.RuleFault.{RuleFault}
use Rattle.pj_rules.specs.declared.fault.RuleWhat.{RuleWhat}
use Rattle.pj_rules.specs.declared.fault.RuleWhat.TheVariants as what
use Rattle.pj_xpatterns.specs.Meaning.{IsNoPattern, Pattern}
use Rattle.pj_xpatterns.specs.Refusing.{AreTaken}

-- what is read of a file so far: the names of the rules that it defines, and its list
abbrev pub nothing : Progress
nothing = record { names = []; list = [] }

abbrev pub with_rule : Progress → Text → Taken → Progress
with_rule progress name taken = record { names = progress.names ++ name ∷ []; list = put progress.list taken }

abbrev pub with_taken : Progress → Taken → Progress
with_taken progress taken = record progress { list = put progress.list taken }

abbrev pub with_list : Progress → List Taken → Progress
with_list progress list = record progress { list = put_all progress.list list }

-- a fault of a rule's texts, and one of its expressions, under the rule's name
abbrev pub what_of_texts : Text → TextFault → Option RuleWhat
what_of_texts name texts.BadPriority = Some (what.BadPriority name)
what_of_texts name texts.BadProperty = Some (what.BadProperty name)
what_of_texts name texts.NoXPath = Some (what.NoXPath name)
what_of_texts name texts.Memory = None

abbrev pub what_of_expressions : Text → ExpressionFault → Option RuleWhat
what_of_expressions name (unsound.XPath fault) = Some (what.XPath name fault)
what_of_expressions name unsound.Pattern = Some (what.PatternRefused name)
what_of_expressions name unsound.Memory = None

-- a fault of a whole file
abbrev pub what_of_file : FileFault → RuleWhat
what_of_file (of_file.Markup offset) = what.Markup offset
what_of_file of_file.TooLong = what.TooLong

abbrev pub path_pattern : Part → List Pattern
path_pattern (part.Rule rule) = []
path_pattern (part.ExcludePattern pattern) = whole pattern ∷ []
path_pattern (part.IncludePattern pattern) = whole pattern ∷ []

-- the patterns of a file count, and are judged, where it is a top ruleset
abbrev pub AreJudged : Bool → List Part → Type 0
AreJudged false parts = ⊤
AreJudged true parts = AreTaken (flat_map path_pattern parts)

-- The rule that a reference changes, or its first fault: in its texts, or else in its expressions.
pub data Changes (rule : WrittenRule) (old : RuleTexts) : RuleTexts → Type 0 where
  changed : {new : RuleTexts} → overridden old rule ≡ Ok new → IsSound new → Changes rule old new

pub data CannotChange (rule : WrittenRule) (old : RuleTexts) : RuleWhat → Type 0 where
  bad_texts : {fault : TextFault} {w : RuleWhat} → overridden old rule ≡ Err fault → what_of_texts (new_name old rule) fault ≡ Some w → CannotChange rule old w
  bad_expressions : {new : RuleTexts} (fault : ExpressionFault) {w : RuleWhat} → overridden old rule ≡ Ok new → expressions.IsFault new fault →
      what_of_expressions new.row.name fault ≡ Some w → CannotChange rule old w

-- the same of a rule that is defined
pub data Defines (rule_set name : Text) (rule : WrittenRule) : RuleTexts → Type 0 where
  defines : {new : RuleTexts} → defined rule_set name rule ≡ Ok new → IsSound new → Defines rule_set name rule new

pub data CannotDefine (rule_set name : Text) (rule : WrittenRule) : RuleWhat → Type 0 where
  bad_texts : {fault : TextFault} {w : RuleWhat} → defined rule_set name rule ≡ Err fault → what_of_texts name fault ≡ Some w → CannotDefine rule_set name rule w
  bad_expressions : {new : RuleTexts} (fault : ExpressionFault) {w : RuleWhat} → defined rule_set name rule ≡ Ok new → expressions.IsFault new fault →
      what_of_expressions new.row.name fault ≡ Some w → CannotDefine rule_set name rule w

-- the name of a rule that is not available: the reference's own, or that in the file
abbrev pub or_name : WrittenRule → Text → Option Text
or_name rule name = Some (unwrap_or rule.name name)

module _ (files : Files) where
  mutual
    -- a part of the file of a path and ruleset adds this to what is read before it
    pub data Adds : Text → Text → Progress → Part → Progress → Type 0 where
      exclude_pattern : {path rule_set : Text} {progress : Progress} {pattern : Text} → Adds path rule_set progress (part.ExcludePattern pattern) progress
      include_pattern : {path rule_set : Text} {progress : Progress} {pattern : Text} → Adds path rule_set progress (part.IncludePattern pattern) progress
      definition : {path rule_set : Text} {progress : Progress} {rule : WrittenRule} {name : Text} {texts : RuleTexts} → rule.reference ≡ None → rule.name ≡ Some name →
          is_among name progress.names ≡ false → is_xpath_rule rule ≡ true → Defines rule_set name rule texts →
          Adds path rule_set progress (part.Rule rule) (with_rule progress name (defined_in path name, entry.Rule texts))
      unusable : {path rule_set : Text} {progress : Progress} {rule : WrittenRule} {name : Text} → rule.reference ≡ None → rule.name ≡ Some name →
          is_among name progress.names ≡ false → is_xpath_rule rule ≡ false →
          Adds path rule_set progress (part.Rule rule) (with_rule progress name (defined_in path name, not_an_xpath_rule name))
      whole_file : {path rule_set : Text} {progress : Progress} {rule : WrittenRule} {reference file other : Text} {list : List Taken} → rule.reference ≡ Some reference →
          reference_of reference ≡ Some (WholeFile file) → look_up files path file ≡ Some other → HasRules other list →
          Adds path rule_set progress (part.Rule rule) (with_list progress (without rule.excludes list))
      one_rule : {path rule_set : Text} {progress : Progress} {rule : WrittenRule} {reference file name other : Text} {list : List Taken} {origin : Origin} {old new : RuleTexts} →
          rule.reference ≡ Some reference → reference_of reference ≡ Some (OneRule file name) → look_up files path file ≡ Some other → HasRules other list →
          named name list ≡ Some (origin, entry.Rule old) → Changes rule old new →
          Adds path rule_set progress (part.Rule rule) (with_taken progress (origin, entry.Rule new))
      one_unusable : {path rule_set : Text} {progress : Progress} {rule : WrittenRule} {reference file name other : Text} {list : List Taken} {origin : Origin} {unusable : Unusable} →
          rule.reference ≡ Some reference → reference_of reference ≡ Some (OneRule file name) → look_up files path file ≡ Some other → HasRules other list →
          named name list ≡ Some (origin, entry.Unusable unusable) → Adds path rule_set progress (part.Rule rule) (with_taken progress (origin, entry.Unusable unusable))
      whole_file_elsewhere : {path rule_set : Text} {progress : Progress} {rule : WrittenRule} {reference file : Text} → rule.reference ≡ Some reference →
          reference_of reference ≡ Some (WholeFile file) → look_up files path file ≡ None → is_from_elsewhere file ≡ true →
          Adds path rule_set progress (part.Rule rule) (with_taken progress (referred_in path reference, not_available None reference))
      one_rule_elsewhere : {path rule_set : Text} {progress : Progress} {rule : WrittenRule} {reference file name : Text} → rule.reference ≡ Some reference →
          reference_of reference ≡ Some (OneRule file name) → look_up files path file ≡ None → is_from_elsewhere file ≡ true →
          Adds path rule_set progress (part.Rule rule) (with_taken progress (referred_in path reference, not_available (or_name rule name) reference))

    -- the parts of a file, one after the other
    pub data AddAll : Text → Text → Progress → List Part → Progress → Type 0 where
      none : {path rule_set : Text} {progress : Progress} → AddAll path rule_set progress [] progress
      more : {path rule_set : Text} {before next after : Progress} {p : Part} {parts : List Part} → Adds path rule_set before p next → AddAll path rule_set next parts after →
          AddAll path rule_set before (p ∷ parts) after

    -- the file of the path, which is there, has these rules
    pub data HasRules : Text → List Taken → Type 0 where
      file : {path : Text} {written : WrittenRuleset} {progress : Progress} → IsRead files path written →
          AddAll path written.rule_set nothing written.parts progress → HasRules path progress.list

  -- the reference is one to the file, or to a rule in it
  pub data RefersTo : Text → Text → Type 0 where
    whole_file : {reference file : Text} → reference_of reference ≡ Some (WholeFile file) → RefersTo reference file
    one_rule : {reference file name : Text} → reference_of reference ≡ Some (OneRule file name) → RefersTo reference file

  mutual
    -- A part of a file has this fault, behind what is read before it, where these files are open: the file itself and those whose references lead to it.
    pub data PartFault : Bool → List Text → Text → Text → Progress → Part → RuleFault → Type 0 where
      exclude_pattern : {is_top : Bool} {open_ : List Text} {path rule_set : Text} {progress : Progress} {pattern : Text} → is_top ≡ true → IsNoPattern (whole pattern) →
          PartFault is_top open_ path rule_set progress (part.ExcludePattern pattern) (record { path = path; what = what.PatternRefused pattern })
      include_pattern : {is_top : Bool} {open_ : List Text} {path rule_set : Text} {progress : Progress} {pattern : Text} → is_top ≡ true → IsNoPattern (whole pattern) →
          PartFault is_top open_ path rule_set progress (part.IncludePattern pattern) (record { path = path; what = what.PatternRefused pattern })
      no_name : {is_top : Bool} {open_ : List Text} {path rule_set : Text} {progress : Progress} {rule : WrittenRule} → rule.reference ≡ None → rule.name ≡ None →
          PartFault is_top open_ path rule_set progress (part.Rule rule) (record { path = path; what = what.NoName rule.offset })
      same_name : {is_top : Bool} {open_ : List Text} {path rule_set : Text} {progress : Progress} {rule : WrittenRule} {name : Text} → rule.reference ≡ None → rule.name ≡ Some name → is_among name progress.names ≡ true →
          PartFault is_top open_ path rule_set progress (part.Rule rule) (record { path = path; what = what.SameName name })
      definition : {is_top : Bool} {open_ : List Text} {path rule_set : Text} {progress : Progress} {rule : WrittenRule} {name : Text} {w : RuleWhat} → rule.reference ≡ None → rule.name ≡ Some name → is_among name progress.names ≡ false →
          is_xpath_rule rule ≡ true → CannotDefine rule_set name rule w → PartFault is_top open_ path rule_set progress (part.Rule rule) (record { path = path; what = w })
      neither_form : {is_top : Bool} {open_ : List Text} {path rule_set : Text} {progress : Progress} {rule : WrittenRule} {reference : Text} → rule.reference ≡ Some reference → reference_of reference ≡ None →
          PartFault is_top open_ path rule_set progress (part.Rule rule) (record { path = path; what = what.MissingRef reference })
      missing_file : {is_top : Bool} {open_ : List Text} {path rule_set : Text} {progress : Progress} {rule : WrittenRule} {reference file : Text} → rule.reference ≡ Some reference → RefersTo reference file → look_up files path file ≡ None →
          is_from_elsewhere file ≡ false → PartFault is_top open_ path rule_set progress (part.Rule rule) (record { path = path; what = what.MissingRef reference })
      cycle : {is_top : Bool} {open_ : List Text} {path rule_set : Text} {progress : Progress} {rule : WrittenRule} {reference file other : Text} → rule.reference ≡ Some reference → RefersTo reference file → look_up files path file ≡ Some other →
          is_among other open_ ≡ true → PartFault is_top open_ path rule_set progress (part.Rule rule) (record { path = path; what = what.RefCycle reference })
      within : {is_top : Bool} {open_ : List Text} {path rule_set : Text} {progress : Progress} {rule : WrittenRule} {reference file other : Text} {fault : RuleFault} → rule.reference ≡ Some reference → RefersTo reference file →
          look_up files path file ≡ Some other → is_among other open_ ≡ false → FileFaults false (open_ ++ other ∷ []) other fault →
          PartFault is_top open_ path rule_set progress (part.Rule rule) fault
      missing_rule : {is_top : Bool} {open_ : List Text} {path rule_set : Text} {progress : Progress} {rule : WrittenRule} {reference file name other : Text} {list : List Taken} → rule.reference ≡ Some reference →
          reference_of reference ≡ Some (OneRule file name) → look_up files path file ≡ Some other → HasRules other list → named name list ≡ None →
          PartFault is_top open_ path rule_set progress (part.Rule rule) (record { path = path; what = what.MissingRef reference })
      override : {is_top : Bool} {open_ : List Text} {path rule_set : Text} {progress : Progress} {rule : WrittenRule} {reference file name other : Text} {list : List Taken} {origin : Origin} {old : RuleTexts} {w : RuleWhat} →
          rule.reference ≡ Some reference → reference_of reference ≡ Some (OneRule file name) → look_up files path file ≡ Some other → HasRules other list →
          named name list ≡ Some (origin, entry.Rule old) → CannotChange rule old w → PartFault is_top open_ path rule_set progress (part.Rule rule) (record { path = path; what = w })

    -- The first fault of a file that is there, where these files are open.
    pub data FileFaults : Bool → List Text → Text → RuleFault → Type 0 where
      unreadable : {is_top : Bool} {open_ : List Text} {path : Text} {fault : FileFault} → IsUnreadable files path fault → FileFaults is_top open_ path (record { path = path; what = what_of_file fault })
      in_part : {is_top : Bool} {open_ : List Text} {path : Text} {written : WrittenRuleset} {before : List Part} (behind : List Part) {p : Part} {progress : Progress} {fault : RuleFault} → IsRead files path written →
          written.parts ≡ before ++ p ∷ behind → AddAll path written.rule_set nothing before progress → AreJudged is_top before →
          PartFault is_top open_ path written.rule_set progress p fault → FileFaults is_top open_ path fault
