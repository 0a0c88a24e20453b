-- What references take, or why they take nothing.
use Rattle.std.specs.Prelude.{◌≡◌, Bool, List, Option, Some, None, unwrap_or}
use Rattle.pj_outside.specs.Files.{Files}
use Rattle.pj_rule_sets.specs.Lists.{Taken}
use Rattle.pj_rule_sets.specs.declared.entry.Entry.{Entry}
use Rattle.pj_rule_sets.specs.declared.entry.Entry.TheVariants as entry
use Rattle.pj_rule_texts.specs.References.{Meant, WholeFile, OneRule, reference_of}
use Rattle.pj_rule_texts.specs.Values.{Text}
use Rattle.pj_rule_texts.specs.declared.written.Part.TheVariants as part
use Rattle.pj_rule_texts.specs.declared.written.WrittenRule.{WrittenRule}
use Rattle.pj_rules.specs.Effective.{Adds, CannotChange, Changes, HasRules, PartFault}
use Rattle.pj_rules.specs.LookUp.{look_up}
use Rattle.pj_rules.specs.declared.fault.RuleFault.{RuleFault}
use Rattle.pj_rules.specs.declared.progress.Progress.{Progress}
use Rattle.pj_rules.specs.declared.referral.Referral.{Referral}
use Rattle.pj_rules.specs.declared.referral.Target.{Target}

abbrev pub meant : Text → Option Text → Meant
meant file None = WholeFile file
meant file (Some name) = OneRule file name

abbrev pub meant_by : Target → Meant
meant_by target = meant target.file target.name

-- the reference is the element's, and leads there
pub record LeadsBy (referral : Referral) : Type 0 where
  pub is_reference : referral.rule.reference ≡ Some referral.reference
  pub leads : reference_of referral.reference ≡ Some (meant_by referral.target)

pub record IsReferral (rule : WrittenRule) (referral : Referral) : Type 0 where
  pub of : referral.rule ≡ rule
  pub leads : LeadsBy referral

-- the file of a reference in a file of this path
pub record Leads (files : Files) (path : Text) (referral : Referral) (other : Text) : Type 0 where
  pub by : LeadsBy referral
  pub found : look_up files path referral.target.file ≡ Some other

pub record LeadsNowhere (files : Files) (path : Text) (referral : Referral) : Type 0 where
  pub by : LeadsBy referral
  pub not_found : look_up files path referral.target.file ≡ None

-- ---- faults of a part, wherever it stands

abbrev pub IsNoForm : Text → WrittenRule → RuleFault → Type 0
IsNoForm path rule fault = (files : Files) (is_top : Bool) (open_ : List Text) (rule_set : Text) (progress : Progress) →
    PartFault files is_top open_ path rule_set progress (part.Rule rule) fault

abbrev pub IsTakenFault : Text → Progress → Referral → List Taken → RuleFault → Type 0
IsTakenFault path progress referral list fault = (files : Files) (is_top : Bool) (open_ : List Text) (rule_set other : Text) → Leads files path referral other →
    HasRules files other list → PartFault files is_top open_ path rule_set progress (part.Rule referral.rule) fault

abbrev pub IsNothingFault : Text → Progress → Referral → RuleFault → Type 0
IsNothingFault path progress referral fault = (files : Files) (is_top : Bool) (open_ : List Text) (rule_set : Text) → LeadsNowhere files path referral →
    PartFault files is_top open_ path rule_set progress (part.Rule referral.rule) fault

-- ---- what is added

abbrev pub AddsTaken : Text → Progress → Referral → List Taken → Progress → Type 0
AddsTaken path old referral list new = (files : Files) (rule_set other : Text) → Leads files path referral other → HasRules files other list →
    Adds files path rule_set old (part.Rule referral.rule) new

abbrev pub AddsNothing : Text → Progress → Referral → Progress → Type 0
AddsNothing path old referral new = (files : Files) (rule_set : Text) → LeadsNowhere files path referral → Adds files path rule_set old (part.Rule referral.rule) new

-- ---- one rule of a list

abbrev pub ChangesEntry : WrittenRule → Entry → Entry → Type 0
ChangesEntry rule (entry.Rule old) (entry.Rule new) = Changes rule old new
ChangesEntry rule (entry.Unusable old) (entry.Unusable new) = new ≡ old
ChangesEntry rule _ _ = ⊥

abbrev pub CannotChangeEntry : Text → WrittenRule → Entry → RuleFault → Type 0
CannotChangeEntry path rule (entry.Rule old) fault = (fault.path ≡ path) × CannotChange rule old fault.what
CannotChangeEntry path rule (entry.Unusable old) fault = ⊥

abbrev pub name_behind : Option Text → Option Text → Option Text
name_behind own None = None
name_behind own (Some name) = Some (unwrap_or own name)
