-- What references take.
use Rattle.std.proofs.Common.{◌≡◌, ◌∙◌, Bool, true, false, List, Option, Some, None, refl, sym, ap, subst}
use Rattle.pj_outside.specs.Files.{Files}
use Rattle.pj_rule_sets.specs.Lists.{Taken, is_among, named, not_available, referred_in, without}
use Rattle.pj_rule_sets.specs.declared.entry.Entry.{Entry}
use Rattle.pj_rule_sets.specs.declared.entry.Entry.TheVariants as entry
use Rattle.pj_rule_texts.specs.References.{WholeFile, OneRule, is_from_elsewhere, reference_of}
use Rattle.pj_rule_texts.specs.Values.{Text}
use Rattle.pj_rule_texts.specs.declared.written.Part.TheVariants as part
use Rattle.pj_rule_texts.specs.declared.written.WrittenRule.{WrittenRule}
use Rattle.pj_rules.specs.Effective.{Adds, HasRules, PartFault, RefersTo, with_list, with_taken}
use Rattle.pj_rules.specs.Referring.{CannotChangeEntry, ChangesEntry, IsNoForm, Leads, LeadsBy, LeadsNowhere, meant, name_behind}
use Rattle.pj_rules.specs.declared.fault.RuleFault.{RuleFault}
use Rattle.pj_rules.specs.declared.fault.RuleWhat.TheVariants.{MissingRef, RefCycle}
use Rattle.pj_rules.specs.declared.progress.Progress.{Progress}
use Rattle.pj_rules.specs.declared.referral.Referral.{Referral}
use Rattle.pj_rules.proofs.Refusing.{same_fault}

-- the file that a reference names
module _ (files : Files) where
  refers_meant : (reference file : Text) (name : Option Text) → reference_of reference ≡ Some (meant file name) → RefersTo files reference file
  refers_meant reference file None e = RefersTo.whole_file e
  refers_meant reference file (Some name) e = RefersTo.one_rule e

  pub refers : (referral : Referral) → LeadsBy referral → RefersTo files referral.reference referral.target.file
  refers referral by = refers_meant referral.reference referral.target.file referral.target.name by.leads

-- what a reference to one rule means
one_meant : (referral : Referral) (name : Text) → LeadsBy referral → referral.target.name ≡ Some name → reference_of referral.reference ≡ Some (OneRule referral.target.file name)
one_meant referral name by e = by.leads ∙ ap (λ n. Some (meant referral.target.file n)) e

whole_meant : (referral : Referral) → LeadsBy referral → referral.target.name ≡ None → reference_of referral.reference ≡ Some (WholeFile referral.target.file)
whole_meant referral by e = by.leads ∙ ap (λ n. Some (meant referral.target.file n)) e

-- ---- neither form

pub no_form : (path : Text) (rule : WrittenRule) (reference : Text) (fault : RuleFault) → rule.reference ≡ Some reference → reference_of reference ≡ None →
    (fault.path ≡ path) × (fault.what ≡ MissingRef reference) → IsNoForm path rule fault
no_form path rule reference fault is none h files is_top open_ rule_set progress =
    subst (PartFault files is_top open_ path rule_set progress (part.Rule rule)) (sym (same_fault fault path (MissingRef reference) h.0 h.1)) (PartFault.neither_form is none)

module _ (files : Files) (path rule_set : Text) (progress : Progress) (referral : Referral) where
  -- ---- a file that is known

  pub takes_whole : (other : Text) (list : List Taken) → referral.target.name ≡ None → Leads files path referral other → HasRules files other list →
      Adds files path rule_set progress (part.Rule referral.rule) (with_list progress (without referral.rule.excludes list))
  takes_whole other list e leads has = Adds.whole_file leads.by.is_reference (whole_meant referral leads.by e) leads.found has

  pub takes_one : (other name : Text) (list : List Taken) (taken : Taken) (new : Entry) → referral.target.name ≡ Some name → Leads files path referral other →
      HasRules files other list → named name list ≡ Some taken → ChangesEntry referral.rule taken.1 new →
      Adds files path rule_set progress (part.Rule referral.rule) (with_taken progress (taken.0, new))
  takes_one other name list (origin, entry.Rule old) (entry.Rule new) e leads has found changes =
      Adds.one_rule leads.by.is_reference (one_meant referral name leads.by e) leads.found has found changes
  takes_one other name list (origin, entry.Unusable old) (entry.Unusable new) e leads has found changes =
      subst (λ u. Adds files path rule_set progress (part.Rule referral.rule) (with_taken progress (origin, entry.Unusable u))) (sym changes)
      (Adds.one_unusable leads.by.is_reference (one_meant referral name leads.by e) leads.found has found)
  takes_one other name list (origin, entry.Rule old) (entry.Unusable new) e leads has found changes = absurd changes
  takes_one other name list (origin, entry.Unusable old) (entry.Rule new) e leads has found changes = absurd changes

  module _ (is_top : Bool) (open_ : List Text) where
    pub misses_one : (other name : Text) (list : List Taken) (fault : RuleFault) → referral.target.name ≡ Some name → Leads files path referral other →
        HasRules files other list → named name list ≡ None → (fault.path ≡ path) × (fault.what ≡ MissingRef referral.reference) →
        PartFault files is_top open_ path rule_set progress (part.Rule referral.rule) fault
    misses_one other name list fault e leads has none h =
        subst (PartFault files is_top open_ path rule_set progress (part.Rule referral.rule)) (sym (same_fault fault path (MissingRef referral.reference) h.0 h.1))
        (PartFault.missing_rule leads.by.is_reference (one_meant referral name leads.by e) leads.found has none)

    pub cannot_take : (other name : Text) (list : List Taken) (taken : Taken) (fault : RuleFault) → referral.target.name ≡ Some name → Leads files path referral other →
        HasRules files other list → named name list ≡ Some taken → CannotChangeEntry path referral.rule taken.1 fault →
        PartFault files is_top open_ path rule_set progress (part.Rule referral.rule) fault
    cannot_take other name list (origin, entry.Rule old) fault e leads has found h =
        subst (PartFault files is_top open_ path rule_set progress (part.Rule referral.rule)) (sym (same_fault fault path fault.what h.0 refl))
        (PartFault.override leads.by.is_reference (one_meant referral name leads.by e) leads.found has found h.1)
    cannot_take other name list (origin, entry.Unusable old) fault e leads has found h = absurd h

    pub goes_round : (other : Text) (fault : RuleFault) → Leads files path referral other → is_among other open_ ≡ true →
        (fault.path ≡ path) × (fault.what ≡ RefCycle referral.reference) → PartFault files is_top open_ path rule_set progress (part.Rule referral.rule) fault
    goes_round other fault leads among h =
        subst (PartFault files is_top open_ path rule_set progress (part.Rule referral.rule)) (sym (same_fault fault path (RefCycle referral.reference) h.0 h.1))
        (PartFault.cycle leads.by.is_reference (refers files referral leads.by) leads.found among)

  -- ---- a file that is nowhere

  takes_gone : (name : Option Text) → referral.target.name ≡ name → LeadsNowhere files path referral → is_from_elsewhere referral.target.file ≡ true →
      Adds files path rule_set progress (part.Rule referral.rule)
      (with_taken progress (referred_in path referral.reference, not_available (name_behind referral.rule.name name) referral.reference))
  takes_gone None e leads elsewhere = Adds.whole_file_elsewhere leads.by.is_reference (whole_meant referral leads.by e) leads.not_found elsewhere
  takes_gone (Some name) e leads elsewhere = Adds.one_rule_elsewhere leads.by.is_reference (one_meant referral name leads.by e) leads.not_found elsewhere

  pub takes_nothing : LeadsNowhere files path referral → is_from_elsewhere referral.target.file ≡ true →
      Adds files path rule_set progress (part.Rule referral.rule)
      (with_taken progress (referred_in path referral.reference, not_available (name_behind referral.rule.name referral.target.name) referral.reference))
  takes_nothing leads elsewhere = takes_gone referral.target.name refl leads elsewhere

  pub finds_nothing : (is_top : Bool) (open_ : List Text) (fault : RuleFault) → LeadsNowhere files path referral → is_from_elsewhere referral.target.file ≡ false →
      (fault.path ≡ path) × (fault.what ≡ MissingRef referral.reference) → PartFault files is_top open_ path rule_set progress (part.Rule referral.rule) fault
  finds_nothing is_top open_ fault leads not_elsewhere h =
      subst (PartFault files is_top open_ path rule_set progress (part.Rule referral.rule)) (sym (same_fault fault path (MissingRef referral.reference) h.0 h.1))
      (PartFault.missing_file leads.by.is_reference (refers files referral leads.by) leads.not_found not_elsewhere)
