-- What parts of a file add, or their faults.
use Rattle.std.proofs.Common.{◌≡◌, true, false, List, Option, Some, None, sym, ap, subst}
use Rattle.pj_outside.specs.Files.{Files}
use Rattle.pj_rule_texts.specs.Files.{IsRead}
use Rattle.pj_rule_sets.specs.Lists.{Taken, is_among}
use Rattle.pj_rule_texts.specs.Values.{Text}
use Rattle.pj_rule_texts.specs.declared.written.Part.TheVariants as part
use Rattle.pj_rule_texts.specs.declared.written.WrittenRule.{WrittenRule}
use Rattle.pj_rule_texts.specs.declared.written.WrittenRuleset.{WrittenRuleset}
use Rattle.pj_rules.specs.Effective.{Adds, PartFault}
use Rattle.pj_rules.specs.Finding.{IsBefore, IsFoundFault}
use Rattle.pj_rules.specs.Known.{AreRead}
use Rattle.pj_rule_sets.specs.ReadFiles.{list_at}
use Rattle.pj_rules.specs.LookUp.{look_up}
use Rattle.pj_rules.specs.Patterns.{IsPatternFault}
use Rattle.pj_rules.specs.Referring.{AddsNothing, AddsTaken, IsNoForm, IsNothingFault, IsReferral, IsTakenFault, Leads, LeadsNowhere}
use Rattle.pj_rules.specs.States.{Gathers, IsFaultOf, Opens, Takes, is_top, left}
use Rattle.pj_rules.specs.declared.fault.RuleFault.{RuleFault}
use Rattle.pj_rules.specs.declared.fault.RuleWhat.TheVariants.{PatternRefused, RefCycle}
use Rattle.pj_rule_sets.specs.declared.known.Known.{Known}
use Rattle.pj_rules.specs.declared.open_file.OpenFile.{OpenFile}
use Rattle.pj_rule_sets.specs.declared.path_patterns.PathPatterns.{PathPatterns}
use Rattle.pj_rules.specs.declared.referral.Referral.{Referral}
use Rattle.pj_rules.proofs.KnownFiles.{list_found}
use Rattle.pj_rules.proofs.Refusing.{same_fault}
use Rattle.pj_rules.proofs.TakeFacts.{goes_round, refers}
use Rattle.pj_rules.proofs.Turns.{gathers_rule}

module _ (files : Files) where
  -- ---- path patterns

  pub takes_exclude : (old new : OpenFile) (text : Text) (patterns : Option PathPatterns) → patterns ≡ old.patterns → new.path ≡ old.path → new.rule_set ≡ old.rule_set → left new ≡ left old → new.progress ≡ old.progress →
      Gathers patterns (part.ExcludePattern text) new.patterns → Takes files old (part.ExcludePattern text) new
  takes_exclude old new text patterns is p s r e gathers = record {
    path = p;
    rule_set = s;
    rest = r;
    adds = subst (λ progress. Adds files old.path old.rule_set old.progress (part.ExcludePattern text) progress) (sym e) Adds.exclude_pattern;
    gathers = subst (λ (o : Option PathPatterns). Gathers o (part.ExcludePattern text) new.patterns) is gathers;
  }

  pub takes_include : (old new : OpenFile) (text : Text) (patterns : Option PathPatterns) → patterns ≡ old.patterns → new.path ≡ old.path → new.rule_set ≡ old.rule_set → left new ≡ left old → new.progress ≡ old.progress →
      Gathers patterns (part.IncludePattern text) new.patterns → Takes files old (part.IncludePattern text) new
  takes_include old new text patterns is p s r e gathers = record {
    path = p;
    rule_set = s;
    rest = r;
    adds = subst (λ progress. Adds files old.path old.rule_set old.progress (part.IncludePattern text) progress) (sym e) Adds.include_pattern;
    gathers = subst (λ (o : Option PathPatterns). Gathers o (part.IncludePattern text) new.patterns) is gathers;
  }

  pub exclude_fault : (known : Known) (file : OpenFile) (text : Text) (fault : RuleFault) → is_top file ≡ true → IsPatternFault file.path text fault →
      IsFaultOf files known file (part.ExcludePattern text) fault
  exclude_fault known file text fault top h =
      subst (PartFault files (is_top file) known.open_paths file.path file.rule_set file.progress (part.ExcludePattern text))
      (sym (same_fault fault file.path (PatternRefused text) h.place h.what)) (PartFault.exclude_pattern top h.is_none)

  pub include_fault : (known : Known) (file : OpenFile) (text : Text) (fault : RuleFault) → is_top file ≡ true → IsPatternFault file.path text fault →
      IsFaultOf files known file (part.IncludePattern text) fault
  include_fault known file text fault top h =
      subst (PartFault files (is_top file) known.open_paths file.path file.rule_set file.progress (part.IncludePattern text))
      (sym (same_fault fault file.path (PatternRefused text) h.place h.what)) (PartFault.include_pattern top h.is_none)

  -- ---- rules

  -- a rule changes nothing but what is read of the file
  pub takes_rule : (old new : OpenFile) (rule : WrittenRule) → new.path ≡ old.path → new.rule_set ≡ old.rule_set → left new ≡ left old → new.patterns ≡ old.patterns →
      Adds files old.path old.rule_set old.progress (part.Rule rule) new.progress → Takes files old (part.Rule rule) new
  takes_rule old new rule p s r t adds = record {
    path = p;
    rule_set = s;
    rest = r;
    adds = adds;
    gathers = subst (λ (o : Option PathPatterns). Gathers old.patterns (part.Rule rule) o) (sym t) (gathers_rule rule old.patterns);
  }

  -- ---- references

  pub leads_there : (path other : Text) (rule : WrittenRule) (referral : Referral) → IsReferral rule referral → look_up files path referral.target.file ≡ Some other →
      Leads files path referral other
  leads_there path other rule referral is found = record { by = is.leads; found = found }

  pub leads_nowhere : (path : Text) (rule : WrittenRule) (referral : Referral) → IsReferral rule referral → look_up files path referral.target.file ≡ None →
      LeadsNowhere files path referral
  leads_nowhere path rule referral is none = record { by = is.leads; not_found = none }

  pub takes_known : (old new : OpenFile) (known : Known) (referral : Referral) (other : Text) (list : List Taken) → list_at known.read other ≡ Some list → AreRead files known.read →
      Leads files old.path referral other → AddsTaken old.path old.progress referral list new.progress → new.path ≡ old.path → new.rule_set ≡ old.rule_set → left new ≡ left old →
      new.patterns ≡ old.patterns → Takes files old (part.Rule referral.rule) new
  takes_known old new known referral other list found read leads adds p s r t =
      takes_rule old new referral.rule p s r t (adds files old.rule_set other leads (list_found files known.read other list read found))

  pub known_fault : (file : OpenFile) (known : Known) (referral : Referral) (other : Text) (list : List Taken) (fault : RuleFault) → list_at known.read other ≡ Some list →
      AreRead files known.read → Leads files file.path referral other → IsTakenFault file.path file.progress referral list fault →
      IsFaultOf files known file (part.Rule referral.rule) fault
  known_fault file known referral other list fault found read leads h =
      h files (is_top file) known.open_paths file.rule_set other leads (list_found files known.read other list read found)

  pub cycle_fault : (file : OpenFile) (known : Known) (referral : Referral) (other : Text) (fault : RuleFault) → list_at known.read other ≡ None → IsBefore known other →
      Leads files file.path referral other → (fault.path ≡ file.path) × (fault.what ≡ RefCycle referral.reference) → IsFaultOf files known file (part.Rule referral.rule) fault
  cycle_fault file known referral other fault none before leads h =
      goes_round files file.path file.rule_set file.progress referral (is_top file) known.open_paths other fault leads (before none) h

  module _ (known : Known) (file : OpenFile) (rule : WrittenRule) (referral : Referral) (is : IsReferral rule referral) where
    of_rule : (fault : RuleFault) → IsFaultOf files known file (part.Rule referral.rule) fault → IsFaultOf files known file (part.Rule rule) fault
    of_rule fault h = subst (λ r. IsFaultOf files known file (part.Rule r) fault) is.of h

    pub took_rule : (new : OpenFile) → Takes files file (part.Rule referral.rule) new → Takes files file (part.Rule rule) new
    took_rule new h = subst (λ r. Takes files file (part.Rule r) new) is.of h

    pub takes_nothing : (new : OpenFile) → look_up files file.path referral.target.file ≡ None → AddsNothing file.path file.progress referral new.progress →
        new.path ≡ file.path → new.rule_set ≡ file.rule_set → left new ≡ left file → new.patterns ≡ file.patterns → Takes files file (part.Rule rule) new
    takes_nothing new none adds p s r t =
        took_rule new (takes_rule file new referral.rule p s r t (adds files file.rule_set (leads_nowhere file.path rule referral is none)))

    pub nothing_fault : (fault : RuleFault) → look_up files file.path referral.target.file ≡ None → IsNothingFault file.path file.progress referral fault →
        IsFaultOf files known file (part.Rule rule) fault
    nothing_fault fault none h = of_rule fault (h files (is_top file) known.open_paths file.rule_set (leads_nowhere file.path rule referral is none))

    pub before_fault : (other : Text) (fault : RuleFault) → look_up files file.path referral.target.file ≡ Some other →
        (Leads files file.path referral other → IsFaultOf files known file (part.Rule referral.rule) fault) → IsFaultOf files known file (part.Rule rule) fault
    before_fault other fault found h = of_rule fault (h (leads_there file.path other rule referral is found))

    pub opens : (other : Text) (written : WrittenRuleset) → look_up files file.path referral.target.file ≡ Some other → IsRead files other written →
        is_among other known.open_paths ≡ false → Opens files known file (part.Rule rule) (record { referral = referral; path = other; written = written })
    opens other written found read fresh = record {
      is_reference = ap (λ (r : WrittenRule). part.Rule r) (sym is.of);
      leads = leads_there file.path other rule referral is found;
      is_new = fresh;
      is_read = read;
    }

    -- the file to which the reference leads has the fault
    pub found_fault : (fault : RuleFault) → IsFoundFault files known file.path referral.target.file fault → IsFaultOf files known file (part.Rule rule) fault
    found_fault fault h =
        of_rule fault (PartFault.within is.leads.is_reference (refers files referral is.leads) h.found h.faults.is_new h.faults.faults)

  pub no_form_fault : (known : Known) (file : OpenFile) (rule : WrittenRule) (fault : RuleFault) → IsNoForm file.path rule fault → IsFaultOf files known file (part.Rule rule) fault
  no_form_fault known file rule fault h = h files (is_top file) known.open_paths file.rule_set file.progress
