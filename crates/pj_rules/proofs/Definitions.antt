-- Rules that files define, and rules that references change.
use Rattle.std.proofs.Common.{◌≡◌, ◌∙◌, Bool, true, false, List, [], ◌∷◌, ◌++◌, Some, None, Result, Ok, Err, IfOk, IfErr, OnOk, not, refl, sym, ap, ap₂, subst}
use Rattle.std.specs.Prelude.{IsErrAnd}
use Rattle.pj_outside.specs.Files.{Files}
use Rattle.pj_rule_sets.specs.Expressions.{IsSound}
use Rattle.pj_rule_sets.specs.Faults as expressions
use Rattle.pj_rule_sets.specs.declared.fault.ExpressionFault.{ExpressionFault}
use Rattle.pj_rule_sets.specs.Lists.{Taken, defined_in, is_among, put, put_all}
use Rattle.pj_rule_sets.specs.declared.entry.Entry.{Entry}
use Rattle.pj_rule_sets.specs.declared.entry.Entry.TheVariants as entry
use Rattle.pj_rule_texts.specs.Rules.{Answers, defined, new_name, overridden}
use Rattle.pj_rule_texts.specs.Values.{Text}
use Rattle.pj_rule_texts.specs.declared.fault.TextFault.{TextFault}
use Rattle.pj_rule_texts.specs.declared.fault.TextFault.TheVariants as text_fault
use Rattle.pj_rule_texts.specs.declared.rule.RuleTexts.{RuleTexts}
use Rattle.pj_rule_texts.specs.declared.written.Part.TheVariants as part
use Rattle.pj_rule_texts.specs.declared.written.WrittenRule.{WrittenRule}
use Rattle.pj_rules.specs.Defining.{HasNoEntry, IsDefinedAs, IsDefinitionFault}
use Rattle.pj_rules.specs.Effective.{Adds, CannotChange, CannotDefine, PartFault, what_of_expressions, what_of_texts, with_list, with_taken}
use Rattle.pj_rules.specs.Refusals.{IfOwn, IsUnsound}
use Rattle.pj_rules.specs.declared.fault.RuleFault.{RuleFault}
use Rattle.pj_rules.specs.declared.fault.RuleRefused.{RuleRefused}
use Rattle.pj_rules.specs.declared.fault.RuleWhat.{RuleWhat}
use Rattle.pj_rules.specs.declared.fault.RuleWhat.TheVariants as what
use Rattle.pj_rules.specs.declared.progress.Progress.{Progress}
use Rattle.pj_rules.proofs.Refusing.{own_weaker, same_fault}

-- what is at fault, of the file of a path
abbrev pub At : Text → (RuleWhat → Type 0) → RuleFault → Type 0
At path fact fault = (fault.path ≡ path) × fact fault.what

pub own_at : (path : Text) (P Q : RuleWhat → Type 0) (r : RuleRefused) → ((w : RuleWhat) → P w → Q w) → IfOwn (At path P) r → IfOwn (At path Q) r
own_at path P Q r f = own_weaker r (At path P) (At path Q) (λ fault h. (h.0, f fault.what h.1))

pub as_some : (path : Text) (w : RuleWhat) (r : RuleRefused) → IfOwn (At path (λ v. v ≡ w)) r → IfOwn (At path (λ v. Some w ≡ Some v)) r
as_some path w r = own_at path (λ v. v ≡ w) (λ v. Some w ≡ Some v) r (λ v e. ap Some (sym e))

-- a refusal that is handed on
pub handed_on : {T F : Type 0} (result : Result T F) (fault : F) (P : F → Type 0) → IsErrAnd result (λ given. given ≡ fault) → P fault → IfErr result P
handed_on (Ok value) fault P same h = absurd same
handed_on (Err given) fault P same h = subst P (sym same) h

-- ---- a rule that is made of texts, or refused

pub is_made : (P : RuleTexts → Type 0) (texts : RuleTexts) (r : Result RuleTexts RuleRefused) → (IsSound texts → P texts) → IfOk r (λ rule. rule ≡ texts) → OnOk r (IsSound texts) → IfOk r P
is_made P texts (Ok rule) f same sound = subst P (sym same) (f sound)
is_made P texts (Err refused) f same sound = same

pub is_refused : (P Q : RuleRefused → Type 0) (r : Result RuleTexts RuleRefused) → ((refused : RuleRefused) → P refused → Q refused) → IfErr r P → IfErr r Q
is_refused P Q (Ok rule) f h = h
is_refused P Q (Err refused) f h = f refused h

-- ---- texts that make no rule

pub unsound : (path name : Text) (texts : RuleTexts) (fault : ExpressionFault) (r : RuleRefused) → name ≡ texts.row.name → expressions.IsFault texts fault →
    IfOwn (At path (λ w. what_of_expressions name fault ≡ Some w)) r → IfOwn (At path (IsUnsound texts)) r
unsound path name texts fault r same h =
    own_at path (λ w. what_of_expressions name fault ≡ Some w) (IsUnsound texts) r (λ w e. (fault, h, ap (λ n. what_of_expressions n fault) (sym same) ∙ e))

no_rule : (meaning : Result RuleTexts TextFault) (name : Text) (fault : TextFault) (w : RuleWhat) → Answers meaning (Err fault) → what_of_texts name fault ≡ Some w →
    meaning ≡ Err fault
no_rule meaning name text_fault.BadPriority w h e = h
no_rule meaning name text_fault.BadProperty w h e = h
no_rule meaning name text_fault.NoXPath w h e = h
no_rule meaning name text_fault.Memory w h e = absurd (cc)

module _ (path rule_set name : Text) (rule : WrittenRule) where
  pub defined_of : (rule_set_too name_too : Text) → rule_set_too ≡ rule_set → name_too ≡ name → defined rule_set_too name_too rule ≡ defined rule_set name rule
  defined_of rule_set_too name_too e f = ap₂ (λ (s n : Text). defined s n rule) e f

  pub defined_unsound : (texts : RuleTexts) (r : RuleRefused) → defined rule_set name rule ≡ Ok texts → IfOwn (At path (IsUnsound texts)) r →
      IfOwn (At path (CannotDefine rule_set name rule)) r
  defined_unsound texts r is = own_at path (IsUnsound texts) (CannotDefine rule_set name rule) r (λ w h. CannotDefine.bad_expressions h.0 is h.1 h.2)

  pub not_defined : (other : Text) (fault : TextFault) (r : RuleRefused) → other ≡ name → Answers (defined rule_set name rule) (Err fault) →
      IfOwn (At path (λ w. what_of_texts other fault ≡ Some w)) r → IfOwn (At path (CannotDefine rule_set name rule)) r
  not_defined other fault r same h = own_at path (λ w. what_of_texts other fault ≡ Some w) (CannotDefine rule_set name rule) r
      (λ w e. let bad : what_of_texts name fault ≡ Some w = ap (λ n. what_of_texts n fault) (sym same) ∙ e in
      CannotDefine.bad_texts (no_rule (defined rule_set name rule) name fault w h bad) bad)

module _ (path : Text) (rule : WrittenRule) (old : RuleTexts) where
  pub changed_unsound : (texts : RuleTexts) (r : RuleRefused) → overridden old rule ≡ Ok texts → IfOwn (At path (IsUnsound texts)) r → IfOwn (At path (CannotChange rule old)) r
  changed_unsound texts r is = own_at path (IsUnsound texts) (CannotChange rule old) r (λ w h. CannotChange.bad_expressions h.0 is h.1 h.2)

  pub not_changed : (other : Text) (fault : TextFault) (r : RuleRefused) → other ≡ new_name old rule → Answers (overridden old rule) (Err fault) →
      IfOwn (At path (λ w. what_of_texts other fault ≡ Some w)) r → IfOwn (At path (CannotChange rule old)) r
  not_changed other fault r same h = own_at path (λ w. what_of_texts other fault ≡ Some w) (CannotChange rule old) r
      (λ w e. let bad : what_of_texts (new_name old rule) fault ≡ Some w = ap (λ n. what_of_texts n fault) (sym same) ∙ e in
      CannotChange.bad_texts (no_rule (overridden old rule) (new_name old rule) fault w h bad) bad)

-- ---- definitions

same_progress : (new : Progress) (names : List Text) (list : List Taken) → new.names ≡ names → new.list ≡ list → new ≡ record { names = names; list = list }
same_progress new names list n l = ap₂ (λ (ns : List Text) (ts : List Taken). made ns ts) n l
  where
    made : List Text → List Taken → Progress
    made ns ts = record { names = ns; list = ts }

pub adds_taken : (files : Files) (path rule_set : Text) (rule : WrittenRule) (old new : Progress) (taken : Taken) → Adds files path rule_set old (part.Rule rule) (with_taken old taken) →
    new.names ≡ old.names → new.list ≡ put old.list taken → Adds files path rule_set old (part.Rule rule) new
adds_taken files path rule_set rule old new taken adds names list =
    subst (Adds files path rule_set old (part.Rule rule)) (sym (same_progress new old.names (put old.list taken) names list)) adds

pub adds_list : (files : Files) (path rule_set : Text) (rule : WrittenRule) (old new : Progress) (list : List Taken) → Adds files path rule_set old (part.Rule rule) (with_list old list) →
    new.names ≡ old.names → new.list ≡ put_all old.list list → Adds files path rule_set old (part.Rule rule) new
adds_list files path rule_set rule old new list adds names e =
    subst (Adds files path rule_set old (part.Rule rule)) (sym (same_progress new old.names (put_all old.list list) names e)) adds

-- whether a name is new is the opposite of whether it is there
pub there : (is_new among : Bool) → is_new ≡ not among → is_new ≡ false → among ≡ true
there is_new true e f = refl
there is_new false e f = let both : false ≡ true = sym f ∙ e in absurd (cc)

pub not_there : (is_new among : Bool) → is_new ≡ not among → is_new ≡ true → among ≡ false
not_there is_new false e f = refl
not_there is_new true e f = let both : true ≡ false = sym f ∙ e in absurd (cc)

module _ (path rule_set : Text) (old : Progress) (rule : WrittenRule) (is_defined : rule.reference ≡ None) where
  pub no_name : (r : RuleRefused) → rule.name ≡ None → IfOwn (At path (λ w. w ≡ what.NoName rule.offset)) r → IfOwn (IsDefinitionFault path rule_set old rule) r
  no_name r none = own_weaker r (At path (λ w. w ≡ what.NoName rule.offset)) (IsDefinitionFault path rule_set old rule) (λ fault h files is_top open_.
      subst (PartFault files is_top open_ path rule_set old (part.Rule rule)) (sym (same_fault fault path (what.NoName rule.offset) h.0 h.1)) (PartFault.no_name is_defined none))

  module _ (name : Text) (is_named : rule.name ≡ Some name) where
    pub same_name : (r : RuleRefused) → is_among name old.names ≡ true → IfOwn (At path (λ w. w ≡ what.SameName name)) r → IfOwn (IsDefinitionFault path rule_set old rule) r
    same_name r among = own_weaker r (At path (λ w. w ≡ what.SameName name)) (IsDefinitionFault path rule_set old rule) (λ fault h files is_top open_.
        subst (PartFault files is_top open_ path rule_set old (part.Rule rule)) (sym (same_fault fault path (what.SameName name) h.0 h.1)) (PartFault.same_name is_defined is_named among))

    pub no_entry : (r : RuleRefused) → is_among name old.names ≡ false → IfOwn (At path (HasNoEntry rule_set name rule)) r → IfOwn (IsDefinitionFault path rule_set old rule) r
    no_entry r fresh = own_weaker r (At path (HasNoEntry rule_set name rule)) (IsDefinitionFault path rule_set old rule) (λ fault h files is_top open_.
        subst (PartFault files is_top open_ path rule_set old (part.Rule rule)) (sym (same_fault fault path fault.what h.0 refl))
        (PartFault.definition is_defined is_named fresh h.1.is_xpath h.1.cannot))

    added : (files : Files) (kept : Entry) → is_among name old.names ≡ false → IsDefinedAs rule_set name rule kept →
        Adds files path rule_set old (part.Rule rule) (record { names = old.names ++ name ∷ []; list = put old.list (defined_in path name, kept) })
    added files (entry.Rule texts) fresh (IsDefinedAs.an_xpath_rule is made) = Adds.definition is_defined is_named fresh is made
    added files (entry.Unusable unusable) fresh (IsDefinedAs.another_rule is_not) = Adds.unusable is_defined is_named fresh is_not

    pub adds : (files : Files) (kept : Entry) (new : Progress) → is_among name old.names ≡ false → IsDefinedAs rule_set name rule kept → new.names ≡ old.names ++ name ∷ [] →
        new.list ≡ put old.list (defined_in path name, kept) → Adds files path rule_set old (part.Rule rule) new
    adds files kept new fresh is names list =
        subst (Adds files path rule_set old (part.Rule rule)) (sym (same_progress new (old.names ++ name ∷ []) (put old.list (defined_in path name, kept)) names list))
        (added files kept fresh is)
