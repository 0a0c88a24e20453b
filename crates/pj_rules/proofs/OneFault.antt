-- The files that are named have one first fault at most.
use Rattle.std.proofs.Common.{◌≡◌, ◌≢◌, ◌∙◌, ℕ, Bool, true, false, List, [], ◌∷◌, ◌++◌, Option, Some, None, Result, Err, refl, sym, ap, subst, arith}
use Rattle.std.specs.List.{flat_map}
use Rattle.pj_markup.specs.declared.element.Row.{Row}
use Rattle.pj_markup.specs.Faults.{IsMarkup}
use Rattle.pj_outside.specs.Files.{Files}
use Rattle.pj_rule_sets.specs.Laws.{OneFault, SoundOrFault}
use Rattle.pj_rule_sets.specs.Faults as expressions
use Rattle.pj_rule_sets.specs.declared.fault.ExpressionFault.{ExpressionFault}
use Rattle.pj_rule_sets.specs.declared.fault.ExpressionFault.TheVariants as unsound
use Rattle.pj_rule_texts.specs.Files.{IsRead, is_there}
use Rattle.pj_rule_sets.specs.Lists.{Taken, is_among, named}
use Rattle.pj_rule_sets.specs.declared.entry.Entry.{Entry}
use Rattle.pj_rule_sets.specs.declared.entry.Entry.TheVariants as entry
use Rattle.pj_rule_sets.specs.declared.entry.Origin.{Origin}
use Rattle.pj_rule_texts.specs.References.{Meant, WholeFile, OneRule, reference_of}
use Rattle.pj_rule_texts.specs.Rules.{defined, new_name, overridden}
use Rattle.pj_rule_texts.specs.Values.{Text}
use Rattle.pj_rule_texts.specs.declared.fault.TextFault.{TextFault}
use Rattle.pj_rule_texts.specs.declared.rule.RuleTexts.{RuleTexts}
use Rattle.pj_rule_texts.specs.declared.written.Part.{Part}
use Rattle.pj_rule_texts.specs.declared.written.Part.TheVariants as part
use Rattle.pj_rule_texts.specs.declared.written.WrittenRule.{WrittenRule}
use Rattle.pj_rule_texts.specs.declared.written.WrittenRuleset.{WrittenRuleset}
use Rattle.pj_rules.specs.Effective.{AddAll, AreJudged, CannotChange, CannotDefine, FileFaults, HasRules, PartFault, RefersTo, nothing, path_pattern, what_of_expressions, what_of_file, what_of_texts}
use Rattle.pj_rules.specs.Load.{IsFirstFault, IsTopFault}
use Rattle.pj_rules.specs.LookUp.{look_up}
use Rattle.pj_rules.specs.declared.fault.RuleFault.{RuleFault}
use Rattle.pj_rules.specs.declared.fault.RuleWhat.{RuleWhat}
use Rattle.pj_rules.specs.declared.fault.RuleWhat.TheVariants as what
use Rattle.pj_rules.specs.declared.progress.Progress.{Progress}
use Rattle.pj_rules.proofs.Apart.{among_more, among_one, apart_file, apart_part, judged_at, meant_file, not_unreadable, ok_err, reach, there_of_fault, tops_apart}
use Rattle.pj_rules.proofs.OneList.{file_of, is_pattern, none_some, one_list, one_ok, one_read, one_some, same_rule, same_up_to, view_same}
use Rattle.pj_rules.proofs.OneSet.{true_false}
use Rattle.pj_rules.proofs.OneUnreadable.{Fronts, fronts, one_unreadable}
use Rattle.pj_xpatterns.specs.Refusing.{AreTaken}

one_err : {A E : Type 0} (r : Result A E) (a b : E) → r ≡ Err a → r ≡ Err b → a ≡ b
one_err {A} {E} r a b e f = let both : ◌≡◌ {A = Result A E} (Err a) (Err b) = sym e ∙ f in cc

abbrev told : Text → RuleWhat → RuleFault
told path w = record { path = path; what = w }

-- ---- what decides the fault of a part

abbrev pattern_of : Part → Option Text
pattern_of (part.Rule rule) = None
pattern_of (part.ExcludePattern pattern) = Some pattern
pattern_of (part.IncludePattern pattern) = Some pattern

data Undefined (rule_set : Text) (progress : Progress) (rule : WrittenRule) (w : RuleWhat) : Type 0 where
  nameless : rule.name ≡ None → w ≡ what.NoName rule.offset → Undefined rule_set progress rule w
  twice : (name : Text) → rule.name ≡ Some name → is_among name progress.names ≡ true → w ≡ what.SameName name → Undefined rule_set progress rule w
  refused : (name : Text) → rule.name ≡ Some name → is_among name progress.names ≡ false → CannotDefine rule_set name rule w → Undefined rule_set progress rule w

module _ (files : Files) where
  data Within (open_ : List Text) (path : Text) (rule : WrittenRule) (reference : Text) (to : Meant) (other : Text) (fault : RuleFault) : Type 0 where
    cycle : is_among other open_ ≡ true → fault ≡ told path (what.RefCycle reference) → Within open_ path rule reference to other fault
    within : is_among other open_ ≡ false → FileFaults files false (open_ ++ other ∷ []) other fault → Within open_ path rule reference to other fault
    no_rule : (file name : Text) (list : List Taken) → to ≡ OneRule file name → HasRules files other list → named name list ≡ None → fault ≡ told path (what.MissingRef reference) →
        Within open_ path rule reference to other fault
    override : (file name : Text) (list : List Taken) (origin : Origin) (old : RuleTexts) (w : RuleWhat) → to ≡ OneRule file name → HasRules files other list →
        named name list ≡ Some (origin, entry.Rule old) → CannotChange rule old w → fault ≡ told path w → Within open_ path rule reference to other fault

  data Misleads (open_ : List Text) (path : Text) (rule : WrittenRule) (reference : Text) (fault : RuleFault) : Type 0 where
    no_form : reference_of reference ≡ None → fault ≡ told path (what.MissingRef reference) → Misleads open_ path rule reference fault
    no_file : (to : Meant) → reference_of reference ≡ Some to → look_up files path (file_of to) ≡ None → fault ≡ told path (what.MissingRef reference) →
        Misleads open_ path rule reference fault
    leads : (to : Meant) (other : Text) → reference_of reference ≡ Some to → look_up files path (file_of to) ≡ Some other → Within open_ path rule reference to other fault →
        Misleads open_ path rule reference fault

  data Cause (open_ : List Text) (path rule_set : Text) (progress : Progress) (p : Part) (fault : RuleFault) : Type 0 where
    of_pattern : (pattern : Text) → pattern_of p ≡ Some pattern → fault ≡ told path (what.PatternRefused pattern) → Cause open_ path rule_set progress p fault
    undefined : (rule : WrittenRule) (w : RuleWhat) → p ≡ part.Rule rule → rule.reference ≡ None → Undefined rule_set progress rule w → fault ≡ told path w →
        Cause open_ path rule_set progress p fault
    misleads : (rule : WrittenRule) (reference : Text) → p ≡ part.Rule rule → rule.reference ≡ Some reference → Misleads open_ path rule reference fault →
        Cause open_ path rule_set progress p fault

  leads_by : (open_ : List Text) (path : Text) (rule : WrittenRule) (reference file other : Text) (fault : RuleFault) → RefersTo files reference file →
      look_up files path file ≡ Some other → ((to : Meant) → Within open_ path rule reference to other fault) → Misleads open_ path rule reference fault
  leads_by open_ path rule reference file other fault (RefersTo.whole_file means) found inner = Misleads.leads (WholeFile file) other means found (inner (WholeFile file))
  leads_by open_ path rule reference file other fault (RefersTo.one_rule {name = name} means) found inner = Misleads.leads (OneRule file name) other means found (inner (OneRule file name))

  no_file_by : (open_ : List Text) (path : Text) (rule : WrittenRule) (reference file : Text) (fault : RuleFault) → RefersTo files reference file →
      look_up files path file ≡ None → fault ≡ told path (what.MissingRef reference) → Misleads open_ path rule reference fault
  no_file_by open_ path rule reference file fault (RefersTo.whole_file means) none is = Misleads.no_file (WholeFile file) means none is
  no_file_by open_ path rule reference file fault (RefersTo.one_rule {name = name} means) none is = Misleads.no_file (OneRule file name) means none is

  cause : {is_top : Bool} {open_ : List Text} {path rule_set : Text} {progress : Progress} {p : Part} {fault : RuleFault} → PartFault files is_top open_ path rule_set progress p fault →
      Cause open_ path rule_set progress p fault
  cause (PartFault.exclude_pattern {pattern = pattern} is none) = Cause.of_pattern pattern refl refl
  cause (PartFault.include_pattern {pattern = pattern} is none) = Cause.of_pattern pattern refl refl
  cause (PartFault.no_name {rule = rule} own none) = Cause.undefined rule (what.NoName rule.offset) refl own (Undefined.nameless none refl) refl
  cause (PartFault.same_name {rule = rule} {name = name} own is_named among) = Cause.undefined rule (what.SameName name) refl own (Undefined.twice name is_named among refl) refl
  cause (PartFault.definition {rule = rule} {name = name} {w = w} own is_named fresh is cannot) = Cause.undefined rule w refl own (Undefined.refused name is_named fresh cannot) refl
  cause (PartFault.neither_form {rule = rule} {reference = reference} refers none) = Cause.misleads rule reference refl refers (Misleads.no_form none refl)
  cause (PartFault.missing_file {open_ = open_} {path = path} {rule = rule} {reference = reference} {file = file} refers means none not_elsewhere) =
      Cause.misleads rule reference refl refers (no_file_by open_ path rule reference file (told path (what.MissingRef reference)) means none refl)
  cause (PartFault.cycle {open_ = open_} {path = path} {rule = rule} {reference = reference} {file = file} {other = other} refers means found among) =
      Cause.misleads rule reference refl refers (leads_by open_ path rule reference file other (told path (what.RefCycle reference)) means found (λ to. Within.cycle among refl))
  cause (PartFault.within {open_ = open_} {path = path} {rule = rule} {reference = reference} {file = file} {other = other} {fault = fault} refers means found fresh inner) =
      Cause.misleads rule reference refl refers (leads_by open_ path rule reference file other fault means found (λ to. Within.within fresh inner))
  cause (PartFault.missing_rule {rule = rule} {reference = reference} {file = file} {name = name} {other = other} {list = list} refers means found has none) =
      Cause.misleads rule reference refl refers (Misleads.leads (OneRule file name) other means found (Within.no_rule file name list refl has none refl))
  cause (PartFault.override {rule = rule} {reference = reference} {file = file} {name = name} {other = other} {list = list} {origin = origin} {old = old} {w = w} refers means found has in_list cannot) =
      Cause.misleads rule reference refl refers (Misleads.leads (OneRule file name) other means found (Within.override file name list origin old w refl has in_list cannot refl))

-- ---- one fault of a rule's texts

module _ (one : OneFault) where
  has_cause : (name : Text) (fault : ExpressionFault) (w : RuleWhat) → what_of_expressions name fault ≡ Some w → fault ≢ unsound.Memory
  has_cause name fault w is memory = none_some (what_of_expressions name fault) w (ap (what_of_expressions name) memory) is

  same_what : (a b : RuleTexts) (f g : ExpressionFault) (v w : RuleWhat) → a ≡ b → expressions.IsFault a f → expressions.IsFault b g → what_of_expressions a.row.name f ≡ Some v →
      what_of_expressions b.row.name g ≡ Some w → v ≡ w
  same_what a b f g v w e h k is is_too =
      let fault : f ≡ g = one b f g (subst (λ (t : RuleTexts). expressions.IsFault t f) e h) k (has_cause a.row.name f v is) (has_cause b.row.name g w is_too) in
      one_some (what_of_expressions b.row.name g) v w
      (subst (λ x. what_of_expressions b.row.name x ≡ Some v) fault (subst (λ (t : RuleTexts). what_of_expressions t.row.name f ≡ Some v) e is)) is_too

  same_text_what : (name : Text) (f g : TextFault) (v w : RuleWhat) → f ≡ g → what_of_texts name f ≡ Some v → what_of_texts name g ≡ Some w → v ≡ w
  same_text_what name f g v w e is is_too = one_some (what_of_texts name g) v w (subst (λ x. what_of_texts name x ≡ Some v) e is) is_too

  one_define : (rule_set name : Text) (rule : WrittenRule) (v w : RuleWhat) → CannotDefine rule_set name rule v → CannotDefine rule_set name rule w → v ≡ w
  one_define rule_set name rule v w (CannotDefine.bad_texts {fault = f} h is) (CannotDefine.bad_texts {fault = g} k is_too) =
      same_text_what name f g v w (one_err (defined rule_set name rule) f g h k) is is_too
  one_define rule_set name rule v w (CannotDefine.bad_texts {fault = f} h is) (CannotDefine.bad_expressions {new = new} g k unsound_too is_too) =
      absurd (ok_err (defined rule_set name rule) new f k h)
  one_define rule_set name rule v w (CannotDefine.bad_expressions {new = new} f h unsound_ is) (CannotDefine.bad_texts {fault = g} k is_too) =
      absurd (ok_err (defined rule_set name rule) new g h k)
  one_define rule_set name rule v w (CannotDefine.bad_expressions {new = a} f h bad is) (CannotDefine.bad_expressions {new = b} g k bad_too is_too) =
      same_what a b f g v w (one_ok (defined rule_set name rule) a b h k) bad bad_too is is_too

  one_change : (rule : WrittenRule) (old : RuleTexts) (v w : RuleWhat) → CannotChange rule old v → CannotChange rule old w → v ≡ w
  one_change rule old v w (CannotChange.bad_texts {fault = f} h is) (CannotChange.bad_texts {fault = g} k is_too) =
      same_text_what (new_name old rule) f g v w (one_err (overridden old rule) f g h k) is is_too
  one_change rule old v w (CannotChange.bad_texts {fault = f} h is) (CannotChange.bad_expressions {new = new} g k bad is_too) =
      absurd (ok_err (overridden old rule) new f k h)
  one_change rule old v w (CannotChange.bad_expressions {new = new} f h bad is) (CannotChange.bad_texts {fault = g} k is_too) =
      absurd (ok_err (overridden old rule) new g h k)
  one_change rule old v w (CannotChange.bad_expressions {new = a} f h bad is) (CannotChange.bad_expressions {new = b} g k bad_too is_too) =
      same_what a b f g v w (one_ok (overridden old rule) a b h k) bad bad_too is is_too

  one_undefined : (rule_set : Text) (progress : Progress) (rule : WrittenRule) (v w : RuleWhat) → Undefined rule_set progress rule v → Undefined rule_set progress rule w → v ≡ w
  one_undefined rule_set progress rule v w (Undefined.nameless none is) (Undefined.nameless none_too is_too) = is ∙ sym is_too
  one_undefined rule_set progress rule v w (Undefined.nameless none is) (Undefined.twice name is_named among is_too) = absurd (none_some rule.name name none is_named)
  one_undefined rule_set progress rule v w (Undefined.nameless none is) (Undefined.refused name is_named fresh cannot) = absurd (none_some rule.name name none is_named)
  one_undefined rule_set progress rule v w (Undefined.twice name is_named among is) (Undefined.nameless none is_too) = absurd (none_some rule.name name none is_named)
  one_undefined rule_set progress rule v w (Undefined.twice name is_named among is) (Undefined.twice other is_named_too among_too is_too) =
      is ∙ ap what.SameName (one_some rule.name name other is_named is_named_too) ∙ sym is_too
  one_undefined rule_set progress rule v w (Undefined.twice name is_named among is) (Undefined.refused other is_named_too fresh cannot) =
      absurd (true_false (is_among other progress.names) (subst (λ x. is_among x progress.names ≡ true) (one_some rule.name name other is_named is_named_too) among) fresh)
  one_undefined rule_set progress rule v w (Undefined.refused name is_named fresh cannot) (Undefined.nameless none is_too) = absurd (none_some rule.name name none is_named)
  one_undefined rule_set progress rule v w (Undefined.refused name is_named fresh cannot) (Undefined.twice other is_named_too among is_too) =
      absurd (true_false (is_among other progress.names) among (subst (λ x. is_among x progress.names ≡ false) (one_some rule.name name other is_named is_named_too) fresh))
  one_undefined rule_set progress rule v w (Undefined.refused name is_named fresh cannot) (Undefined.refused other is_named_too fresh_too cannot_too) =
      one_define rule_set other rule v w (subst (λ x. CannotDefine rule_set x rule v) (one_some rule.name name other is_named is_named_too) cannot) cannot_too

-- ---- causes by the form of the part

module _ (files : Files) (open_ : List Text) (path rule_set : Text) (progress : Progress) (p : Part) (fault : RuleFault) where
  same_pattern : (pattern : Text) → pattern_of p ≡ Some pattern → Cause files open_ path rule_set progress p fault → told path (what.PatternRefused pattern) ≡ fault
  same_pattern pattern is (Cause.of_pattern other is_too e) = ap (λ t. told path (what.PatternRefused t)) (one_some (pattern_of p) pattern other is is_too) ∙ sym e
  same_pattern pattern is (Cause.undefined rule w e none u f) = absurd (none_some (pattern_of p) pattern (ap pattern_of e) is)
  same_pattern pattern is (Cause.misleads rule reference e refers m) = absurd (none_some (pattern_of p) pattern (ap pattern_of e) is)

  module _ (rule : WrittenRule) (is_rule : p ≡ part.Rule rule) where
    undefined_by : rule.reference ≡ None → Cause files open_ path rule_set progress p fault → (w : RuleWhat) × Undefined rule_set progress rule w × (fault ≡ told path w)
    undefined_by own (Cause.of_pattern pattern is e) = absurd (none_some (pattern_of p) pattern (ap pattern_of is_rule) is)
    undefined_by own (Cause.undefined other w e none u f) = (w, subst (λ (x : WrittenRule). Undefined rule_set progress x w) (same_rule p p other rule refl e is_rule) u, f)
    undefined_by own (Cause.misleads other reference e refers m) =
        absurd (none_some rule.reference reference own (subst (λ (x : WrittenRule). x.reference ≡ Some reference) (same_rule p p other rule refl e is_rule) refers))

    misleads_by : (reference : Text) → rule.reference ≡ Some reference → Cause files open_ path rule_set progress p fault → Misleads files open_ path rule reference fault
    misleads_by reference refers (Cause.of_pattern pattern is e) = absurd (none_some (pattern_of p) pattern (ap pattern_of is_rule) is)
    misleads_by reference refers (Cause.undefined other w e none u f) =
        absurd (none_some rule.reference reference (subst (λ (x : WrittenRule). x.reference ≡ None) (same_rule p p other rule refl e is_rule) none) refers)
    misleads_by reference refers (Cause.misleads other reference_too e refers_too m) =
        let r : other ≡ rule = same_rule p p other rule refl e is_rule in
        let t : reference_too ≡ reference = one_some rule.reference reference_too reference (subst (λ (x : WrittenRule). x.reference ≡ Some reference_too) r refers_too) refers in
        subst (λ x. Misleads files open_ path rule x fault) t (subst (λ (x : WrittenRule). Misleads files open_ path x reference_too fault) r m)

module _ (files : Files) (one_reading : (text : List ℕ) (rows others : List Row) → IsMarkup text rows → IsMarkup text others → rows ≡ others) (one : OneFault) where
  -- none of these files has rules
  abbrev NoRules : List Text → Type 0
  NoRules open_ = (path : Text) (list : List Taken) → is_among path open_ ≡ true → HasRules files path list → ⊥

  -- ---- where a reference leads

  module _ (open_ : List Text) (path : Text) (rule : WrittenRule) (reference : Text) (fault : RuleFault) where
    nowhere : reference_of reference ≡ None → Misleads files open_ path rule reference fault → told path (what.MissingRef reference) ≡ fault
    nowhere none (Misleads.no_form none_too is) = sym is
    nowhere none (Misleads.no_file to means none_too is) = sym is
    nowhere none (Misleads.leads to other means found w) = absurd (none_some (reference_of reference) to none means)

    module _ (file : Text) (refers : RefersTo files reference file) where
      has_form : reference_of reference ≡ None → ⊥
      has_form none = by_meaning refers
        where
          by_meaning : RefersTo files reference file → ⊥
          by_meaning (RefersTo.whole_file means) = none_some (reference_of reference) (WholeFile file) none means
          by_meaning (RefersTo.one_rule {name = name} means) = none_some (reference_of reference) (OneRule file name) none means

      looked_up : (to : Meant) (o : Option Text) → reference_of reference ≡ Some to → look_up files path (file_of to) ≡ o → look_up files path file ≡ o
      looked_up to o means found = subst (λ x. look_up files path x ≡ o) (meant_file files reference file refers to means) found

      missing : look_up files path file ≡ None → Misleads files open_ path rule reference fault → told path (what.MissingRef reference) ≡ fault
      missing none (Misleads.no_form none_too is) = sym is
      missing none (Misleads.no_file to means none_too is) = sym is
      missing none (Misleads.leads to other means found w) = absurd (none_some (look_up files path file) other none (looked_up to (Some other) means found))

      module _ (other : Text) (found : look_up files path file ≡ Some other) where
        -- it leads to the other file
        leads_there : Misleads files open_ path rule reference fault → (to : Meant) × (reference_of reference ≡ Some to) × Within files open_ path rule reference to other fault
        leads_there (Misleads.no_form none is) = absurd (has_form none)
        leads_there (Misleads.no_file to means none is) = absurd (none_some (look_up files path file) other (looked_up to None means none) found)
        leads_there (Misleads.leads to other_too means found_too w) = (
          to,
          means,
          subst (λ x. Within files open_ path rule reference to x fault) (one_some (look_up files path file) other_too other (looked_up to (Some other_too) means found_too) found) w,
        )

        in_cycle : is_among other open_ ≡ true → NoRules open_ → Misleads files open_ path rule reference fault → told path (what.RefCycle reference) ≡ fault
        in_cycle among none m = by_way (leads_there m).2
          where
            by_way : {to : Meant} → Within files open_ path rule reference to other fault → told path (what.RefCycle reference) ≡ fault
            by_way (Within.cycle among_too is) = sym is
            by_way (Within.within fresh inner) = absurd (true_false (is_among other open_) among fresh)
            by_way (Within.no_rule file_too name list is has none_named e) = absurd (none other list among has)
            by_way (Within.override file_too name list origin old w is has in_list cannot e) = absurd (none other list among has)

        inside : (given : RuleFault) → is_among other open_ ≡ false → ((list : List Taken) → HasRules files other list → ⊥) →
            (FileFaults files false (open_ ++ other ∷ []) other fault → given ≡ fault) → Misleads files open_ path rule reference fault → given ≡ fault
        inside given fresh none again m = by_way (leads_there m).2
          where
            by_way : {to : Meant} → Within files open_ path rule reference to other fault → given ≡ fault
            by_way (Within.cycle among is) = absurd (true_false (is_among other open_) among fresh)
            by_way (Within.within fresh_too inner) = again inner
            by_way (Within.no_rule file_too name list is has none_named e) = absurd (none list has)
            by_way (Within.override file_too name list origin old w is has in_list cannot e) = absurd (none list has)

    module _ (file name other : Text) (list : List Taken) (means : reference_of reference ≡ Some (OneRule file name)) (found : look_up files path file ≡ Some other) (has : HasRules files other list)
        (none : NoRules open_) (fine : FileFaults files false (open_ ++ other ∷ []) other fault → ⊥) where
      same_name : (to : Meant) (file_too name_too : Text) → reference_of reference ≡ Some to → to ≡ OneRule file_too name_too → name_too ≡ name
      same_name to file_too name_too means_too is =
          let e : OneRule file_too name_too ≡ OneRule file name = one_some (reference_of reference) (OneRule file_too name_too) (OneRule file name) (means_too ∙ ap Some is) means in cc

      in_list_too : (list_too : List Taken) (name_too : Text) (o : Option Taken) → HasRules files other list_too → name_too ≡ name → named name_too list_too ≡ o → named name list ≡ o
      in_list_too list_too name_too o has_too e is = subst (λ x. named name x ≡ o) (one_list files one_reading other other list_too list has_too has refl).0 (subst (λ x. named x list_too ≡ o) e is)

      no_such_rule : named name list ≡ None → Misleads files open_ path rule reference fault → told path (what.MissingRef reference) ≡ fault
      no_such_rule unnamed m = let l = leads_there file (RefersTo.one_rule means) other found m in by_way l.0 l.1 l.2
        where
          by_way : (to : Meant) → reference_of reference ≡ Some to → Within files open_ path rule reference to other fault → told path (what.MissingRef reference) ≡ fault
          by_way to means_too (Within.cycle among is) = absurd (none other list among has)
          by_way to means_too (Within.within fresh inner) = absurd (fine inner)
          by_way to means_too (Within.no_rule file_too name_too list_too is has_too unnamed_too e) = sym e
          by_way to means_too (Within.override file_too name_too list_too origin old w is has_too in_list cannot e) =
              absurd (none_some (named name list) (origin, entry.Rule old) unnamed
              (in_list_too list_too name_too (Some (origin, entry.Rule old)) has_too (same_name to file_too name_too means_too is) in_list))

      not_changed : (origin : Origin) (old : RuleTexts) (v : RuleWhat) → named name list ≡ Some (origin, entry.Rule old) → CannotChange rule old v → Misleads files open_ path rule reference fault →
          told path v ≡ fault
      not_changed origin old v in_list cannot m = let l = leads_there file (RefersTo.one_rule means) other found m in by_way l.0 l.1 l.2
        where
          by_way : (to : Meant) → reference_of reference ≡ Some to → Within files open_ path rule reference to other fault → told path v ≡ fault
          by_way to means_too (Within.cycle among is) = absurd (none other list among has)
          by_way to means_too (Within.within fresh inner) = absurd (fine inner)
          by_way to means_too (Within.no_rule file_too name_too list_too is has_too unnamed e) =
              absurd (none_some (named name list) (origin, entry.Rule old) (in_list_too list_too name_too None has_too (same_name to file_too name_too means_too is) unnamed) in_list)
          by_way to means_too (Within.override file_too name_too list_too origin_too old_too w is has_too in_list_two cannot_too e) =
              let both : ◌≡◌ {A = Taken} (origin_too, entry.Rule old_too) (origin, entry.Rule old) = one_some (named name list) (origin_too, entry.Rule old_too) (origin, entry.Rule old)
              (in_list_too list_too name_too (Some (origin_too, entry.Rule old_too)) has_too (same_name to file_too name_too means_too is) in_list_two) in_list in
              let rules : ◌≡◌ {A = Entry} (entry.Rule old_too) (entry.Rule old) = ap (λ (t : Taken). t.1) both in
              let same : old_too ≡ old = cc in
              ap (told path) (one_change one rule old v w cannot (subst (λ (x : RuleTexts). CannotChange rule x w) same cannot_too)) ∙ sym e

  module _ (sound_or_fault : SoundOrFault) where
    -- of the files that are open, this one alone may have rules
    abbrev Only : List Text → Text → Type 0
    Only open_ path = (other : Text) (list : List Taken) → is_among other open_ ≡ true → HasRules files other list → other ≡ path

    -- a file with a fault, which is no top ruleset, has no rules
    no_rules : {is_top : Bool} {open_ : List Text} {path : Text} {fault : RuleFault} → FileFaults files is_top open_ path fault → is_top ≡ false → Only open_ path →
        (list : List Taken) → HasRules files path list → ⊥
    no_rules {is_top} {open_} {path} h is only list (HasRules.file {written = written} {progress = progress} read adds) =
        apart_file files one_reading sound_or_fault h path written progress refl read adds (subst (λ b. AreJudged b written.parts) (sym is) tt)
        (λ at list_too k among. let steps = (one_list files one_reading at path list_too progress.list k (HasRules.file read adds) (only at list_too among k)).1 in omega (arith, steps))

    untaken : (p : Part) → is_pattern p ≡ false → AreTaken (path_pattern p)
    untaken (part.Rule rule) is = tt
    untaken (part.ExcludePattern pattern) is = absurd (cc)
    untaken (part.IncludePattern pattern) is = absurd (cc)

    -- nor has one with a fault in a rule
    no_rules_at : {is_top : Bool} {open_ : List Text} {path rule_set : Text} {progress : Progress} {p : Part} {fault : RuleFault} (inner : PartFault files is_top open_ path rule_set progress p fault)
        (written : WrittenRuleset) (before behind : List Part) → written.rule_set ≡ rule_set → is_pattern p ≡ false → IsRead files path written → written.parts ≡ before ++ p ∷ behind →
        AddAll files path rule_set nothing before progress → Only open_ path → NoRules open_
    no_rules_at {open_ = open_} {path = path} {rule_set = rule_set} {p = p} inner written before behind same_set is_rule read stands added only at list among
        (HasRules.file {written = written_too} {progress = progress_too} read_too adds) =
        let e : at ≡ path = only at progress_too.list among (HasRules.file read_too adds) in
        let w : written_too ≡ written = one_read files one_reading at path written_too written e read_too read in
        let s : written_too.rule_set ≡ rule_set = ap (λ (x : WrittenRuleset). x.rule_set) w ∙ same_set in
        let r = reach files one_reading sound_or_fault adds before behind p (ap (λ (x : WrittenRuleset). x.parts) w ∙ stands) in
        let m = same_up_to files one_reading r.taken added e s refl r.is_front in
        apart_part files one_reading sound_or_fault inner at written_too.rule_set r.middle r.here r.next e s m.0 r.is_here r.step (λ top. untaken p is_rule)
        (λ one_more list_too k among_too.
        let steps = (one_list files one_reading one_more at list_too progress_too.list k (HasRules.file read_too adds) (only one_more list_too among_too k ∙ sym e)).1 in
        let few = r.few in let view = view_same files r.step in omega (arith, few, steps, view))

    -- a pattern that is refused is not among those that are judged
    not_judged : {is_top : Bool} {open_ : List Text} {path rule_set : Text} {progress : Progress} {p : Part} {fault : RuleFault} → PartFault files is_top open_ path rule_set progress p fault →
        is_pattern p ≡ true → (is_top ≡ true → AreTaken (path_pattern p)) → ⊥
    not_judged (PartFault.exclude_pattern is none) is_one judged = (judged is).0 none
    not_judged (PartFault.include_pattern is none) is_one judged = (judged is).0 none
    not_judged (PartFault.no_name a b) is_one judged = absurd (cc)
    not_judged (PartFault.same_name a b c) is_one judged = absurd (cc)
    not_judged (PartFault.definition a b c d e) is_one judged = absurd (cc)
    not_judged (PartFault.neither_form a b) is_one judged = absurd (cc)
    not_judged (PartFault.missing_file a b c d) is_one judged = absurd (cc)
    not_judged (PartFault.cycle a b c d) is_one judged = absurd (cc)
    not_judged (PartFault.within a b c d e) is_one judged = absurd (cc)
    not_judged (PartFault.missing_rule a b c d e) is_one judged = absurd (cc)
    not_judged (PartFault.override a b c d e f) is_one judged = absurd (cc)

    -- behind a part with a fault no other part has one
    earlier : {is_top : Bool} {open_ : List Text} {path rule_set : Text} {progress : Progress} {p : Part} {fault : RuleFault} (inner : PartFault files is_top open_ path rule_set progress p fault)
        (written : WrittenRuleset) (before behind more longer : List Part) (rule_set_too : Text) (last : Progress) → written.rule_set ≡ rule_set → rule_set_too ≡ rule_set → IsRead files path written →
        written.parts ≡ before ++ p ∷ behind → AddAll files path rule_set nothing before progress → longer ≡ before ++ p ∷ more → AddAll files path rule_set_too nothing longer last →
        AreJudged is_top longer → Only open_ path → ⊥
    earlier {is_top} {open_} {path} {rule_set} {progress} {p} inner written before behind more longer rule_set_too last same_set s read stands added split adds judged only = by_kind (is_pattern p) refl
      where
        here : is_top ≡ true → AreTaken (path_pattern p)
        here top = judged_at before more p (subst (λ (ps : List Part). AreTaken (flat_map path_pattern ps)) split (subst (λ b. AreJudged b longer) top judged))

        by_kind : (b : Bool) → is_pattern p ≡ b → ⊥
        by_kind true is = not_judged inner is here
        by_kind false is =
            let r = reach files one_reading sound_or_fault adds before more p split in
            let m = same_up_to files one_reading r.taken added refl s refl r.is_front in
            apart_part files one_reading sound_or_fault inner path rule_set_too r.middle r.here r.next refl s m.0 r.is_here r.step here
            (λ at list k among. absurd (no_rules_at inner written before behind same_set is read stands added only at list among k))

    -- ---- one fault of a file

    -- both faults stand in one part
    place : {is_top : Bool} {open_ : List Text} {path rule_set rule_set_too : Text} {progress progress_too : Progress} {p q : Part} {a b : RuleFault}
        (inner : PartFault files is_top open_ path rule_set progress p a) (inner_too : PartFault files is_top open_ path rule_set_too progress_too q b)
        (written written_too : WrittenRuleset) (before behind before_too behind_too : List Part) → written.rule_set ≡ rule_set → written_too.rule_set ≡ rule_set_too →
        IsRead files path written → IsRead files path written_too → written.parts ≡ before ++ p ∷ behind → written_too.parts ≡ before_too ++ q ∷ behind_too →
        AddAll files path rule_set nothing before progress → AddAll files path rule_set_too nothing before_too progress_too → AreJudged is_top before → AreJudged is_top before_too →
        Only open_ path → (rule_set_too ≡ rule_set) × (progress_too ≡ progress) × (q ≡ p)
    place {path = path} {rule_set = rule_set} {rule_set_too = rule_set_too} {progress = progress} {progress_too = progress_too} {p = p} {q = q} inner inner_too written written_too
        before behind before_too behind_too same_set same_set_too read read_too stands stands_too added added_too judged judged_too only =
        by_fronts (fronts before (p ∷ behind) before_too (q ∷ behind_too) (sym stands ∙ ap (λ (x : WrittenRuleset). x.parts) w ∙ stands_too))
      where
        w : written ≡ written_too
        w = one_read files one_reading path path written written_too refl read read_too

        s : rule_set ≡ rule_set_too
        s = sym same_set ∙ ap (λ (x : WrittenRuleset). x.rule_set) w ∙ same_set_too

        by_fronts : Fronts before (p ∷ behind) before_too (q ∷ behind_too) → (rule_set_too ≡ rule_set) × (progress_too ≡ progress) × (q ≡ p)
        by_fronts (Fronts.same e f) = (sym s, (same_up_to files one_reading added_too added refl (sym s) refl (sym e)).0, cc)
        by_fronts (Fronts.longer x more e f) =
            let here : x ≡ q = cc in
            absurd (earlier inner_too written_too before_too behind_too more before rule_set progress same_set_too s read_too stands_too added_too
            (subst (λ y. before ≡ before_too ++ y ∷ more) here e) added judged only)
        by_fronts (Fronts.shorter x more e f) =
            let here : x ≡ p = cc in
            absurd (earlier inner written before behind more before_too rule_set_too progress_too same_set (sym s) read stands added
            (subst (λ y. before_too ≡ before ++ y ∷ more) here e) added_too judged_too only)

    only_last : (open_ : List Text) (other : Text) → NoRules open_ → Only (open_ ++ other ∷ []) other
    only_last open_ other none at list among has = among_more open_ at other (at ≡ other) among (λ before. absurd (none at list before has)) (λ last. last)

    mutual
      one_part : {is_top : Bool} {open_ : List Text} {path rule_set : Text} {progress : Progress} {p : Part} {a : RuleFault} → PartFault files is_top open_ path rule_set progress p a →
          (b : RuleFault) → Cause files open_ path rule_set progress p b → (is_pattern p ≡ false → NoRules open_) → a ≡ b
      one_part (PartFault.exclude_pattern {open_ = open_} {path = path} {rule_set = rule_set} {progress = progress} {pattern = pattern} is none) b k bad =
          same_pattern files open_ path rule_set progress (part.ExcludePattern pattern) b pattern refl k
      one_part (PartFault.include_pattern {open_ = open_} {path = path} {rule_set = rule_set} {progress = progress} {pattern = pattern} is none) b k bad =
          same_pattern files open_ path rule_set progress (part.IncludePattern pattern) b pattern refl k
      one_part (PartFault.no_name {open_ = open_} {path = path} {rule_set = rule_set} {progress = progress} {rule = rule} own none) b k bad =
          let u = undefined_by files open_ path rule_set progress (part.Rule rule) b rule refl own k in
          ap (told path) (one_undefined one rule_set progress rule (what.NoName rule.offset) u.0 (Undefined.nameless none refl) u.1) ∙ sym u.2
      one_part (PartFault.same_name {open_ = open_} {path = path} {rule_set = rule_set} {progress = progress} {rule = rule} {name = name} own is_named among) b k bad =
          let u = undefined_by files open_ path rule_set progress (part.Rule rule) b rule refl own k in
          ap (told path) (one_undefined one rule_set progress rule (what.SameName name) u.0 (Undefined.twice name is_named among refl) u.1) ∙ sym u.2
      one_part (PartFault.definition {open_ = open_} {path = path} {rule_set = rule_set} {progress = progress} {rule = rule} {name = name} {w = w} own is_named fresh is cannot) b k bad =
          let u = undefined_by files open_ path rule_set progress (part.Rule rule) b rule refl own k in
          ap (told path) (one_undefined one rule_set progress rule w u.0 (Undefined.refused name is_named fresh cannot) u.1) ∙ sym u.2
      one_part (PartFault.neither_form {open_ = open_} {path = path} {rule_set = rule_set} {progress = progress} {rule = rule} {reference = reference} refers none) b k bad =
          nowhere open_ path rule reference b none (misleads_by files open_ path rule_set progress (part.Rule rule) b rule refl reference refers k)
      one_part (PartFault.missing_file {open_ = open_} {path = path} {rule_set = rule_set} {progress = progress} {rule = rule} {reference = reference} {file = file} refers means none not_elsewhere) b k bad =
          missing open_ path rule reference b file means none (misleads_by files open_ path rule_set progress (part.Rule rule) b rule refl reference refers k)
      one_part (PartFault.cycle {open_ = open_} {path = path} {rule_set = rule_set} {progress = progress} {rule = rule} {reference = reference} {file = file} {other = other} refers means found among) b k bad =
          in_cycle open_ path rule reference b file means other found among (bad refl) (misleads_by files open_ path rule_set progress (part.Rule rule) b rule refl reference refers k)
      one_part (PartFault.within {open_ = open_} {path = path} {rule_set = rule_set} {progress = progress} {rule = rule} {reference = reference} {file = file} {other = other} {fault = fault}
          refers means found fresh inner) b k bad =
          inside open_ path rule reference b file means other found fault fresh
          (λ list has. no_rules inner refl (only_last open_ other (bad refl)) list has)
          (λ inner_too. one_file inner inner_too (only_last open_ other (bad refl)))
          (misleads_by files open_ path rule_set progress (part.Rule rule) b rule refl reference refers k)
      one_part (PartFault.missing_rule {open_ = open_} {path = path} {rule_set = rule_set} {progress = progress} {rule = rule} {reference = reference} {file = file} {name = name} {other = other} {list = list}
          refers means found has none) b k bad =
          no_such_rule open_ path rule reference b file name other list means found has (bad refl) (λ inner. no_rules inner refl (only_last open_ other (bad refl)) list has) none
          (misleads_by files open_ path rule_set progress (part.Rule rule) b rule refl reference refers k)
      one_part (PartFault.override {open_ = open_} {path = path} {rule_set = rule_set} {progress = progress} {rule = rule} {reference = reference} {file = file} {name = name} {other = other} {list = list}
          {origin = origin} {old = old} {w = w} refers means found has in_list cannot) b k bad =
          not_changed open_ path rule reference b file name other list means found has (bad refl) (λ inner. no_rules inner refl (only_last open_ other (bad refl)) list has) origin old w in_list cannot
          (misleads_by files open_ path rule_set progress (part.Rule rule) b rule refl reference refers k)

      one_file : {is_top : Bool} {open_ : List Text} {path : Text} {a b : RuleFault} → FileFaults files is_top open_ path a → FileFaults files is_top open_ path b → Only open_ path → a ≡ b
      one_file (FileFaults.unreadable {path = path} {fault = f} u) (FileFaults.unreadable {fault = g} v) only =
          ap (λ x. told path (what_of_file x)) (one_unreadable one_reading files path f g u v)
      one_file (FileFaults.unreadable {path = path} {fault = f} u) (FileFaults.in_part {written = written} behind read stands added judged inner) only =
          absurd (not_unreadable files one_reading sound_or_fault path written f read u)
      one_file (FileFaults.in_part {path = path} {written = written} behind read stands added judged inner) (FileFaults.unreadable {fault = g} v) only =
          absurd (not_unreadable files one_reading sound_or_fault path written g read v)
      one_file {b = b} (FileFaults.in_part {open_ = open_} {path = path} {written = written} {before = before} behind {p = p} {progress = progress} read stands added judged inner)
          (FileFaults.in_part {written = written_too} {before = before_too} behind_too {p = q} {progress = progress_too} read_too stands_too added_too judged_too inner_too) only =
          let s = place inner inner_too written written_too before behind before_too behind_too refl refl read read_too stands stands_too added added_too judged judged_too only in
          one_part inner b
          (subst (λ (x : Part). Cause files open_ path written.rule_set progress x b) s.2
          (subst (λ (x : Progress). Cause files open_ path written.rule_set x q b) s.1
          (subst (λ x. Cause files open_ path x progress_too q b) s.0 (cause files inner_too))))
          (λ is_rule. no_rules_at inner written before behind refl is_rule read stands added only)

    -- ---- the first fault of the files that are named

    one_top_fault : (path : Text) (a b : RuleFault) → IsTopFault files path a → IsTopFault files path b → a ≡ b
    one_top_fault path a b (IsTopFault.file h) (IsTopFault.file k) = one_file h k (λ at list among has. among_one at path among)
    one_top_fault path a b (IsTopFault.file h) (IsTopFault.missing gone not_elsewhere) =
        absurd (true_false (is_there files path) (there_of_fault files one_reading sound_or_fault true (path ∷ []) path a h) gone)
    one_top_fault path a b (IsTopFault.missing gone not_elsewhere) (IsTopFault.file k) =
        absurd (true_false (is_there files path) (there_of_fault files one_reading sound_or_fault true (path ∷ []) path b k) gone)
    one_top_fault path _ _ (IsTopFault.missing gone not_elsewhere) (IsTopFault.missing gone_too not_elsewhere_too) = refl

    pub one_first_fault : (paths : List Text) (a b : RuleFault) → IsFirstFault files paths a → IsFirstFault files paths b → a ≡ b
    one_first_fault paths a b h k = by_fronts (fronts h.before (h.path ∷ h.behind) k.before (k.path ∷ k.behind) (sym h.stands ∙ k.stands))
      where
        by_fronts : Fronts h.before (h.path ∷ h.behind) k.before (k.path ∷ k.behind) → a ≡ b
        by_fronts (Fronts.same e f) =
            let one_path : h.path ≡ k.path = cc in one_top_fault k.path a b (subst (λ x. IsTopFault files x a) one_path h.is_fault) k.is_fault
        by_fronts (Fronts.longer x more e f) =
            let one_path : x ≡ k.path = cc in
            absurd (tops_apart files one_reading sound_or_fault h.fine k.before more k.path b (subst (λ y. h.before ≡ k.before ++ y ∷ more) one_path e) k.is_fault)
        by_fronts (Fronts.shorter x more e f) =
            let one_path : x ≡ h.path = cc in
            absurd (tops_apart files one_reading sound_or_fault k.fine h.before more h.path a (subst (λ y. k.before ≡ h.before ++ y ∷ more) one_path e) h.is_fault)
