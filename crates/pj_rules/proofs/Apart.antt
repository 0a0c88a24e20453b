-- The rules of files and their first fault exclude each other.
use Rattle.std.proofs.Common.{◌≡◌, ◌∙◌, ℕ, suc, ◌≤◌, Bool, true, false, ◌||◌, List, [], ◌∷◌, ◌++◌, length, Some, None, is_some, Result, Ok, Err, refl, sym, ap, ap₂, subst, arith, append_assoc, append-nil}
use Rattle.std.specs.List.{flat_map}
use Rattle.std.specs.Str.{chars}
use Rattle.pj_markup.specs.Depth.{greatest_depth}
use Rattle.pj_markup.specs.declared.element.Row.{Row}
use Rattle.pj_markup.specs.Faults.{CannotFollow, IsMarkup, IsTooDeepAt, StopsAt}
use Rattle.pj_markup.specs.Markup.{Doc}
use Rattle.pj_outside.specs.Files.{Files, bytes_at}
use Rattle.pj_rule_sets.specs.Expressions.{IsSound}
use Rattle.pj_rule_sets.specs.Faults as expressions
use Rattle.pj_rule_sets.specs.Laws.{SoundOrFault}
use Rattle.pj_rule_sets.specs.declared.fault.ExpressionFault.{ExpressionFault}
use Rattle.pj_rule_texts.specs.Files.{AreFault, AreRuleset, IsRead, IsRuleset, IsTextFault, IsUnreadable, greatest_size, is_there}
use Rattle.pj_rule_texts.specs.declared.file_fault.FileFault.{FileFault}
use Rattle.pj_rule_sets.specs.Lists.{Taken, is_among, named}
use Rattle.pj_rule_sets.specs.declared.entry.Entry.{Entry}
use Rattle.pj_rule_sets.specs.declared.entry.Entry.TheVariants as entry
use Rattle.pj_rule_texts.specs.References.{Meant, WholeFile, OneRule, is_from_elsewhere, reference_of}
use Rattle.pj_rule_texts.specs.Rules.{defined, is_xpath_rule, overridden}
use Rattle.pj_rule_texts.specs.Values.{Text, is_same}
use Rattle.pj_rule_texts.specs.Written.{written_ruleset}
use Rattle.pj_rule_texts.specs.declared.rule.RuleTexts.{RuleTexts}
use Rattle.pj_rule_texts.specs.declared.written.Part.{Part}
use Rattle.pj_rule_texts.specs.declared.written.Part.TheVariants as part
use Rattle.pj_rule_texts.specs.declared.written.WrittenRule.{WrittenRule}
use Rattle.pj_rule_texts.specs.declared.written.WrittenRuleset.{WrittenRuleset}
use Rattle.pj_rules.specs.Defining.{IsDefinedAs}
use Rattle.pj_rules.specs.Effective.{AddAll, Adds, AreJudged, CannotChange, CannotDefine, Changes, Defines, FileFaults, HasRules, PartFault, RefersTo, nothing, path_pattern, what_of_expressions}
use Rattle.pj_rules.specs.Load.{AreTops, IsTop, IsTopFault, TopRules}
use Rattle.pj_rules.specs.LookUp.{look_up}
use Rattle.pj_rules.specs.Referring.{ChangesEntry}
use Rattle.pj_rules.specs.declared.fault.RuleFault.{RuleFault}
use Rattle.pj_rules.specs.declared.fault.RuleWhat.{RuleWhat}
use Rattle.pj_rules.specs.declared.progress.Progress.{Progress}
use Rattle.pj_rules.proofs.KnownFiles.{same_texts, there_read}
use Rattle.pj_rules.proofs.OneSet.{true_false}
use Rattle.pj_rules.proofs.OneList.{Gives, View, all_steps, file_of, file_steps, none_some, not_both, one_list, one_ok, one_read, one_some, part_steps, same_rule, same_up_to, view, view_same, view_steps}
use Rattle.pj_xpatterns.specs.Meaning.{Pattern}
use Rattle.pj_xpatterns.specs.Refusing.{AreTaken}

pub ok_err : {A E : Type 0} (r : Result A E) (a : A) (e : E) → r ≡ Ok a → r ≡ Err e → ⊥
ok_err {A} {E} r a e o f = let both : ◌≡◌ {A = Result A E} (Ok a) (Err e) = sym o ∙ f in absurd (cc)

-- ---- files that are read are not unreadable

module _ (text : List ℕ) (rows : List Row) (doc : Doc greatest_depth text rows) where
  stops_nowhere : (front behind : List ℕ) → text ≡ front ++ behind → CannotFollow front behind → ⊥
  stops_nowhere front [] split cannot = cannot rows (greatest_depth, subst (λ t. Doc greatest_depth t rows) (split ∙ append-nil front) doc)
  stops_nowhere front (c ∷ cs) split cannot =
      cannot greatest_depth (cs, rows, subst (λ t. Doc greatest_depth t rows) (split ∙ sym (append_assoc front (c ∷ []) cs)) doc)

  pub not_stopped : (offset : ℕ) → StopsAt greatest_depth text offset → ⊥
  not_stopped offset h = stops_nowhere h.front h.behind h.split h.cannot

  pub not_deep : (offset : ℕ) → IsTooDeepAt greatest_depth text offset → ⊥
  not_deep offset h =
      h.not_so_deep (h.behind, rows, subst (λ t. Doc greatest_depth t rows) (h.split ∙ sym (append_assoc h.front (60 ∷ h.first ∷ []) h.behind)) doc)

-- ---- patterns that are taken

taken_left : (xs ys : List Pattern) → AreTaken (xs ++ ys) → AreTaken xs
taken_left [] ys h = tt
taken_left (x ∷ xs) ys h = (h.0, taken_left xs ys h.1)

taken_right : (xs ys : List Pattern) → AreTaken (xs ++ ys) → AreTaken ys
taken_right [] ys h = h
taken_right (x ∷ xs) ys h = taken_right xs ys h.1

pub judged_at : (before behind : List Part) (p : Part) → AreTaken (flat_map path_pattern (before ++ p ∷ behind)) → AreTaken (path_pattern p)
judged_at [] behind p h = taken_left (path_pattern p) (flat_map path_pattern behind) h
judged_at (b ∷ before) behind p h = judged_at before behind p (taken_right (path_pattern b) (flat_map path_pattern (before ++ p ∷ behind)) h)

-- ---- paths that are among others

pub among_one : (path other : Text) → is_among path (other ∷ []) ≡ true → path ≡ other
among_one path other h = at (is_same path other) refl h
  where
    at : (b : Bool) → is_same path other ≡ b → (b || false) ≡ true → path ≡ other
    at true e h = same_texts path other e
    at false e h = absurd (cc)

pub among_more : (open_ : List Text) (path other : Text) (A : Type 0) → is_among path (open_ ++ other ∷ []) ≡ true → (is_among path open_ ≡ true → A) → (path ≡ other → A) → A
among_more [] path other A h f g = g (among_one path other h)
among_more (o ∷ open_) path other A h f g = at (λ k e. among_more open_ path other A k e g) (is_same path o) refl h f
  where
    at : (is_among path (open_ ++ other ∷ []) ≡ true → (is_among path open_ ≡ true → A) → A) → (b : Bool) → is_same path o ≡ b →
        (b || is_among path (open_ ++ other ∷ [])) ≡ true → ((b || is_among path open_) ≡ true → A) → A
    at rest true e h f = f refl
    at rest false e h f = rest h f

-- ---- what a reference means

pub meant_file : (files : Files) (reference file : Text) → RefersTo files reference file → (to : Meant) → reference_of reference ≡ Some to → file_of to ≡ file
meant_file files reference file (RefersTo.whole_file is) to means = ap file_of (one_some (reference_of reference) to (WholeFile file) means is)
meant_file files reference file (RefersTo.one_rule {name = name} is) to means = ap file_of (one_some (reference_of reference) to (OneRule file name) means is)

module _ (files : Files) (one_reading : (text : List ℕ) (rows others : List Row) → IsMarkup text rows → IsMarkup text others → rows ≡ others)
    (sound_or_fault : SoundOrFault) where
  -- a rule that can be used has no fault of which something is to be said
  sound_apart : (texts : RuleTexts) (fault : ExpressionFault) (name : Text) (w : RuleWhat) → IsSound texts → expressions.IsFault texts fault → what_of_expressions name fault ≡ Some w → ⊥
  sound_apart texts fault name w sound is_fault = none_some (what_of_expressions name fault) w (ap (what_of_expressions name) (sound_or_fault texts fault sound is_fault))

  no_text_fault : (text : List ℕ) (written : WrittenRuleset) (fault : FileFault) → IsRuleset text written → IsTextFault text fault → ⊥
  no_text_fault text written fault h (IsTextFault.no_markup {offset = offset} stops) = not_stopped text h.rows h.is_markup offset stops
  no_text_fault text written fault h (IsTextFault.too_deep {offset = offset} deep) = not_deep text h.rows h.is_markup offset deep.1
  no_text_fault text written fault h (IsTextFault.other_root {rows = rows} doc none) =
      let same : rows ≡ h.rows = one_reading text rows h.rows (greatest_depth, doc) (greatest_depth, h.is_markup) in
      none_some (written_ruleset h.rows) written (subst (λ (r : List Row). written_ruleset r ≡ None) same none) h.is_ruleset

  no_fault : (bytes : List ℕ) (written : WrittenRuleset) (fault : FileFault) → AreRuleset bytes written → AreFault bytes fault → ⊥
  no_fault bytes written fault h (AreFault.not_utf8 not_text) = not_text h.utf8
  no_fault bytes written fault h (AreFault.of_text utf8 f) = no_text_fault (chars bytes) written fault h.text f

  pub not_unreadable : (path : Text) (written : WrittenRuleset) (fault : FileFault) → IsRead files path written → IsUnreadable files path fault → ⊥
  not_unreadable path written fault h (IsUnreadable.too_long {bytes = bytes} held longer) =
      let fits : length bytes ≤ greatest_size = subst (λ (b : List ℕ). length b ≤ greatest_size) (one_some (bytes_at files path) h.bytes bytes h.held held) h.fits in
      absurd (omega (arith, fits, longer))
  not_unreadable path written fault h (IsUnreadable.of_bytes {bytes = bytes} held fits f) =
      no_fault bytes written fault (subst (λ (b : List ℕ). AreRuleset b written) (one_some (bytes_at files path) h.bytes bytes h.held held) h.content) f

  -- ---- one part

  cannot_define : (rule_set name : Text) (rule : WrittenRule) (kept : Entry) (w : RuleWhat) → IsDefinedAs rule_set name rule kept → is_xpath_rule rule ≡ true → CannotDefine rule_set name rule w → ⊥
  cannot_define rule_set name rule kept w (IsDefinedAs.another_rule is_not) is h = true_false (is_xpath_rule rule) is is_not
  cannot_define rule_set name rule kept w (IsDefinedAs.an_xpath_rule {texts = texts} is_too (Defines.defines makes sound)) is (CannotDefine.bad_texts {fault = fault} refuses bad) =
      ok_err (defined rule_set name rule) texts fault makes refuses
  cannot_define rule_set name rule kept w (IsDefinedAs.an_xpath_rule {texts = texts} is_too (Defines.defines makes sound)) is (CannotDefine.bad_expressions {new = new} fault makes_too is_fault bad) =
      sound_apart new fault new.row.name w (subst IsSound (one_ok (defined rule_set name rule) texts new makes makes_too) sound) is_fault bad

  cannot_change : (rule : WrittenRule) (old new : RuleTexts) (w : RuleWhat) → Changes rule old new → CannotChange rule old w → ⊥
  cannot_change rule old new w (Changes.changed makes sound) (CannotChange.bad_texts {fault = fault} refuses bad) = ok_err (overridden old rule) new fault makes refuses
  cannot_change rule old new w (Changes.changed makes sound) (CannotChange.bad_expressions {new = other} fault makes_too is_fault bad) =
      sound_apart other fault other.row.name w (subst IsSound (one_ok (overridden old rule) new other makes makes_too) sound) is_fault bad

  cannot_keep : (rule : WrittenRule) (old : RuleTexts) (kept : Entry) (w : RuleWhat) → ChangesEntry rule (entry.Rule old) kept → CannotChange rule old w → ⊥
  cannot_keep rule old (entry.Rule new) w h bad = cannot_change rule old new w h bad
  cannot_keep rule old (entry.Unusable new) w h bad = absurd h

  -- the part is a definition, or a reference
  record Definition (rule_set : Text) (old : Progress) (rule : WrittenRule) : Type 0 where
    name : Text
    kept : Entry
    is_named : rule.name ≡ Some name
    fresh : is_among name old.names ≡ false
    is_kept : IsDefinedAs rule_set name rule kept

  data Reference (path : Text) (old : Progress) (rule : WrittenRule) (reference : Text) (new : Progress) (steps : ℕ) : Type 0 where
    leads : (other : Text) (to : Meant) (list : List Taken) → reference_of reference ≡ Some to → look_up files path (file_of to) ≡ Some other → (has : HasRules files other list) →
        steps ≡ suc (file_steps files has) → Gives rule old to list new → Reference path old rule reference new steps
    leads_nowhere : (to : Meant) → reference_of reference ≡ Some to → look_up files path (file_of to) ≡ None → is_from_elsewhere (file_of to) ≡ true → Reference path old rule reference new steps

  module _ (path rule_set : Text) (old : Progress) (q : Part) (new : Progress) (rule : WrittenRule) (is_rule : q ≡ part.Rule rule) where
    definition : rule.reference ≡ None → View files path rule_set old q new → Definition rule_set old rule
    definition none (View.passes is same) = absurd (not_both q rule is is_rule)
    definition none (View.defines other name kept e none_too is_named fresh is_kept adds) =
        let r : other ≡ rule = same_rule q q other rule refl e is_rule in
        record {
          name = name;
          kept = kept;
          is_named = subst (λ (x : WrittenRule). x.name ≡ Some name) r is_named;
          fresh = fresh;
          is_kept = subst (λ (x : WrittenRule). IsDefinedAs rule_set name x kept) r is_kept;
        }
    definition none (View.takes other reference file to list e refers means found has gives) =
        absurd (none_some rule.reference reference none (subst (λ (x : WrittenRule). x.reference ≡ Some reference) (same_rule q q other rule refl e is_rule) refers))
    definition none (View.gone other reference to e refers means found elsewhere adds) =
        absurd (none_some rule.reference reference none (subst (λ (x : WrittenRule). x.reference ≡ Some reference) (same_rule q q other rule refl e is_rule) refers))

    refers_by : (reference : Text) → rule.reference ≡ Some reference → (v : View files path rule_set old q new) → Reference path old rule reference new (view_steps files v)
    refers_by reference is (View.passes is_pattern same) = absurd (not_both q rule is_pattern is_rule)
    refers_by reference is (View.defines other name kept e none is_named fresh is_kept adds) =
        absurd (none_some rule.reference reference (subst (λ (x : WrittenRule). x.reference ≡ None) (same_rule q q other rule refl e is_rule) none) is)
    refers_by reference is (View.takes other reference_too file to list e refers means found has gives) =
        let r : other ≡ rule = same_rule q q other rule refl e is_rule in
        let t : reference_too ≡ reference = one_some rule.reference reference_too reference (subst (λ (x : WrittenRule). x.reference ≡ Some reference_too) r refers) is in
        Reference.leads file to list (subst (λ x. reference_of x ≡ Some to) t means) found has refl (subst (λ (x : WrittenRule). Gives x old to list new) r gives)
    refers_by reference is (View.gone other reference_too to e refers means found elsewhere adds) =
        let r : other ≡ rule = same_rule q q other rule refl e is_rule in
        let t : reference_too ≡ reference = one_some rule.reference reference_too reference (subst (λ (x : WrittenRule). x.reference ≡ Some reference_too) r refers) is in
        Reference.leads_nowhere to (subst (λ x. reference_of x ≡ Some to) t means) found elsewhere

  -- each file that is open takes more steps than this
  abbrev pub Deep : List Text → ℕ → Type 0
  Deep open_ n = (path : Text) (list : List Taken) (h : HasRules files path list) → is_among path open_ ≡ true → n ≤ file_steps files h

  module _ (open_ : List Text) (path rule_set : Text) (old : Progress) (rule : WrittenRule) (reference : Text) (new : Progress) (steps : ℕ) where
    no_form : reference_of reference ≡ None → Reference path old rule reference new steps → ⊥
    no_form none (Reference.leads other to list means found has is gives) = none_some (reference_of reference) to none means
    no_form none (Reference.leads_nowhere to means found elsewhere) = none_some (reference_of reference) to none means

    not_missing : (file : Text) → RefersTo files reference file → look_up files path file ≡ None → is_from_elsewhere file ≡ false → Reference path old rule reference new steps → ⊥
    not_missing file refers none not_elsewhere (Reference.leads other to list means found has is gives) =
        none_some (look_up files path file) other none (subst (λ x. look_up files path x ≡ Some other) (meant_file files reference file refers to means) found)
    not_missing file refers none not_elsewhere (Reference.leads_nowhere to means found elsewhere) =
        true_false (is_from_elsewhere file) (subst (λ x. is_from_elsewhere x ≡ true) (meant_file files reference file refers to means) elsewhere) not_elsewhere

    no_cycle : (file other : Text) → RefersTo files reference file → look_up files path file ≡ Some other → is_among other open_ ≡ true → Deep open_ (suc steps) →
        Reference path old rule reference new steps → ⊥
    no_cycle file other refers found among deep (Reference.leads leads_to to list means found_too has is gives) =
        let same : other ≡ leads_to = one_some (look_up files path file) other leads_to found
        (subst (λ x. look_up files path x ≡ Some leads_to) (meant_file files reference file refers to means) found_too) in
        let enough = deep leads_to list has (subst (λ x. is_among x open_ ≡ true) same among) in
        absurd (omega (arith, enough, is))
    no_cycle file other refers found among deep (Reference.leads_nowhere to means none elsewhere) =
        none_some (look_up files path file) other (subst (λ x. look_up files path x ≡ None) (meant_file files reference file refers to means) none) found

    no_fault_within : (file other : Text) → RefersTo files reference file → look_up files path file ≡ Some other → Deep open_ (suc steps) →
        ((path_too : Text) (written : WrittenRuleset) (progress : Progress) → path_too ≡ other → IsRead files path_too written →
        (adds : AddAll files path_too written.rule_set nothing written.parts progress) → Deep (open_ ++ other ∷ []) (suc (all_steps files adds)) → ⊥) →
        Reference path old rule reference new steps → ⊥
    no_fault_within file other refers found deep inner (Reference.leads leads_to to list means found_too (HasRules.file {written = written} {progress = progress} read adds) is gives) =
        let same : leads_to ≡ other = one_some (look_up files path file) leads_to other
        (subst (λ x. look_up files path x ≡ Some leads_to) (meant_file files reference file refers to means) found_too) found in
        inner leads_to written progress same read adds (λ p l h among. among_more open_ p other (suc (all_steps files adds) ≤ file_steps files h) among
        (λ before. let enough = deep p l h before in omega (arith, enough, is))
        (λ last. let both = one_list files one_reading p leads_to l progress.list h (HasRules.file read adds) (last ∙ sym same) in let steps_too = both.1 in omega (arith, steps_too)))
    no_fault_within file other refers found deep inner (Reference.leads_nowhere to means none elsewhere) =
        none_some (look_up files path file) other (subst (λ x. look_up files path x ≡ None) (meant_file files reference file refers to means) none) found

    module _ (file name other : Text) (list : List Taken) (means : reference_of reference ≡ Some (OneRule file name)) (found : look_up files path file ≡ Some other) (has : HasRules files other list) where
      none_given : ((t : Taken) (kept : Entry) → named name list ≡ Some t → ChangesEntry rule t.1 kept → ⊥) → Reference path old rule reference new steps → ⊥
      none_given refuses (Reference.leads leads_to to list_too means_too found_too has_too is gives) =
          let t : to ≡ OneRule file name = one_some (reference_of reference) to (OneRule file name) means_too means in
          let same : leads_to ≡ other = one_some (look_up files path file) leads_to other (subst (λ (x : Meant). look_up files path (file_of x) ≡ Some leads_to) t found_too) found in
          let lists : list_too ≡ list = (one_list files one_reading leads_to other list_too list has_too has same).0 in
          let given : Gives rule old (OneRule file name) list new = subst (λ l. Gives rule old (OneRule file name) l new) lists (subst (λ (x : Meant). Gives rule old x list_too new) t gives) in
          refuses given.0 given.1 given.2 given.3
      none_given refuses (Reference.leads_nowhere to means_too none elsewhere) =
          let t : to ≡ OneRule file name = one_some (reference_of reference) to (OneRule file name) means_too means in
          none_some (look_up files path file) other (subst (λ (x : Meant). look_up files path (file_of x) ≡ None) t none) found

  -- ---- the parts up to one of them

  pub record Reached (path rule_set : Text) (old : Progress) (before : List Part) (p : Part) (steps : ℕ) : Type 0 where
    pub front : List Part
    pub is_front : front ≡ before
    pub middle : Progress
    pub taken : AddAll files path rule_set old front middle
    pub next : Progress
    pub here : Part
    pub is_here : here ≡ p
    pub step : Adds files path rule_set middle here next
    pub few : part_steps files step ≤ steps

  pub reach : {path rule_set : Text} {old : Progress} {parts : List Part} {new : Progress} (h : AddAll files path rule_set old parts new) (before behind : List Part) (p : Part) →
      parts ≡ before ++ p ∷ behind → Reached path rule_set old before p (all_steps files h)
  reach AddAll.none [] behind p e = absurd (cc)
  reach AddAll.none (b ∷ before) behind p e = absurd (cc)
  reach (AddAll.more {before = old} {next = next} {p = q} first rest) [] behind p e =
      let one : q ≡ p = cc in
      record { front = []; is_front = refl; middle = old; taken = AddAll.none; next = next; here = q; is_here = one; step = first; few = omega arith }
  reach (AddAll.more {p = q} {parts = parts} first rest) (b ∷ before) behind p e =
      let one : q ≡ b = cc in
      let others : parts ≡ before ++ p ∷ behind = cc in
      let r = reach rest before behind p others in
      let few = r.few in
      record {
        front = q ∷ r.front;
        is_front = ap₂ (λ (x : Part) (xs : List Part). x ∷ xs) one r.is_front;
        middle = r.middle;
        taken = AddAll.more first r.taken;
        next = r.next;
        here = r.here;
        is_here = r.is_here;
        step = r.step;
        few = omega (arith, few);
      }

  -- ---- a file that has rules has no fault

  mutual
    pub apart_part : {is_top : Bool} {open_ : List Text} {path rule_set : Text} {progress : Progress} {p : Part} {fault : RuleFault} → PartFault files is_top open_ path rule_set progress p fault →
        (path_too rule_set_too : Text) (old : Progress) (q : Part) (new : Progress) → path_too ≡ path → rule_set_too ≡ rule_set → old ≡ progress → q ≡ p →
        (step : Adds files path_too rule_set_too old q new) → (is_top ≡ true → AreTaken (path_pattern p)) → Deep open_ (suc (view_steps files (view files step))) → ⊥
    apart_part (PartFault.exclude_pattern is none) path_too rule_set_too old q new pe se oe e step judged deep = (judged is).0 none
    apart_part (PartFault.include_pattern is none) path_too rule_set_too old q new pe se oe e step judged deep = (judged is).0 none
    apart_part (PartFault.no_name {rule = rule} defined nameless) path_too rule_set_too old q new pe se oe e step judged deep =
        let d = definition path_too rule_set_too old q new rule e defined (view files step) in none_some rule.name d.name nameless d.is_named
    apart_part (PartFault.same_name {progress = progress} {rule = rule} {name = name} defined is_named among) path_too rule_set_too old q new pe se oe e step judged deep =
        let d = definition path_too rule_set_too old q new rule e defined (view files step) in
        let n : d.name ≡ name = one_some rule.name d.name name d.is_named is_named in
        true_false (is_among name progress.names) among
        (subst (λ (o : Progress). is_among name o.names ≡ false) oe (subst (λ x. is_among x old.names ≡ false) n d.fresh))
    apart_part (PartFault.definition {rule_set = rule_set} {rule = rule} {name = name} {w = w} defined is_named fresh is cannot) path_too rule_set_too old q new pe se oe e step judged deep =
        let d = definition path_too rule_set_too old q new rule e defined (view files step) in
        let n : d.name ≡ name = one_some rule.name d.name name d.is_named is_named in
        cannot_define rule_set name rule d.kept w
        (subst (λ x. IsDefinedAs x name rule d.kept) se (subst (λ x. IsDefinedAs rule_set_too x rule d.kept) n d.is_kept)) is cannot
    apart_part (PartFault.neither_form {rule = rule} {reference = reference} refers none) path_too rule_set_too old q new pe se oe e step judged deep =
        no_form [] path_too rule_set_too old rule reference new (view_steps files (view files step)) none (refers_by path_too rule_set_too old q new rule e reference refers (view files step))
    apart_part (PartFault.missing_file {rule = rule} {reference = reference} {file = file} refers means none not_elsewhere) path_too rule_set_too old q new pe se oe e step judged deep =
        not_missing [] path_too rule_set_too old rule reference new (view_steps files (view files step)) file means (subst (λ x. look_up files x file ≡ None) (sym pe) none) not_elsewhere
        (refers_by path_too rule_set_too old q new rule e reference refers (view files step))
    apart_part (PartFault.cycle {open_ = open_} {rule = rule} {reference = reference} {file = file} {other = other} refers means found among) path_too rule_set_too old q new pe se oe e step judged deep =
        no_cycle open_ path_too rule_set_too old rule reference new (view_steps files (view files step)) file other means (subst (λ x. look_up files x file ≡ Some other) (sym pe) found) among deep
        (refers_by path_too rule_set_too old q new rule e reference refers (view files step))
    apart_part (PartFault.within {open_ = open_} {rule = rule} {reference = reference} {file = file} {other = other} refers means found fresh inner) path_too rule_set_too old q new pe se oe e step judged deep =
        no_fault_within open_ path_too rule_set_too old rule reference new (view_steps files (view files step)) file other means (subst (λ x. look_up files x file ≡ Some other) (sym pe) found) deep
        (λ at written progress same read adds far. apart_file inner at written progress same read adds tt far)
        (refers_by path_too rule_set_too old q new rule e reference refers (view files step))
    apart_part (PartFault.missing_rule {rule = rule} {reference = reference} {file = file} {name = name} {other = other} {list = list} refers means found has none) path_too rule_set_too old q new pe se oe e step judged deep =
        none_given [] path_too rule_set_too old rule reference new (view_steps files (view files step)) file name other list means (subst (λ x. look_up files x file ≡ Some other) (sym pe) found) has
        (λ t kept in_list changes. none_some (named name list) t none in_list)
        (refers_by path_too rule_set_too old q new rule e reference refers (view files step))
    apart_part (PartFault.override {rule = rule} {reference = reference} {file = file} {name = name} {other = other} {list = list} {origin = origin} {old = before} {w = w} refers means found has in_list_too cannot)
        path_too rule_set_too old q new pe se oe e step judged deep =
        none_given [] path_too rule_set_too old rule reference new (view_steps files (view files step)) file name other list means (subst (λ x. look_up files x file ≡ Some other) (sym pe) found) has
        (λ t kept in_list changes. cannot_keep rule before kept w
        (subst (λ (x : Taken). ChangesEntry rule x.1 kept) (one_some (named name list) t (origin, entry.Rule before) in_list in_list_too) changes) cannot)
        (refers_by path_too rule_set_too old q new rule e reference refers (view files step))

    pub apart_file : {is_top : Bool} {open_ : List Text} {path : Text} {fault : RuleFault} → FileFaults files is_top open_ path fault →
        (path_too : Text) (written : WrittenRuleset) (new : Progress) → path_too ≡ path → (read : IsRead files path_too written) →
        (adds : AddAll files path_too written.rule_set nothing written.parts new) → AreJudged is_top written.parts → Deep open_ (suc (all_steps files adds)) → ⊥
    apart_file (FileFaults.unreadable {path = path} {fault = fault} unreadable) path_too written new e read adds judged deep =
        not_unreadable path written fault (subst (λ x. IsRead files x written) e read) unreadable
    apart_file (FileFaults.in_part {is_top = is_top} {open_ = open_} {path = path} {written = written_too} {before = before} behind {p = p} {progress = progress} read_too stands added judged_too inner)
        path_too written new e read adds judged deep =
        let w : written ≡ written_too = one_read files one_reading path_too path written written_too e read read_too in
        let split : written.parts ≡ before ++ p ∷ behind = ap (λ (x : WrittenRuleset). x.parts) w ∙ stands in
        let r = reach adds before behind p split in
        let m = same_up_to files one_reading r.taken added e (ap (λ (x : WrittenRuleset). x.rule_set) w) refl r.is_front in
        apart_part inner path_too written.rule_set r.middle r.here r.next e (ap (λ (x : WrittenRuleset). x.rule_set) w) m.0 r.is_here r.step
        (λ top. judged_at before behind p (subst (λ (ps : List Part). AreTaken (flat_map path_pattern ps)) split (subst (λ b. AreJudged b written.parts) top judged)))
        (λ at list h among. let enough = deep at list h among in let few = r.few in let steps = view_same files r.step in omega (arith, enough, few, steps))

  -- ---- top rulesets

  pub there_of_fault : (is_top : Bool) (open_ : List Text) (path : Text) (fault : RuleFault) → FileFaults files is_top open_ path fault → is_there files path ≡ true
  there_of_fault is_top open_ path fault (FileFaults.unreadable (IsUnreadable.too_long held longer)) = ap is_some held
  there_of_fault is_top open_ path fault (FileFaults.unreadable (IsUnreadable.of_bytes held fits h)) = ap is_some held
  there_of_fault is_top open_ path fault (FileFaults.in_part {written = written} behind read stands added judged h) = there_read files path written read

  pub top_apart : (path : Text) (top : TopRules) (fault : RuleFault) → IsTop files path top → IsTopFault files path fault → ⊥
  top_apart path top fault (IsTop.file {written = written} {progress = progress} read adds judged) (IsTopFault.file f) =
      apart_file f path written progress refl read adds judged
      (λ at list h among. let both = one_list files one_reading at path list progress.list h (HasRules.file read adds) (among_one at path among) in let steps = both.1 in omega (arith, steps))
  top_apart path top fault (IsTop.file {written = written} read adds judged) (IsTopFault.missing gone not_elsewhere) = true_false (is_there files path) (there_read files path written read) gone
  top_apart path top fault (IsTop.elsewhere gone elsewhere) (IsTopFault.file f) = true_false (is_there files path) (there_of_fault true (path ∷ []) path fault f) gone
  top_apart path top fault (IsTop.elsewhere gone elsewhere) (IsTopFault.missing gone_too not_elsewhere) = true_false (is_from_elsewhere path) elsewhere not_elsewhere

  pub tops_apart : {paths : List Text} {tops : List TopRules} → AreTops files paths tops → (before behind : List Text) (path : Text) (fault : RuleFault) → paths ≡ before ++ path ∷ behind →
      IsTopFault files path fault → ⊥
  tops_apart AreTops.none [] behind path fault e f = absurd (cc)
  tops_apart AreTops.none (b ∷ before) behind path fault e f = absurd (cc)
  tops_apart (AreTops.more {path = at} {top = top} is_top rest) [] behind path fault e f =
      let one : at ≡ path = cc in top_apart path top fault (subst (λ x. IsTop files x top) one is_top) f
  tops_apart (AreTops.more {paths = paths} is_top rest) (b ∷ before) behind path fault e f =
      let others : paths ≡ before ++ path ∷ behind = cc in tops_apart rest before behind path fault others f
