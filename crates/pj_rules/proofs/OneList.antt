-- A file has one list at most, which is read in as many steps however it is found.
use Rattle.std.proofs.Common.{◌≡◌, ◌∙◌, ℕ, zero, suc, ◌+◌, ◌<◌, ◌≤◌, Bool, true, false, List, Option, Some, None, Result, Ok, refl, sym, ap, ap₂, subst, arith}
use Rattle.std.specs.Str.{chars}
use Rattle.pj_markup.specs.Depth.{greatest_depth}
use Rattle.pj_markup.specs.declared.element.Row.{Row}
use Rattle.pj_markup.specs.Faults.{IsMarkup}
use Rattle.pj_outside.specs.Files.{Files, bytes_at}
use Rattle.pj_rule_texts.specs.Files.{IsRead, IsRuleset}
use Rattle.pj_rule_sets.specs.Lists.{Taken, defined_in, is_among, named, not_available, referred_in, without}
use Rattle.pj_rule_sets.specs.declared.entry.Entry.{Entry}
use Rattle.pj_rule_sets.specs.declared.entry.Entry.TheVariants as entry
use Rattle.pj_rule_texts.specs.References.{Meant, WholeFile, OneRule, is_from_elsewhere, reference_of}
use Rattle.pj_rule_texts.specs.Rules.{defined, overridden}
use Rattle.pj_rule_texts.specs.Values.{Text}
use Rattle.pj_rule_texts.specs.Written.{written_ruleset}
use Rattle.pj_rule_texts.specs.declared.rule.RuleTexts.{RuleTexts}
use Rattle.pj_rule_texts.specs.declared.written.Part.{Part}
use Rattle.pj_rule_texts.specs.declared.written.Part.TheVariants as part
use Rattle.pj_rule_texts.specs.declared.written.WrittenRule.{WrittenRule}
use Rattle.pj_rule_texts.specs.declared.written.WrittenRuleset.{WrittenRuleset}
use Rattle.pj_rules.specs.Defining.{IsDefinedAs}
use Rattle.pj_rules.specs.Effective.{AddAll, Adds, Changes, Defines, HasRules, or_name, with_list, with_rule, with_taken}
use Rattle.pj_rules.specs.LookUp.{look_up}
use Rattle.pj_rules.specs.Referring.{ChangesEntry}
use Rattle.pj_rules.specs.declared.progress.Progress.{Progress}

-- ---- a part, by what decides it

abbrev pub file_of : Meant → Text
file_of (WholeFile file) = file
file_of (OneRule file name) = file

abbrev pub named_by : WrittenRule → Meant → Option Text
named_by rule (WholeFile file) = None
named_by rule (OneRule file name) = or_name rule name

abbrev pub Gives : WrittenRule → Progress → Meant → List Taken → Progress → Type 0
Gives rule old (WholeFile file) list new = new ≡ with_list old (without rule.excludes list)
Gives rule old (OneRule file name) list new = (taken : Taken) × (kept : Entry) × (named name list ≡ Some taken) × ChangesEntry rule taken.1 kept × (new ≡ with_taken old (taken.0, kept))

abbrev pub is_pattern : Part → Bool
is_pattern (part.Rule rule) = false
is_pattern (part.ExcludePattern pattern) = true
is_pattern (part.IncludePattern pattern) = true

pub not_both : (p : Part) (rule : WrittenRule) → is_pattern p ≡ true → p ≡ part.Rule rule → ⊥
not_both p rule is e = let no : false ≡ true = sym (ap is_pattern e) ∙ is in absurd (cc)

pub same_rule : (p q : Part) (rule other : WrittenRule) → p ≡ q → p ≡ part.Rule rule → q ≡ part.Rule other → rule ≡ other
same_rule p q rule other e is is_other = let both : part.Rule rule ≡ part.Rule other = sym is ∙ e ∙ is_other in cc

pub one_some : {A : Type 0} (o : Option A) (a b : A) → o ≡ Some a → o ≡ Some b → a ≡ b
one_some o a b e f = let both : Some a ≡ Some b = sym e ∙ f in cc

pub none_some : {A : Type 0} (o : Option A) (a : A) → o ≡ None → o ≡ Some a → ⊥
none_some {A} o a e f = let both : ◌≡◌ {A = Option A} None (Some a) = sym e ∙ f in absurd (cc)

pub one_ok : {A E : Type 0} (r : Result A E) (a b : A) → r ≡ Ok a → r ≡ Ok b → a ≡ b
one_ok {A} {E} r a b e f = let both : ◌≡◌ {A = Result A E} (Ok a) (Ok b) = sym e ∙ f in cc

module _ (files : Files) where
  pub data View (path rule_set : Text) (old : Progress) (p : Part) (new : Progress) : Type 0 where
    passes : is_pattern p ≡ true → new ≡ old → View path rule_set old p new
    defines : (rule : WrittenRule) (name : Text) (kept : Entry) → p ≡ part.Rule rule → rule.reference ≡ None → rule.name ≡ Some name → is_among name old.names ≡ false →
        IsDefinedAs rule_set name rule kept → new ≡ with_rule old name (defined_in path name, kept) → View path rule_set old p new
    takes : (rule : WrittenRule) (reference other : Text) (to : Meant) (list : List Taken) → p ≡ part.Rule rule → rule.reference ≡ Some reference → reference_of reference ≡ Some to →
        look_up files path (file_of to) ≡ Some other → HasRules files other list → Gives rule old to list new → View path rule_set old p new
    gone : (rule : WrittenRule) (reference : Text) (to : Meant) → p ≡ part.Rule rule → rule.reference ≡ Some reference → reference_of reference ≡ Some to →
        look_up files path (file_of to) ≡ None → is_from_elsewhere (file_of to) ≡ true →
        new ≡ with_taken old (referred_in path reference, not_available (named_by rule to) reference) → View path rule_set old p new

  abbrev pub view : {path rule_set : Text} {old : Progress} {p : Part} {new : Progress} → Adds files path rule_set old p new → View path rule_set old p new
  view Adds.exclude_pattern = View.passes refl refl
  view Adds.include_pattern = View.passes refl refl
  view (Adds.definition {rule = rule} {name = name} {texts = texts} none is_named fresh is made) =
      View.defines rule name (entry.Rule texts) refl none is_named fresh (IsDefinedAs.an_xpath_rule is made) refl
  view (Adds.unusable {rule = rule} {name = name} none is_named fresh is_not) =
      View.defines rule name _ refl none is_named fresh (IsDefinedAs.another_rule is_not) refl
  view (Adds.whole_file {rule = rule} {reference = reference} {file = file} {other = other} {list = list} refers means found has) =
      View.takes rule reference other (WholeFile file) list refl refers means found has refl
  view (Adds.one_rule {rule = rule} {reference = reference} {file = file} {name = name} {other = other} {list = list} {origin = origin} {old = old} {new = new} refers means found has in_list changes) =
      View.takes rule reference other (OneRule file name) list refl refers means found has ((origin, entry.Rule old), entry.Rule new, in_list, changes, refl)
  view (Adds.one_unusable {rule = rule} {reference = reference} {file = file} {name = name} {other = other} {list = list} {origin = origin} {unusable = unusable} refers means found has in_list) =
      View.takes rule reference other (OneRule file name) list refl refers means found has ((origin, entry.Unusable unusable), entry.Unusable unusable, in_list, refl, refl)
  view (Adds.whole_file_elsewhere {rule = rule} {reference = reference} {file = file} refers means found elsewhere) =
      View.gone rule reference (WholeFile file) refl refers means found elsewhere refl
  view (Adds.one_rule_elsewhere {rule = rule} {reference = reference} {file = file} {name = name} refers means found elsewhere) =
      View.gone rule reference (OneRule file name) refl refers means found elsewhere refl

  -- ---- how many steps a file is read in: those of the files to which it leads, and one for each reference to one

  abbrev mutual
    pub part_steps : {path rule_set : Text} {old : Progress} {p : Part} {new : Progress} → Adds files path rule_set old p new → ℕ
    part_steps Adds.exclude_pattern = 0
    part_steps Adds.include_pattern = 0
    part_steps (Adds.definition none is_named fresh is made) = 0
    part_steps (Adds.unusable none is_named fresh is_not) = 0
    part_steps (Adds.whole_file refers means found has) = suc (file_steps has)
    part_steps (Adds.one_rule refers means found has in_list changes) = suc (file_steps has)
    part_steps (Adds.one_unusable refers means found has in_list) = suc (file_steps has)
    part_steps (Adds.whole_file_elsewhere refers means found elsewhere) = 0
    part_steps (Adds.one_rule_elsewhere refers means found elsewhere) = 0

    pub all_steps : {path rule_set : Text} {old : Progress} {parts : List Part} {new : Progress} → AddAll files path rule_set old parts new → ℕ
    all_steps AddAll.none = 0
    all_steps (AddAll.more first rest) = part_steps first + all_steps rest

    pub file_steps : {path : Text} {list : List Taken} → HasRules files path list → ℕ
    file_steps (HasRules.file read adds) = suc (all_steps adds)

  abbrev pub view_steps : {path rule_set : Text} {old : Progress} {p : Part} {new : Progress} → View path rule_set old p new → ℕ
  view_steps (View.passes is same) = 0
  view_steps (View.defines rule name kept e none is_named fresh is adds) = 0
  view_steps (View.takes rule reference other to list e refers means found has gives) = suc (file_steps has)
  view_steps (View.gone rule reference to e refers means found elsewhere adds) = 0

  pub view_same : {path rule_set : Text} {old : Progress} {p : Part} {new : Progress} (adds : Adds files path rule_set old p new) → view_steps (view adds) ≡ part_steps adds
  view_same Adds.exclude_pattern = refl
  view_same Adds.include_pattern = refl
  view_same (Adds.definition none is_named fresh is made) = refl
  view_same (Adds.unusable none is_named fresh is_not) = refl
  view_same (Adds.whole_file refers means found has) = refl
  view_same (Adds.one_rule refers means found has in_list changes) = refl
  view_same (Adds.one_unusable refers means found has in_list) = refl
  view_same (Adds.whole_file_elsewhere refers means found elsewhere) = refl
  view_same (Adds.one_rule_elsewhere refers means found elsewhere) = refl

-- ---- one outcome of a part

same_defines : (rule_set name : Text) (rule : WrittenRule) (a b : RuleTexts) → Defines rule_set name rule a → Defines rule_set name rule b → a ≡ b
same_defines rule_set name rule a b (Defines.defines is sound) (Defines.defines is_too sound_too) = one_ok (defined rule_set name rule) a b is is_too

same_changes : (rule : WrittenRule) (old a b : RuleTexts) → Changes rule old a → Changes rule old b → a ≡ b
same_changes rule old a b (Changes.changed is sound) (Changes.changed is_too sound_too) = one_ok (overridden old rule) a b is is_too

same_entry : (rule_set name : Text) (rule : WrittenRule) (a b : Entry) → IsDefinedAs rule_set name rule a → IsDefinedAs rule_set name rule b → a ≡ b
same_entry rule_set name rule a b (IsDefinedAs.an_xpath_rule {texts = texts} is made) (IsDefinedAs.an_xpath_rule {texts = other} is_too made_too) =
    ap entry.Rule (same_defines rule_set name rule texts other made made_too)
same_entry rule_set name rule a b (IsDefinedAs.an_xpath_rule is made) (IsDefinedAs.another_rule is_not) = absurd (cc)
same_entry rule_set name rule a b (IsDefinedAs.another_rule is_not) (IsDefinedAs.an_xpath_rule is made) = absurd (cc)
same_entry rule_set name rule a b (IsDefinedAs.another_rule is_not) (IsDefinedAs.another_rule is_not_too) = refl

same_kept : (rule : WrittenRule) (old a b : Entry) → ChangesEntry rule old a → ChangesEntry rule old b → a ≡ b
same_kept rule (entry.Rule old) (entry.Rule a) (entry.Rule b) h k = ap entry.Rule (same_changes rule old a b h k)
same_kept rule (entry.Unusable old) (entry.Unusable a) (entry.Unusable b) h k = ap entry.Unusable (h ∙ sym k)
same_kept rule (entry.Rule old) (entry.Rule a) (entry.Unusable b) h k = absurd k
same_kept rule (entry.Rule old) (entry.Unusable a) b h k = absurd h
same_kept rule (entry.Unusable old) (entry.Unusable a) (entry.Rule b) h k = absurd k
same_kept rule (entry.Unusable old) (entry.Rule a) b h k = absurd h

same_given : (rule : WrittenRule) (old : Progress) (to : Meant) (list : List Taken) (a b : Progress) → Gives rule old to list a → Gives rule old to list b → a ≡ b
same_given rule old (WholeFile file) list a b h k = h ∙ sym k
same_given rule old (OneRule file name) list a b (taken, kept, in_list, changes, is) (other, kept_too, in_list_too, changes_too, is_too) =
    let t : taken ≡ other = one_some (named name list) taken other in_list in_list_too in
    let k : kept ≡ kept_too = same_kept rule other.1 kept kept_too (subst (λ (x : Taken). ChangesEntry rule x.1 kept) t changes) changes_too in
    is ∙ ap₂ (λ (x : Taken) (e : Entry). with_taken old (x.0, e)) t k ∙ sym is_too

-- the same, of parameters that are equal
given_again : (rule rule_too : WrittenRule) (old old_too : Progress) (to to_too : Meant) (list list_too : List Taken) (a b : Progress) → rule ≡ rule_too → old ≡ old_too → to ≡ to_too →
    list ≡ list_too → Gives rule old to list a → Gives rule_too old_too to_too list_too b → a ≡ b
given_again rule rule_too old old_too to to_too list list_too a b r o t l h k =
    same_given rule old to list a b h
    (subst (λ x. Gives x old to list b) (sym r) (subst (λ x. Gives rule_too x to list b) (sym o)
    (subst (λ x. Gives rule_too old_too x list b) (sym t) (subst (λ x. Gives rule_too old_too to_too x b) (sym l) k))))

entry_again : (rule_set rule_set_too name name_too : Text) (rule rule_too : WrittenRule) (a b : Entry) → rule_set ≡ rule_set_too → name ≡ name_too → rule ≡ rule_too →
    IsDefinedAs rule_set name rule a → IsDefinedAs rule_set_too name_too rule_too b → a ≡ b
entry_again rule_set rule_set_too name name_too rule rule_too a b s n r h k =
    same_entry rule_set name rule a b h
    (subst (λ x. IsDefinedAs x name rule b) (sym s) (subst (λ x. IsDefinedAs rule_set_too x rule b) (sym n) (subst (λ x. IsDefinedAs rule_set_too name_too x b) (sym r) k)))

-- ---- one outcome of a file

module _ (files : Files) (one_reading : (text : List ℕ) (rows others : List Row) → IsMarkup text rows → IsMarkup text others → rows ≡ others) where
  one_written : (text : List ℕ) (a b : WrittenRuleset) → IsRuleset text a → IsRuleset text b → a ≡ b
  one_written text a b h k =
      let rows : h.rows ≡ k.rows = one_reading text h.rows k.rows (greatest_depth, h.is_markup) (greatest_depth, k.is_markup) in
      one_some (written_ruleset k.rows) a b (subst (λ (r : List Row). written_ruleset r ≡ Some a) rows h.is_ruleset) k.is_ruleset

  pub one_read : (path other : Text) (a b : WrittenRuleset) → path ≡ other → IsRead files path a → IsRead files other b → a ≡ b
  one_read path other a b e h k =
      let bytes : h.bytes ≡ k.bytes = one_some (bytes_at files other) h.bytes k.bytes (subst (λ p. bytes_at files p ≡ Some h.bytes) e h.held) k.held in
      one_written (chars k.bytes) a b (subst (λ (x : List ℕ). IsRuleset (chars x) a) bytes h.content.text) k.content.text

  abbrev Same : ℕ → Type 0
  Same n = (path other : Text) (a b : List Taken) (h : HasRules files path a) (k : HasRules files other b) → path ≡ other → file_steps files h < n →
      (a ≡ b) × (file_steps files h ≡ file_steps files k)

  same_meant : (rule rule_too : WrittenRule) (reference reference_too : Text) (to to_too : Meant) → rule ≡ rule_too → rule.reference ≡ Some reference →
      rule_too.reference ≡ Some reference_too → reference_of reference ≡ Some to → reference_of reference_too ≡ Some to_too → (reference ≡ reference_too) × (to ≡ to_too)
  same_meant rule rule_too reference reference_too to to_too r a b means means_too =
      let x : reference ≡ reference_too = one_some rule_too.reference reference reference_too (subst (λ (y : WrittenRule). y.reference ≡ Some reference) r a) b in
      (x, one_some (reference_of reference_too) to to_too (subst (λ y. reference_of y ≡ Some to) x means) means_too)

  found_again : (path path_too : Text) (to to_too : Meant) (o : Option Text) → path ≡ path_too → to ≡ to_too → look_up files path (file_of to) ≡ o →
      look_up files path_too (file_of to_too) ≡ o
  found_again path path_too to to_too o pe t e =
      subst (λ x. look_up files x (file_of to_too) ≡ o) pe (subst (λ (x : Meant). look_up files path (file_of x) ≡ o) t e)

  module _ (path path_too rule_set rule_set_too : Text) (old old_too : Progress) (p p_too : Part) (new new_too : Progress) where
    same_view : (n : ℕ) → Same n → path ≡ path_too → rule_set ≡ rule_set_too → old ≡ old_too → p ≡ p_too → (h : View files path rule_set old p new) →
        (k : View files path_too rule_set_too old_too p_too new_too) → view_steps files h ≤ n → (new ≡ new_too) × (view_steps files h ≡ view_steps files k)
    same_view n same pe se oe e (View.passes is adds) (View.passes is_too adds_too) le = (adds ∙ oe ∙ sym adds_too, refl)
    same_view n same pe se oe e (View.passes is adds) (View.defines rule name kept q none is_named fresh is_kept adds_too) le = absurd (not_both p rule is (e ∙ q))
    same_view n same pe se oe e (View.passes is adds) (View.takes rule reference other to list q refers means found has gives) le = absurd (not_both p rule is (e ∙ q))
    same_view n same pe se oe e (View.passes is adds) (View.gone rule reference to q refers means found elsewhere adds_too) le = absurd (not_both p rule is (e ∙ q))
    same_view n same pe se oe e (View.defines rule name kept q none is_named fresh is_kept adds) (View.passes is adds_too) le = absurd (not_both p_too rule is (sym e ∙ q))
    same_view n same pe se oe e (View.takes rule reference other to list q refers means found has gives) (View.passes is adds_too) le = absurd (not_both p_too rule is (sym e ∙ q))
    same_view n same pe se oe e (View.gone rule reference to q refers means found elsewhere adds) (View.passes is adds_too) le = absurd (not_both p_too rule is (sym e ∙ q))
    same_view n same pe se oe e (View.defines rule name kept q none is_named fresh is_kept adds) (View.defines rule_too name_too kept_too q_too none_too is_named_too fresh_too is_kept_too adds_too) le =
        let r : rule ≡ rule_too = same_rule p p_too rule rule_too e q q_too in
        let nm : name ≡ name_too = one_some rule_too.name name name_too (subst (λ (x : WrittenRule). x.name ≡ Some name) r is_named) is_named_too in
        let ke : kept ≡ kept_too = entry_again rule_set rule_set_too name name_too rule rule_too kept kept_too se nm r is_kept is_kept_too in (
          adds ∙ ap₂ (λ (o : Progress) (x : Text). with_rule o name (defined_in x name, kept)) oe pe
              ∙ ap₂ (λ (m : Text) (x : Entry). with_rule old_too m (defined_in path_too m, x)) nm ke ∙ sym adds_too,
          refl,
        )
    same_view n same pe se oe e (View.defines rule name kept q none is_named fresh is_kept adds) (View.takes rule_too reference other to list q_too refers means found has gives) le =
        absurd (none_some rule_too.reference reference (subst (λ (x : WrittenRule). x.reference ≡ None) (same_rule p p_too rule rule_too e q q_too) none) refers)
    same_view n same pe se oe e (View.defines rule name kept q none is_named fresh is_kept adds) (View.gone rule_too reference to q_too refers means found elsewhere adds_too) le =
        absurd (none_some rule_too.reference reference (subst (λ (x : WrittenRule). x.reference ≡ None) (same_rule p p_too rule rule_too e q q_too) none) refers)
    same_view n same pe se oe e (View.takes rule reference other to list q refers means found has gives) (View.defines rule_too name kept q_too none is_named fresh is_kept adds_too) le =
        absurd (none_some rule_too.reference reference none (subst (λ (x : WrittenRule). x.reference ≡ Some reference) (same_rule p p_too rule rule_too e q q_too) refers))
    same_view n same pe se oe e (View.gone rule reference to q refers means found elsewhere adds) (View.defines rule_too name kept q_too none is_named fresh is_kept adds_too) le =
        absurd (none_some rule_too.reference reference none (subst (λ (x : WrittenRule). x.reference ≡ Some reference) (same_rule p p_too rule rule_too e q q_too) refers))
    same_view n same pe se oe e (View.takes rule reference other to list q refers means found has gives) (View.takes rule_too reference_too other_too to_too list_too q_too refers_too means_too found_too has_too gives_too) le =
        let r : rule ≡ rule_too = same_rule p p_too rule rule_too e q q_too in
        let m = same_meant rule rule_too reference reference_too to to_too r refers refers_too means means_too in
        let o : other ≡ other_too = one_some (look_up files path_too (file_of to_too)) other other_too (found_again path path_too to to_too (Some other) pe m.1 found) found_too in
        let both = same other other_too list list_too has has_too o (omega (arith, le)) in
        (given_again rule rule_too old old_too to to_too list list_too new new_too r oe m.1 both.0 gives gives_too, ap (λ (k : ℕ). suc k) both.1)
    same_view n same pe se oe e (View.takes rule reference other to list q refers means found has gives) (View.gone rule_too reference_too to_too q_too refers_too means_too found_too elsewhere_too adds_too) le =
        let m = same_meant rule rule_too reference reference_too to to_too (same_rule p p_too rule rule_too e q q_too) refers refers_too means means_too in
        absurd (none_some (look_up files path_too (file_of to_too)) other found_too (found_again path path_too to to_too (Some other) pe m.1 found))
    same_view n same pe se oe e (View.gone rule reference to q refers means found elsewhere adds) (View.takes rule_too reference_too other_too to_too list_too q_too refers_too means_too found_too has_too gives_too) le =
        let m = same_meant rule rule_too reference reference_too to to_too (same_rule p p_too rule rule_too e q q_too) refers refers_too means means_too in
        absurd (none_some (look_up files path_too (file_of to_too)) other_too (found_again path path_too to to_too None pe m.1 found) found_too)
    same_view n same pe se oe e (View.gone rule reference to q refers means found elsewhere adds) (View.gone rule_too reference_too to_too q_too refers_too means_too found_too elsewhere_too adds_too) le =
        let r : rule ≡ rule_too = same_rule p p_too rule rule_too e q q_too in
        let m = same_meant rule rule_too reference reference_too to to_too r refers refers_too means means_too in (
          adds ∙ ap₂ (λ (o : Progress) (x : Text). with_taken o (referred_in x reference, not_available (named_by rule to) reference)) oe pe
              ∙ ap₂ (λ (x : WrittenRule) (t : Meant). with_taken old_too (referred_in path_too reference, not_available (named_by x t) reference)) r m.1
              ∙ ap (λ (x : Text). with_taken old_too (referred_in path_too x, not_available (named_by rule_too to_too) x)) m.0 ∙ sym adds_too,
          refl,
        )

  -- the parts of a file, one after the other
  pub same_all : (n : ℕ) → Same n → {path rule_set : Text} {old : Progress} {parts : List Part} {new : Progress} (h : AddAll files path rule_set old parts new)
      {path_too rule_set_too : Text} {old_too : Progress} {parts_too : List Part} {new_too : Progress} (k : AddAll files path_too rule_set_too old_too parts_too new_too) →
      path ≡ path_too → rule_set ≡ rule_set_too → old ≡ old_too → parts ≡ parts_too → all_steps files h ≤ n → (new ≡ new_too) × (all_steps files h ≡ all_steps files k)
  same_all n same AddAll.none AddAll.none pe se oe e le = (oe, refl)
  same_all n same AddAll.none (AddAll.more first rest) pe se oe e le = absurd (cc)
  same_all n same (AddAll.more first rest) AddAll.none pe se oe e le = absurd (cc)
  same_all n same (AddAll.more {path = path} {rule_set = rule_set} {before = old} {next = next} {p = p} first rest)
      (AddAll.more {path = path_too} {rule_set = rule_set_too} {before = old_too} {next = next_too} {p = p_too} first_too rest_too) pe se oe e le =
      let one : p ≡ p_too = cc in
      let here = view_same files first in
      let here_too = view_same files first_too in
      let fst = same_view path path_too rule_set rule_set_too old old_too p p_too next next_too n same pe se oe one (view files first) (view files first_too) (omega (arith, here, le)) in
      let others = same_all n same rest rest_too pe se fst.0 (cc) (omega (arith, le)) in
      let steps = fst.1 in
      let more = others.1 in
      (others.0, omega (arith, here, here_too, steps, more))

  same : (n : ℕ) → Same n
  same zero path other a b h k e lt = absurd (omega (arith, lt))
  same (suc n) path other a b (HasRules.file {written = written} read adds) (HasRules.file {written = written_too} read_too adds_too) e lt =
      let w : written ≡ written_too = one_read path other written written_too e read read_too in
      let all = same_all n (same n) adds adds_too e (ap (λ (x : WrittenRuleset). x.rule_set) w) refl (ap (λ (x : WrittenRuleset). x.parts) w) (omega (arith, lt)) in
      (ap (λ (x : Progress). x.list) all.0, ap (λ (k : ℕ). suc k) all.1)

  -- a file has one list at most, and the number of its steps
  pub one_list : (path other : Text) (a b : List Taken) (h : HasRules files path a) (k : HasRules files other b) → path ≡ other → (a ≡ b) × (file_steps files h ≡ file_steps files k)
  one_list path other a b h k e = same (suc (file_steps files h)) path other a b h k e (omega arith)

  pub same_up_to : {path rule_set : Text} {old : Progress} {parts : List Part} {new : Progress} (h : AddAll files path rule_set old parts new)
      {path_too rule_set_too : Text} {old_too : Progress} {parts_too : List Part} {new_too : Progress} (k : AddAll files path_too rule_set_too old_too parts_too new_too) →
      path ≡ path_too → rule_set ≡ rule_set_too → old ≡ old_too → parts ≡ parts_too → (new ≡ new_too) × (all_steps files h ≡ all_steps files k)
  same_up_to h k pe se oe e = same_all (all_steps files h) (same (all_steps files h)) h k pe se oe e (omega arith)
