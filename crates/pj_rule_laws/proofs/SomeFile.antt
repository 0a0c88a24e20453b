-- A file that is there comes to rules, or it has a first fault.
use Rattle.std.proofs.Common.{◌≡◌, ◌≢◌, ◌∙◌, ◌⊎◌, inl, inr, ◌≤◌, ℕ, zero, suc, Bool, true, false, cond, List, [], ◌∷◌, ◌++◌, Option, Some, None, Result, Ok, Err, refl, sym, subst, arith, append_assoc, append-nil}
use Rattle.std.specs.Prelude.{⊤}
use Rattle.std.specs.List.{AllByRecursion, flat_map}
use Rattle.std.proofs.lemmas.Grind.{flat_map-append}
use Rattle.pj_outside.specs.Files.{Files}
use Rattle.pj_rule_sets.specs.Expressions.{IsSound}
use Rattle.pj_rule_sets.specs.Faults as expressions
use Rattle.pj_rule_sets.specs.Lists.{Taken, defined_in, is_among, named, not_an_xpath_rule, not_available, referred_in, without}
use Rattle.pj_rule_sets.specs.Patterns.{whole}
use Rattle.pj_rule_sets.specs.declared.entry.Entry.TheVariants as entry
use Rattle.pj_rule_sets.specs.declared.entry.Origin.{Origin}
use Rattle.pj_rule_sets.specs.declared.fault.ExpressionFault.{ExpressionFault}
use Rattle.pj_rule_sets.specs.declared.fault.ExpressionFault.TheVariants as unsound
use Rattle.pj_rule_texts.specs.Files.{IsRead, IsUnreadable, is_there}
use Rattle.pj_rule_texts.specs.References.{Meant, WholeFile, OneRule, beside, is_from_elsewhere, reference_of}
use Rattle.pj_rule_texts.specs.Rules.{defined, is_xpath_rule, overridden}
use Rattle.pj_rule_texts.specs.Values.{Text, is_empty}
use Rattle.pj_rule_texts.specs.declared.fault.TextFault.{TextFault}
use Rattle.pj_rule_texts.specs.declared.fault.TextFault.TheVariants as texts
use Rattle.pj_rule_texts.specs.declared.file_fault.FileFault.{FileFault}
use Rattle.pj_rule_texts.specs.declared.rule.RuleTexts.{RuleTexts}
use Rattle.pj_rule_texts.specs.declared.written.Part.{Part}
use Rattle.pj_rule_texts.specs.declared.written.Part.TheVariants as part
use Rattle.pj_rule_texts.specs.declared.written.WrittenRule.{WrittenRule}
use Rattle.pj_rule_texts.specs.declared.written.WrittenRuleset.{WrittenRuleset}
use Rattle.pj_rules.specs.Effective.{AddAll, Adds, AreJudged, CannotChange, CannotDefine, Changes, Defines, FileFaults, HasRules, PartFault, RefersTo, nothing, or_name, path_pattern, what_of_expressions, with_list, with_rule, with_taken}
use Rattle.pj_rules.specs.Laws.{ReadOrFault}
use Rattle.pj_rules.specs.LookUp.{look_up}
use Rattle.pj_rules.specs.declared.fault.RuleFault.{RuleFault}
use Rattle.pj_rules.specs.declared.fault.RuleWhat.{RuleWhat}
use Rattle.pj_rules.specs.declared.progress.Progress.{Progress}
use Rattle.pj_xpatterns.specs.Meaning.{IsNoPattern}
use Rattle.pj_rule_laws.specs.Laws.{ReadIsShort, SoundOrSomeFault}
use Rattle.pj_rule_laws.specs.Sizes.{HasShortTexts, IsShortPart, AreShortParts, AreShortPieces}
use Rattle.pj_rule_laws.proofs.ShortLists.{AreShort, named_short, put_all_short, put_short, without_short}
use Rattle.pj_rule_laws.proofs.SomeSound.{pattern_judged}
use Rattle.pj_rule_laws.proofs.TextSizes.{Gives, defined_short, overridden_short}
use Rattle.pj_rule_laws.proofs.Unopened.{one_fewer, unopened}

-- a rule of these texts can be used, or they have a fault that is told
abbrev Told : Text → RuleTexts → Type 0
Told name new = IsSound new ⊎ ((fault : ExpressionFault) × (w : RuleWhat) × expressions.IsFault new fault × (what_of_expressions name fault ≡ Some w))

told : SoundOrSomeFault → (new : RuleTexts) → HasShortTexts new → Told new.row.name new
told settled new short = elim (settled new short) [ inl sound ↦ inl sound | inr (fault, real, is) ↦ inr (of_fault fault real is) ]
  where
    of_fault : (fault : ExpressionFault) → fault ≢ unsound.Memory → expressions.IsFault new fault → (f : ExpressionFault) × (w : RuleWhat) × expressions.IsFault new f × (what_of_expressions new.row.name f ≡ Some w)
    of_fault (unsound.XPath fault) real is = (unsound.XPath fault, _, is, refl)
    of_fault unsound.Pattern real is = (unsound.Pattern, _, is, refl)
    of_fault unsound.Memory real is = absurd (real refl)

-- ---- the rule that is defined, and the one that a reference changes

module _ (settled : SoundOrSomeFault) where
  module _ (rule_set name : Text) (rule : WrittenRule) (short : AreShortPieces rule.pieces) where
    abbrev Defined : Type 0
    Defined = ((new : RuleTexts) × HasShortTexts new × Defines rule_set name rule new) ⊎ ((w : RuleWhat) × CannotDefine rule_set name rule w)

    definition : Defined
    definition = by (defined rule_set name rule) refl (defined_short rule_set name rule short)
      where
        of_texts : (new : RuleTexts) → HasShortTexts new → defined rule_set name rule ≡ Ok new → Told new.row.name new → Defined
        of_texts new few is (inl sound) = inl (new, few, Defines.defines is sound)
        of_texts new few is (inr (fault, w, bad, what)) = inr (w, CannotDefine.bad_expressions fault is bad what)

        by : (r : Result RuleTexts TextFault) → defined rule_set name rule ≡ r → Gives HasShortTexts r → Defined
        by (Ok new) is few = of_texts new few is (told settled new few)
        by (Err texts.BadPriority) is few = inr (_, CannotDefine.bad_texts is refl)
        by (Err texts.BadProperty) is few = inr (_, CannotDefine.bad_texts is refl)
        by (Err texts.NoXPath) is few = inr (_, CannotDefine.bad_texts is refl)
        by (Err texts.Memory) is few = absurd few

  module _ (rule : WrittenRule) (old : RuleTexts) (short : AreShortPieces rule.pieces) (before : HasShortTexts old) where
    abbrev Changed : Type 0
    Changed = ((new : RuleTexts) × HasShortTexts new × Changes rule old new) ⊎ ((w : RuleWhat) × CannotChange rule old w)

    change : Changed
    change = by (overridden old rule) refl (overridden_short old rule before short)
      where
        of_texts : (new : RuleTexts) → HasShortTexts new → overridden old rule ≡ Ok new → Told new.row.name new → Changed
        of_texts new few is (inl sound) = inl (new, few, Changes.changed is sound)
        of_texts new few is (inr (fault, w, bad, what)) = inr (w, CannotChange.bad_expressions fault is bad what)

        by : (r : Result RuleTexts TextFault) → overridden old rule ≡ r → Gives HasShortTexts r → Changed
        by (Ok new) is few = of_texts new few is (told settled new few)
        by (Err texts.BadPriority) is few = inr (_, CannotChange.bad_texts is refl)
        by (Err texts.BadProperty) is few = inr (_, CannotChange.bad_texts is refl)
        by (Err texts.NoXPath) is few = inr (_, CannotChange.bad_texts is refl)
        by (Err texts.Memory) is few = absurd few

-- ---- files

-- what a part of a top ruleset, or of another file, is judged by
abbrev IsJudged : Bool → Part → Type 0
IsJudged false p = ⊤
IsJudged true p = AllByRecursion (λ pattern. ¬ IsNoPattern pattern) (path_pattern p)

all_more : {A : Type 0} (P : A → Type 0) (xs ys : List A) → AllByRecursion P xs → AllByRecursion P ys → AllByRecursion P (xs ++ ys)
all_more P [] ys all more = more
all_more P (x ∷ xs) ys all more = (all.0, all_more P xs ys all.1 more)

judged_more : (is_top : Bool) (before : List Part) (p : Part) → AreJudged is_top before → IsJudged is_top p → AreJudged is_top (before ++ p ∷ [])
judged_more false before p h judged = tt
judged_more true before p h judged =
    let last : flat_map path_pattern (p ∷ []) ≡ path_pattern p = append-nil (path_pattern p) in
    rw (flat_map-append path_pattern before (p ∷ []), last) (all_more _ (flat_map path_pattern before) (path_pattern p) h judged)

none_judged : (is_top : Bool) → AreJudged is_top []
none_judged true = tt
none_judged false = tt

-- what is found when a file is looked up is there
look_up_there : (files : Files) (path file other : Text) → look_up files path file ≡ Some other → is_there files other ≡ true
look_up_there files path file other e = by (is_empty file) e
  where
    same : (a b : Text) → Some a ≡ Some b → a ≡ b
    same a b f = cc

    second : (b : Bool) → is_there files (beside path file) ≡ b → cond {A = Option Text} b (Some (beside path file)) None ≡ Some other → is_there files other ≡ true
    second true there f = subst (λ t. is_there files t ≡ true) (same (beside path file) other f) there
    second false there f = absurd (cc)

    first : (b : Bool) → is_there files file ≡ b → cond {A = Option Text} b (Some file) (cond (is_there files (beside path file)) (Some (beside path file)) None) ≡ Some other → is_there files other ≡ true
    first true there f = subst (λ t. is_there files t ≡ true) (same file other f) there
    first false there f = second (is_there files (beside path file)) refl f

    by : (b : Bool) → cond {A = Option Text} b None (cond (is_there files file) (Some file) (cond (is_there files (beside path file)) (Some (beside path file)) None)) ≡ Some other → is_there files other ≡ true
    by true f = absurd (cc)
    by false f = first (is_there files file) refl f

module _ (files : Files) where
  -- the parts of a file, and one more
  add_one : {path rule_set : Text} {before after last : Progress} {parts : List Part} {p : Part} → AddAll files path rule_set before parts after → Adds files path rule_set after p last →
      AddAll files path rule_set before (parts ++ p ∷ []) last
  add_one AddAll.none adds = AddAll.more adds AddAll.none
  add_one (AddAll.more first rest) adds = AddAll.more first (add_one rest adds)

  -- the file comes to this list
  pub record Whole (is_top : Bool) (path : Text) : Type 0 where
    pub written : WrittenRuleset
    pub progress : Progress
    pub read : IsRead files path written
    pub added : AddAll files path written.rule_set nothing written.parts progress
    pub judged : AreJudged is_top written.parts
    pub short : AreShort progress.list

  abbrev pub Outcome : Bool → List Text → Text → Type 0
  Outcome is_top open_ path = Whole is_top path ⊎ ((fault : RuleFault) × FileFaults files is_top open_ path fault)

  -- the part adds this
  record More (is_top : Bool) (path rule_set : Text) (progress : Progress) (p : Part) : Type 0 where
    next : Progress
    adds : Adds files path rule_set progress p next
    judged : IsJudged is_top p
    short : AreShort next.list

  module _ (read_or_fault : ReadOrFault) (read_short : ReadIsShort) (settled : SoundOrSomeFault) where
    module _ (is_top : Bool) (open_ : List Text) (path rule_set : Text) (progress : Progress) (so_far : AreShort progress.list)
        (further : (other : Text) → is_there files other ≡ true → is_among other open_ ≡ false → Outcome false (open_ ++ other ∷ []) other) where
      abbrev PartOutcome : Part → Type 0
      PartOutcome p = More is_top path rule_set progress p ⊎ ((fault : RuleFault) × PartFault files is_top open_ path rule_set progress p fault)

      rule_judged : (b : Bool) (rule : WrittenRule) → IsJudged b (part.Rule rule)
      rule_judged true rule = tt
      rule_judged false rule = tt

      -- ---- path patterns

      exclude : (text : Text) → PartOutcome (part.ExcludePattern text)
      exclude text = by is_top refl
        where
          of_pattern : is_top ≡ true → IsNoPattern (whole text) ⊎ (IsNoPattern (whole text) → ⊥) → PartOutcome (part.ExcludePattern text)
          of_pattern top (inl is_none) = inr (_, PartFault.exclude_pattern top is_none)
          of_pattern top (inr fine) = inl (record { next = progress; adds = Adds.exclude_pattern; judged = subst (λ b. IsJudged b (part.ExcludePattern text)) (sym top) (fine, tt); short = so_far })

          by : (b : Bool) → is_top ≡ b → PartOutcome (part.ExcludePattern text)
          by true top = of_pattern top (pattern_judged (whole text))
          by false top = inl (record { next = progress; adds = Adds.exclude_pattern; judged = subst (λ b. IsJudged b (part.ExcludePattern text)) (sym top) tt; short = so_far })

      include : (text : Text) → PartOutcome (part.IncludePattern text)
      include text = by is_top refl
        where
          of_pattern : is_top ≡ true → IsNoPattern (whole text) ⊎ (IsNoPattern (whole text) → ⊥) → PartOutcome (part.IncludePattern text)
          of_pattern top (inl is_none) = inr (_, PartFault.include_pattern top is_none)
          of_pattern top (inr fine) = inl (record { next = progress; adds = Adds.include_pattern; judged = subst (λ b. IsJudged b (part.IncludePattern text)) (sym top) (fine, tt); short = so_far })

          by : (b : Bool) → is_top ≡ b → PartOutcome (part.IncludePattern text)
          by true top = of_pattern top (pattern_judged (whole text))
          by false top = inl (record { next = progress; adds = Adds.include_pattern; judged = subst (λ b. IsJudged b (part.IncludePattern text)) (sym top) tt; short = so_far })

      module _ (rule : WrittenRule) (few : AreShortPieces rule.pieces) where
        abbrev RuleOutcome : Type 0
        RuleOutcome = PartOutcome (part.Rule rule)

        -- ---- rules that are defined

        module _ (none : rule.reference ≡ None) (name : Text) (is_named : rule.name ≡ Some name) (fresh : is_among name progress.names ≡ false) where
          of_definition : is_xpath_rule rule ≡ true → Defined settled rule_set name rule few → RuleOutcome
          of_definition is (inl (new, short, made)) = inl (record {
            next = with_rule progress name (defined_in path name, entry.Rule new);
            adds = Adds.definition none is_named fresh is made;
            judged = rule_judged is_top rule;
            short = put_short progress.list (defined_in path name, entry.Rule new) so_far short;
          })
          of_definition is (inr (w, cannot)) = inr (_, PartFault.definition none is_named fresh is cannot)

          of_name : RuleOutcome
          of_name = by (is_xpath_rule rule) refl
            where
              by : (b : Bool) → is_xpath_rule rule ≡ b → RuleOutcome
              by true is = of_definition is (definition settled rule_set name rule few)
              by false is = inl (record {
                next = with_rule progress name (defined_in path name, not_an_xpath_rule name);
                adds = Adds.unusable none is_named fresh is;
                judged = rule_judged is_top rule;
                short = put_short progress.list (defined_in path name, not_an_xpath_rule name) so_far tt;
              })

        of_no_reference : rule.reference ≡ None → RuleOutcome
        of_no_reference none = by rule.name refl
          where
            of_among : (name : Text) → rule.name ≡ Some name → (b : Bool) → is_among name progress.names ≡ b → RuleOutcome
            of_among name is true among = inr (_, PartFault.same_name none is among)
            of_among name is false fresh = of_name none name is fresh

            by : (o : Option Text) → rule.name ≡ o → RuleOutcome
            by None is = inr (_, PartFault.no_name none is)
            by (Some name) is = of_among name is (is_among name progress.names) refl

        -- ---- references

        module _ (reference : Text) (refers : rule.reference ≡ Some reference) where
          -- a file that is there, with its rules
          module _ (file : Text) (refers_to : RefersTo files reference file) where
            abbrev Lists : Text → Type 0
            Lists other = (list : List Taken) × HasRules files other list × AreShort list

            of_file : (other : Text) → look_up files path file ≡ Some other → (Lists other → RuleOutcome) → RuleOutcome
            of_file other found next = by (is_among other open_) refl
              where
                of_outcome : is_among other open_ ≡ false → Outcome false (open_ ++ other ∷ []) other → RuleOutcome
                of_outcome fresh (inl done) = next (done.progress.list, HasRules.file done.read done.added, done.short)
                of_outcome fresh (inr (fault, is)) = inr (fault, PartFault.within refers refers_to found fresh is)

                by : (b : Bool) → is_among other open_ ≡ b → RuleOutcome
                by true among = inr (_, PartFault.cycle refers refers_to found among)
                by false fresh = of_outcome fresh (further other (look_up_there files path file other found) fresh)

            of_nothing : look_up files path file ≡ None → (is_from_elsewhere file ≡ true → RuleOutcome) → RuleOutcome
            of_nothing gone next = by (is_from_elsewhere file) refl
              where
                by : (b : Bool) → is_from_elsewhere file ≡ b → RuleOutcome
                by true elsewhere = next elsewhere
                by false own = inr (_, PartFault.missing_file refers refers_to gone own)

          -- all rules of a file
          of_whole : (file : Text) → reference_of reference ≡ Some (WholeFile file) → (o : Option Text) → look_up files path file ≡ o → RuleOutcome
          of_whole file means None gone = of_nothing file (RefersTo.whole_file means) gone (λ elsewhere. inl (record {
            next = with_taken progress (referred_in path reference, not_available None reference);
            adds = Adds.whole_file_elsewhere refers means gone elsewhere;
            judged = rule_judged is_top rule;
            short = put_short progress.list (referred_in path reference, not_available None reference) so_far tt;
          }))
          of_whole file means (Some other) found = of_file file (RefersTo.whole_file means) other found (λ lists. inl (record {
            next = with_list progress (without rule.excludes lists.0);
            adds = Adds.whole_file refers means found lists.1;
            judged = rule_judged is_top rule;
            short = put_all_short progress.list (without rule.excludes lists.0) so_far (without_short rule.excludes lists.0 lists.2);
          }))

          -- one rule of a file
          module _ (file name other : Text) (means : reference_of reference ≡ Some (OneRule file name)) (found : look_up files path file ≡ Some other) (list : List Taken) (has : HasRules files other list)
              (short : AreShort list) where
            of_change : (origin : Origin) (old : RuleTexts) → named name list ≡ Some (origin, entry.Rule old) → (before : HasShortTexts old) → Changed settled rule old few before → RuleOutcome
            of_change origin old is before (inl (new, short_new, changes)) = inl (record {
              next = with_taken progress (origin, entry.Rule new);
              adds = Adds.one_rule refers means found has is changes;
              judged = rule_judged is_top rule;
              short = put_short progress.list (origin, entry.Rule new) so_far short_new;
            })
            of_change origin old is before (inr (w, cannot)) = inr (_, PartFault.override refers means found has is cannot)

            of_named : (o : Option Taken) → named name list ≡ o → RuleOutcome
            of_named None is = inr (_, PartFault.missing_rule refers means found has is)
            of_named (Some (origin, entry.Rule old)) is = of_change origin old is (named_short name list (origin, entry.Rule old) short is) (change settled rule old few (named_short name list (origin, entry.Rule old) short is))
            of_named (Some (origin, entry.Unusable unusable)) is = inl (record {
              next = with_taken progress (origin, entry.Unusable unusable);
              adds = Adds.one_unusable refers means found has is;
              judged = rule_judged is_top rule;
              short = put_short progress.list (origin, entry.Unusable unusable) so_far tt;
            })

          of_one : (file name : Text) → reference_of reference ≡ Some (OneRule file name) → (o : Option Text) → look_up files path file ≡ o → RuleOutcome
          of_one file name means None gone = of_nothing file (RefersTo.one_rule means) gone (λ elsewhere. inl (record {
            next = with_taken progress (referred_in path reference, not_available (or_name rule name) reference);
            adds = Adds.one_rule_elsewhere refers means gone elsewhere;
            judged = rule_judged is_top rule;
            short = put_short progress.list (referred_in path reference, not_available (or_name rule name) reference) so_far tt;
          }))
          of_one file name means (Some other) found = of_file file (RefersTo.one_rule means) other found (λ lists. of_named file name other means found lists.0 lists.1 lists.2 (named name lists.0) refl)

          of_meant : (o : Option Meant) → reference_of reference ≡ o → RuleOutcome
          of_meant None means = inr (_, PartFault.neither_form refers means)
          of_meant (Some (WholeFile file)) means = of_whole file means (look_up files path file) refl
          of_meant (Some (OneRule file name)) means = of_one file name means (look_up files path file) refl

        rule_outcome : RuleOutcome
        rule_outcome = by rule.reference refl
          where
            by : (o : Option Text) → rule.reference ≡ o → RuleOutcome
            by None none = of_no_reference none
            by (Some reference) refers = of_meant reference refers (reference_of reference) refl

      part_outcome : (p : Part) → IsShortPart p → PartOutcome p
      part_outcome (part.Rule rule) few = rule_outcome rule few
      part_outcome (part.ExcludePattern text) few = exclude text
      part_outcome (part.IncludePattern text) few = include text

    -- ---- the parts of a file, one after the other

    module _ (is_top : Bool) (open_ : List Text) (path : Text) (further : (other : Text) → is_there files other ≡ true → is_among other open_ ≡ false → Outcome false (open_ ++ other ∷ []) other)
        (written : WrittenRuleset) (read : IsRead files path written) where
      parts_outcome : (before behind : List Part) → AreShortParts behind → written.parts ≡ before ++ behind → (progress : Progress) → AddAll files path written.rule_set nothing before progress →
          AreJudged is_top before → AreShort progress.list → Outcome is_top open_ path
      parts_outcome before [] few stands progress added judged short =
          let whole : written.parts ≡ before = stands ∙ append-nil before in
          inl (record {
            written = written;
            progress = progress;
            read = read;
            added = subst (λ ps. AddAll files path written.rule_set nothing ps progress) (sym whole) added;
            judged = subst (AreJudged is_top) (sym whole) judged;
            short = short;
          })
      parts_outcome before (p ∷ behind) few stands progress added judged short =
          next (λ progress. parts_outcome (before ++ p ∷ []) behind few.1 (stands ∙ sym (append_assoc before (p ∷ []) behind)) progress)
          (part_outcome is_top open_ path written.rule_set progress short further p few.0)
        where
          next : ((after : Progress) → AddAll files path written.rule_set nothing (before ++ p ∷ []) after → AreJudged is_top (before ++ p ∷ []) → AreShort after.list → Outcome is_top open_ path) →
              More is_top path written.rule_set progress p ⊎ ((fault : RuleFault) × PartFault files is_top open_ path written.rule_set progress p fault) → Outcome is_top open_ path
          next later (inl more) = later more.next (add_one added more.adds) (judged_more is_top before p judged more.judged) more.short
          next later (inr (fault, is)) = inr (fault, FileFaults.in_part behind read stands added judged is)

    at_path : (is_top : Bool) (open_ : List Text) (path : Text) → ((other : Text) → is_there files other ≡ true → is_among other open_ ≡ false → Outcome false (open_ ++ other ∷ []) other) →
        ((written : WrittenRuleset) × IsRead files path written) ⊎ ((fault : FileFault) × IsUnreadable files path fault) → Outcome is_top open_ path
    at_path is_top open_ path further (inl (written, read)) =
        parts_outcome is_top open_ path further written read [] written.parts (read_short files path written read) refl nothing AddAll.none (none_judged is_top) tt
    at_path is_top open_ path further (inr (fault, is)) = inr (_, FileFaults.unreadable is)

    -- a file that is there, where no more files than these are not open
    file_outcome : (most : ℕ) (is_top : Bool) (open_ : List Text) (path : Text) → unopened files open_ ≤ most → is_there files path ≡ true → Outcome is_top open_ path
    file_outcome zero is_top open_ path few there =
        at_path is_top open_ path (λ other found fresh. let less = one_fewer open_ other fresh files found in absurd (omega (arith, less, few))) (read_or_fault files path there)
    file_outcome (suc most) is_top open_ path few there =
        at_path is_top open_ path
        (λ other found fresh. let less = one_fewer open_ other fresh files found in file_outcome most false (open_ ++ other ∷ []) other (omega (arith, less, few)) found)
        (read_or_fault files path there)

    pub some_outcome : (is_top : Bool) (open_ : List Text) (path : Text) → is_there files path ≡ true → Outcome is_top open_ path
    some_outcome is_top open_ path there = file_outcome (unopened files open_) is_top open_ path (omega arith) there
