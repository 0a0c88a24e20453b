-- What holds of each rule that files come to: it holds of what a definition gives, and a reference keeps it.
use Rattle.std.proofs.Common.{◌≡◌, ◌++◌, ℕ, Bool, true, false, cond, not, List, [], ◌∷◌, Option, Some, None, sym, subst}
use Rattle.std.specs.Prelude.{⊤, nat_le}
use Rattle.std.specs.List.{AllByRecursion, cons_option, filter_map}
use Rattle.pj_outside.specs.Files.{Files}
use Rattle.pj_rule_sets.specs.Lists.{Taken, is_called, is_excluded, name_of, named, put, put_all, same_origin, without}
use Rattle.pj_rule_sets.specs.Rules.{EffectiveRule, EffectiveRules, rule_of, texts_of}
use Rattle.pj_rule_sets.specs.declared.entry.Entry.{Entry}
use Rattle.pj_rule_sets.specs.declared.entry.Entry.TheVariants as entry
use Rattle.pj_rule_texts.specs.Values.{Text}
use Rattle.pj_rule_texts.specs.declared.rule.RuleTexts.{RuleTexts}
use Rattle.pj_rule_texts.specs.declared.written.Part.{Part}
use Rattle.pj_rule_texts.specs.declared.written.WrittenRule.{WrittenRule}
use Rattle.pj_rules.specs.Effective.{AddAll, Adds, Changes, Defines, HasRules}
use Rattle.pj_rules.specs.Load.{AreTops, IsEffective, IsTop, TopRules, kept_rule, rules_from, rules_of_top}
use Rattle.pj_rules.specs.declared.progress.Progress.{Progress}

module _ (P : RuleTexts → Type 0) where
  abbrev pub OfEntry : Entry → Type 0
  OfEntry (entry.Rule texts) = P texts
  OfEntry (entry.Unusable unusable) = ⊤

  abbrev pub OfList : List Taken → Type 0
  OfList list = AllByRecursion (λ (taken : Taken). OfEntry taken.1) list

  abbrev pub OfRules : List EffectiveRule → Type 0
  OfRules rules = AllByRecursion (λ (rule : EffectiveRule). P (texts_of rule)) rules

  -- ---- lists

  put_of : (list : List Taken) (taken : Taken) → OfList list → OfEntry taken.1 → OfList (put list taken)
  put_of [] taken h s = (s, tt)
  put_of (other ∷ rest) taken h s = by (same_origin taken.0 other.0) (put_of rest taken h.1 s)
    where
      by : (b : Bool) → OfList (put rest taken) → OfList (cond b ((other.0, taken.1) ∷ rest) (other ∷ put rest taken))
      by true more = (s, h.1)
      by false more = (h.0, more)

  put_all_of : (list more : List Taken) → OfList list → OfList more → OfList (put_all list more)
  put_all_of list [] h k = h
  put_all_of list (taken ∷ more) h k = put_all_of (put list taken) more (put_of list taken h k.0) k.1

  without_of : (excludes : List Text) (list : List Taken) → OfList list → OfList (without excludes list)
  without_of excludes [] h = tt
  without_of excludes (taken ∷ list) h = by (not (is_excluded excludes (name_of taken.1))) (without_of excludes list h.1)
    where
      by : (b : Bool) → OfList (without excludes list) → OfList (cond b (taken ∷ without excludes list) (without excludes list))
      by true more = (h.0, more)
      by false more = more

  named_of : (name : Text) (list : List Taken) (taken : Taken) → OfList list → named name list ≡ Some taken → OfEntry taken.1
  named_of name [] taken h e = absurd (cc)
  named_of name (first ∷ list) taken h e = by (is_called name (name_of first.1)) (λ f. named_of name list taken h.1 f) e
    where
      same : Some first ≡ Some taken → first ≡ taken
      same f = cc

      by : (b : Bool) → (named name list ≡ Some taken → OfEntry taken.1) → cond b (Some first) (named name list) ≡ Some taken → OfEntry taken.1
      by true later f = subst (λ (t : Taken). OfEntry t.1) (same f) h.0
      by false later f = later f

  -- ---- files

  module _
      (defines : (rule_set name : Text) (rule : WrittenRule) (texts : RuleTexts) → Defines rule_set name rule texts → P texts)
      (changes : (rule : WrittenRule) (old new : RuleTexts) → Changes rule old new → P old → P new)
      (files : Files) where
    mutual
      part_of : {path rule_set : Text} {before after : Progress} {p : Part} → Adds files path rule_set before p after → OfList before.list → OfList after.list
      part_of Adds.exclude_pattern h = h
      part_of Adds.include_pattern h = h
      part_of (Adds.definition {rule_set = rule_set} {progress = progress} {rule = rule} {name = name} {texts = texts} none is_named fresh is made) h = put_of progress.list _ h (defines rule_set name rule texts made)
      part_of (Adds.unusable {progress = progress} none is_named fresh is_not) h = put_of progress.list _ h tt
      part_of (Adds.whole_file {progress = progress} {rule = rule} {list = list} refers means found has) h = put_all_of progress.list (without rule.excludes list) h (without_of rule.excludes list (file_of has))
      part_of (Adds.one_rule {progress = progress} {rule = rule} {name = name} {list = list} {origin = origin} {old = old} {new = new} refers means found has in_list change) h =
          put_of progress.list _ h (changes rule old new change (named_of name list (origin, entry.Rule old) (file_of has) in_list))
      part_of (Adds.one_unusable {progress = progress} refers means found has in_list) h = put_of progress.list _ h tt
      part_of (Adds.whole_file_elsewhere {progress = progress} refers means found elsewhere) h = put_of progress.list _ h tt
      part_of (Adds.one_rule_elsewhere {progress = progress} refers means found elsewhere) h = put_of progress.list _ h tt

      parts_of : {path rule_set : Text} {before after : Progress} {parts : List Part} → AddAll files path rule_set before parts after → OfList before.list → OfList after.list
      parts_of AddAll.none h = h
      parts_of (AddAll.more first rest) h = parts_of rest (part_of first h)

      file_of : {path : Text} {list : List Taken} → HasRules files path list → OfList list
      file_of (HasRules.file read adds) = parts_of adds tt

    top_of : {path : Text} {top : TopRules} → IsTop files path top → OfList top.list
    top_of (IsTop.file read adds judged) = parts_of adds tt
    top_of (IsTop.elsewhere absent is) = (tt, tt)

  -- ---- sets

  both_of : (xs ys : List EffectiveRule) → OfRules xs → OfRules ys → OfRules (xs ++ ys)
  both_of [] ys h k = k
  both_of (x ∷ xs) ys h k = (h.0, both_of xs ys h.1 k)

  kept_of : (minimum number : ℕ) (exclude include : List Text) (list : List Taken) → OfList list → OfRules (filter_map (kept_rule minimum number exclude include) list)
  kept_of minimum number exclude include [] h = tt
  kept_of minimum number exclude include ((origin, entry.Rule texts) ∷ list) h = by (nat_le texts.row.priority minimum) (kept_of minimum number exclude include list h.1)
    where
      by : (b : Bool) → OfRules (filter_map (kept_rule minimum number exclude include) list) → OfRules (cons_option (cond {A = Option EffectiveRule} b (Some (rule_of number exclude include texts)) None) (filter_map (kept_rule minimum number exclude include) list))
      by true rest = (h.0, rest)
      by false rest = rest
  kept_of minimum number exclude include ((origin, entry.Unusable unusable) ∷ list) h = kept_of minimum number exclude include list h.1

  module _
      (defines : (rule_set name : Text) (rule : WrittenRule) (texts : RuleTexts) → Defines rule_set name rule texts → P texts)
      (changes : (rule : WrittenRule) (old new : RuleTexts) → Changes rule old new → P old → P new) where
    from_of : (files : Files) (paths : List Text) (tops : List TopRules) (minimum number : ℕ) → AreTops files paths tops → OfRules (rules_from minimum number tops)
    from_of files paths tops minimum number AreTops.none = tt
    from_of files paths tops minimum number (AreTops.more {paths = others} {top = top} {tops = rest} is are) =
        both_of (rules_of_top minimum number top) (rules_from minimum _ rest) (kept_of minimum number top.exclude top.include top.list (top_of defines changes files is)) (from_of files others rest minimum _ are)

    pub each_rule : (files : Files) (paths : List Text) (minimum : ℕ) (marker : Text) (rules : EffectiveRules) → IsEffective files paths minimum marker rules → OfRules rules.rules
    each_rule files paths minimum marker rules h =
        subst (λ (rs : EffectiveRules). OfRules rs.rules) (sym h.is) (from_of files paths h.tops minimum 0 h.are_tops)
