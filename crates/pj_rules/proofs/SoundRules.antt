-- The rules that files come to can be used.
use Rattle.std.proofs.Common.{◌≡◌, ◌++◌, ℕ, Bool, true, false, cond, not, List, [], ◌∷◌, Option, Some, None, ◌∙◌, ap, refl, sym, subst}
use Rattle.std.specs.Prelude.{⊤, nat_le}
use Rattle.std.specs.List.{AllByRecursion, cons_option, filter_map}
use Rattle.pj_outside.specs.Files.{Files}
use Rattle.pj_rule_sets.specs.Expressions.{IsSound}
use Rattle.pj_rule_sets.specs.Lists.{Taken, is_called, is_excluded, name_of, named, put, put_all, same_origin, without}
use Rattle.pj_rule_sets.specs.Rules.{EffectiveRule, EffectiveRules, rule_of, texts_of}
use Rattle.pj_rule_sets.specs.declared.entry.Entry.{Entry}
use Rattle.pj_rule_sets.specs.declared.entry.Entry.TheVariants as entry
use Rattle.pj_rule_sets.specs.declared.entry.Origin.{Origin}
use Rattle.pj_rule_texts.specs.Values.{Text}
use Rattle.pj_rule_texts.specs.declared.rule.RuleTexts.{RuleTexts}
use Rattle.pj_rule_texts.specs.declared.written.Part.{Part}
use Rattle.pj_rule_texts.specs.declared.written.WrittenRule.{WrittenRule}
use Rattle.pj_rules.specs.Effective.{AddAll, Adds, Changes, Defines, HasRules}
use Rattle.pj_rules.specs.Load.{AreTops, IsEffective, IsTop, TopRules, kept_rule, rules_from, rules_of_top}
use Rattle.pj_rules.specs.declared.progress.Progress.{Progress}

-- a rule can be used
abbrev pub SoundEntry : Entry → Type 0
SoundEntry (entry.Rule texts) = IsSound texts
SoundEntry (entry.Unusable unusable) = ⊤

abbrev pub SoundList : List Taken → Type 0
SoundList list = AllByRecursion (λ (taken : Taken). SoundEntry taken.1) list

-- ---- lists

put_sound : (list : List Taken) (taken : Taken) → SoundList list → SoundEntry taken.1 → SoundList (put list taken)
put_sound [] taken h s = (s, tt)
put_sound (other ∷ rest) taken h s = by (same_origin taken.0 other.0) (put_sound rest taken h.1 s)
  where
    by : (b : Bool) → SoundList (put rest taken) → SoundList (cond b ((other.0, taken.1) ∷ rest) (other ∷ put rest taken))
    by true more = (s, h.1)
    by false more = (h.0, more)

put_all_sound : (list more : List Taken) → SoundList list → SoundList more → SoundList (put_all list more)
put_all_sound list [] h k = h
put_all_sound list (taken ∷ more) h k = put_all_sound (put list taken) more (put_sound list taken h k.0) k.1

without_sound : (excludes : List Text) (list : List Taken) → SoundList list → SoundList (without excludes list)
without_sound excludes [] h = tt
without_sound excludes (taken ∷ list) h = by (not (is_excluded excludes (name_of taken.1))) (without_sound excludes list h.1)
  where
    by : (b : Bool) → SoundList (without excludes list) → SoundList (cond b (taken ∷ without excludes list) (without excludes list))
    by true more = (h.0, more)
    by false more = more

named_sound : (name : Text) (list : List Taken) (taken : Taken) → SoundList list → named name list ≡ Some taken → SoundEntry taken.1
named_sound name [] taken h e = absurd (cc)
named_sound name (first ∷ list) taken h e = by (is_called name (name_of first.1)) (λ f. named_sound name list taken h.1 f) e
  where
    same : Some first ≡ Some taken → first ≡ taken
    same f = cc

    by : (b : Bool) → (named name list ≡ Some taken → SoundEntry taken.1) → cond b (Some first) (named name list) ≡ Some taken → SoundEntry taken.1
    by true later f = subst (λ (t : Taken). SoundEntry t.1) (same f) h.0
    by false later f = later f

-- ---- files

defined_sound : {rule_set name : Text} {rule : WrittenRule} {texts : RuleTexts} → Defines rule_set name rule texts → IsSound texts
defined_sound (Defines.defines is sound) = sound

changed_sound : {rule : WrittenRule} {old new : RuleTexts} → Changes rule old new → IsSound new
changed_sound (Changes.changed is sound) = sound

module _ (files : Files) where
  mutual
    part_sound : {path rule_set : Text} {before after : Progress} {p : Part} → Adds files path rule_set before p after → SoundList before.list → SoundList after.list
    part_sound Adds.exclude_pattern h = h
    part_sound Adds.include_pattern h = h
    part_sound (Adds.definition {progress = progress} none is_named fresh is made) h = put_sound progress.list _ h (defined_sound made)
    part_sound (Adds.unusable {progress = progress} none is_named fresh is_not) h = put_sound progress.list _ h tt
    part_sound (Adds.whole_file {progress = progress} {rule = rule} {list = list} refers means found has) h = put_all_sound progress.list (without rule.excludes list) h (without_sound rule.excludes list (file_sound has))
    part_sound (Adds.one_rule {progress = progress} refers means found has in_list changes) h = put_sound progress.list _ h (changed_sound changes)
    part_sound (Adds.one_unusable {progress = progress} refers means found has in_list) h = put_sound progress.list _ h tt
    part_sound (Adds.whole_file_elsewhere {progress = progress} refers means found elsewhere) h = put_sound progress.list _ h tt
    part_sound (Adds.one_rule_elsewhere {progress = progress} refers means found elsewhere) h = put_sound progress.list _ h tt

    parts_sound : {path rule_set : Text} {before after : Progress} {parts : List Part} → AddAll files path rule_set before parts after → SoundList before.list → SoundList after.list
    parts_sound AddAll.none h = h
    parts_sound (AddAll.more first rest) h = parts_sound rest (part_sound first h)

    file_sound : {path : Text} {list : List Taken} → HasRules files path list → SoundList list
    file_sound (HasRules.file read adds) = parts_sound adds tt

  top_sound : {path : Text} {top : TopRules} → IsTop files path top → SoundList top.list
  top_sound (IsTop.file read adds judged) = parts_sound adds tt
  top_sound (IsTop.elsewhere absent is) = (tt, tt)

-- ---- sets

abbrev pub SoundRules : List EffectiveRule → Type 0
SoundRules rules = AllByRecursion (λ (rule : EffectiveRule). IsSound (texts_of rule)) rules

both_sound : (xs ys : List EffectiveRule) → SoundRules xs → SoundRules ys → SoundRules (xs ++ ys)
both_sound [] ys h k = k
both_sound (x ∷ xs) ys h k = (h.0, both_sound xs ys h.1 k)

kept_sound : (minimum number : ℕ) (exclude include : List Text) (list : List Taken) → SoundList list → SoundRules (filter_map (kept_rule minimum number exclude include) list)
kept_sound minimum number exclude include [] h = tt
kept_sound minimum number exclude include ((origin, entry.Rule texts) ∷ list) h = by (nat_le texts.row.priority minimum) (kept_sound minimum number exclude include list h.1)
  where
    by : (b : Bool) → SoundRules (filter_map (kept_rule minimum number exclude include) list) → SoundRules (cons_option (cond {A = Option EffectiveRule} b (Some (rule_of number exclude include texts)) None) (filter_map (kept_rule minimum number exclude include) list))
    by true rest = (h.0, rest)
    by false rest = rest
kept_sound minimum number exclude include ((origin, entry.Unusable unusable) ∷ list) h = kept_sound minimum number exclude include list h.1

from_sound : (files : Files) (paths : List Text) (tops : List TopRules) (minimum number : ℕ) → AreTops files paths tops → SoundRules (rules_from minimum number tops)
from_sound files paths tops minimum number AreTops.none = tt
from_sound files paths tops minimum number (AreTops.more {paths = others} {top = top} {tops = rest} is are) =
    both_sound (rules_of_top minimum number top) (rules_from minimum _ rest) (kept_sound minimum number top.exclude top.include top.list (top_sound files is)) (from_sound files others rest minimum _ are)

pub effective_sound : (files : Files) (paths : List Text) (minimum : ℕ) (marker : Text) (rules : EffectiveRules) → IsEffective files paths minimum marker rules → SoundRules rules.rules
effective_sound files paths minimum marker rules h =
    subst (λ (rs : EffectiveRules). SoundRules rs.rules) (sym h.is) (from_sound files paths h.tops minimum 0 h.are_tops)
