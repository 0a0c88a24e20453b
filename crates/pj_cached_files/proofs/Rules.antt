-- The rules of a set, and the written rules that they are.
use Rattle.std.proofs.Common.{◌≡◌, ◌∙◌, Bool, true, false, List, [], ◌∷◌, ap, filter, map, refl, subst, sym}
use Rattle.std.specs.Prelude.{if◌then◌else◌}
use Rattle.std.specs.List.{All, AllByRecursion, AllZip}
use Rattle.std.proofs.lemmas.List.Elements.{recursion_from_All}
use Rattle.pj_cache_laws.specs.Written.{AreFiles, AreWrittenRules, WrittenRule}
use Rattle.pj_cached_files.specs.Asked.{active_keys_of, activity, keys_of_set}
use Rattle.pj_fitting.specs.Left.{active_keys}
use Rattle.pj_fitting.specs.Right.{Files, Key, rules_at}
use Rattle.pj_left_cache.specs.Missing.{keys_of_active}
use Rattle.pj_outside.specs.Files.{Bytes}
use Rattle.pj_rule_keys.specs.Keys.{key_of}
use Rattle.pj_rule_sets.specs.Active.{is_active}
use Rattle.pj_rule_sets.specs.Rules.{EffectiveRule, EffectiveRules}
use Rattle.pj_rule_texts.specs.Values.{Text}
use Rattle.pj_workers.specs.JavaReplies.{java_replies}
use Rattle.pj_workers.specs.Rules.{AreRulesOf, IsRuleOf, Rule, is_active as is_active_there}

module _ (files : Files WrittenRule) (are : AreFiles java_replies files) (marker : Text) where
  -- ---- keys

  own_key : (w : WrittenRule) → w.marker ≡ marker → files.key w ≡ key_of marker w.effective
  own_key w is = are.key w ∙ ap (λ m. key_of m w.effective) is

  own_keys : (held : List WrittenRule) → AllByRecursion (λ (w : WrittenRule). w.marker ≡ marker) held
      → map files.key held ≡ map (λ (rule : EffectiveRule). key_of marker rule) (map (λ (w : WrittenRule). w.effective) held)
  own_keys [] h = refl
  own_keys (w ∷ held) h = λ i. own_key w h.0 i ∷ own_keys held h.1 i

  -- ---- those of active rules

  own_activity : (path : Bytes) (w : WrittenRule) → files.is_active path w ≡ is_active w.effective path
  own_activity path w = are.active path w ∙ ap (λ s. is_active_there s path) w.is.source

  own_activities : (path : Bytes) (held : List WrittenRule) → map (files.is_active path) held ≡ map (λ (rule : EffectiveRule). is_active rule path) (map (λ (w : WrittenRule). w.effective) held)
  own_activities path [] = refl
  own_activities path (w ∷ held) = λ i. own_activity path w i ∷ own_activities path held i

  one_active : (a b : Bool) (w : WrittenRule) (key : Key) (held : List WrittenRule) (keys : List Key) → a ≡ b → files.key w ≡ key → map files.key held ≡ keys
      → map files.key (if a then w ∷ held else held) ≡ (if b then key ∷ keys else keys)
  one_active true true w key held keys same own rest = λ i. own i ∷ rest i
  one_active false false w key held keys same own rest = rest
  one_active true false w key held keys same own rest = absurd cc
  one_active false true w key held keys same own rest = absurd cc

  own_active : (path : Bytes) (held : List WrittenRule) → AllByRecursion (λ (w : WrittenRule). w.marker ≡ marker) held
      → map files.key (filter (files.is_active path) held)
      ≡ keys_of_active (map (λ (rule : EffectiveRule). key_of marker rule) (map (λ (w : WrittenRule). w.effective) held)) (map (λ (rule : EffectiveRule). is_active rule path) (map (λ (w : WrittenRule). w.effective) held))
  own_active path [] h = refl
  own_active path (w ∷ held) h = one_active (files.is_active path w) (is_active w.effective path) w (key_of marker w.effective) (filter (files.is_active path) held) _ (own_activity path w) (own_key w h.0) (own_active path held h.1)

module _ (files : Files WrittenRule) (are : AreFiles java_replies files) (set : EffectiveRules) (rules : List Rule) (held : List WrittenRule) (written : AreWrittenRules set rules held) where
  pub keys_are : map files.key held ≡ keys_of_set set
  keys_are = own_keys files are set.marker held (recursion_from_All (λ (w : WrittenRule). w.marker ≡ set.marker) held written.marker) ∙ ap (λ (l : List EffectiveRule). map (λ (rule : EffectiveRule). key_of set.marker rule) l) written.effective

  pub active_keys_are : (path bytes : Bytes) → active_keys (rules_at files path bytes) held ≡ active_keys_of set path
  active_keys_are path bytes = own_active files are set.marker path held (recursion_from_All (λ (w : WrittenRule). w.marker ≡ set.marker) held written.marker)
      ∙ ap (λ (l : List EffectiveRule). keys_of_active (map (λ (rule : EffectiveRule). key_of set.marker rule) l) (map (λ (rule : EffectiveRule). is_active rule path) l)) written.effective

  pub activity_are : (path : Bytes) → map (files.is_active path) held ≡ activity set path
  activity_are path = own_activities files are set.marker path held ∙ ap (λ (l : List EffectiveRule). map (λ (rule : EffectiveRule). is_active rule path) l) written.effective

-- ---- the rules that they are

rules_from : (marker : Text) (held : List WrittenRule) → AllByRecursion (λ (w : WrittenRule). w.marker ≡ marker) held → AllZip (IsRuleOf marker) (map (λ (w : WrittenRule). w.effective) held) (map (λ (w : WrittenRule). w.rule) held)
rules_from marker [] all = tt
rules_from marker (w ∷ held) all = (subst (λ (m : Text). IsRuleOf m w.effective w.rule) all.0 w.is, rules_from marker held all.1)

-- written rules of a set are its rules
pub are_rules : (set : EffectiveRules) (rules : List Rule) (held : List WrittenRule) → AreWrittenRules set rules held → AreRulesOf set rules
are_rules set rules held written =
    subst (λ (l : List EffectiveRule). AllZip (IsRuleOf set.marker) l rules) written.effective
    (subst (λ (l : List Rule). AllZip (IsRuleOf set.marker) (map (λ (w : WrittenRule). w.effective) held) l) written.rules
    (rules_from set.marker held (recursion_from_All (λ (w : WrittenRule). w.marker ≡ set.marker) held written.marker)))
