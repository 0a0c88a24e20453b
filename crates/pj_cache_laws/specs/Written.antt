-- All rules that can be written, and what they are at files.
use Rattle.std.specs.Prelude.{◌≡◌, List, map}
use Rattle.std.specs.List.{All}
use Rattle.pj_fitting.specs.Right.{Files}
use Rattle.pj_parse.specs.FileOutcome.{outcome_of}
use Rattle.pj_rule_keys.specs.Keys.{FitsKey, HasRoom, key_of}
use Rattle.pj_rule_sets.specs.Rules.{EffectiveRule, EffectiveRules}
use Rattle.pj_rule_texts.specs.Values.{Text}
use Rattle.pj_outside.specs.Files.{Bytes}
use Rattle.pj_workers.specs.FileMeaning.{Replies, head_of, rule_meaning}
use Rattle.pj_workers.specs.Rules.{IsRuleOf, Rule, is_active}

-- A rule that can be written: its texts and the marker of its list, for which a key has room, and the expressions that they spell.
pub record WrittenRule : Type 0 where
  pub marker : Text
  pub effective : EffectiveRule
  pub rule : Rule
  pub is : IsRuleOf marker effective rule
  pub marker_room : HasRoom marker
  pub fits : FitsKey effective

-- These are files as they are: the head of their bytes, and all written rules with their keys, where they are active, and what they mean,
-- where the functions of PMD reply so.
pub record AreFiles (replies : Replies) (files : Files WrittenRule) : Type 0 where
  pub head : (bytes : Bytes) → files.head bytes ≡ head_of (outcome_of bytes)
  pub key : (w : WrittenRule) → files.key w ≡ key_of w.marker w.effective
  pub active : (path : Bytes) (w : WrittenRule) → files.is_active path w ≡ is_active w.rule.source path
  pub meaning : (path bytes : Bytes) (w : WrittenRule) → files.meaning path bytes w ≡ rule_meaning replies path bytes w.rule

-- These written rules are the rules of a set, with the expressions that its texts spell, in their order.
pub record AreWrittenRules (set : EffectiveRules) (meant : List Rule) (held : List WrittenRule) : Type 0 where
  pub rules : map (λ (w : WrittenRule). w.rule) held ≡ meant
  pub effective : map (λ (w : WrittenRule). w.effective) held ≡ set.rules
  pub marker : All (λ (w : WrittenRule). w.marker ≡ set.marker) held
