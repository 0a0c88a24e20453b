-- What is kept of a rule makes one of the rules that its texts spell.
use Rattle.std.proofs.Common.{◌≡◌, ◌+◌, ◌<◌, ◌++◌, ◌∙◌, ℕ, List, [], ◌∷◌, Option, None, Some, ap, get_or, length, refl, subst, sym, take}
use Rattle.std.specs.List.{AllZip}
use Rattle.std.specs.Option.{option_map}
use Rattle.std.proofs.lemmas.List.{take_more}
use Rattle.std.proofs.lemmas.Slice.Zip.{all_zipped_more}
use Rattle.pj_rule_sets.specs.Expressions.{AreOf, Both, HasPatterns, IsKept, IsSpelledBy, names_of, variables_of}
use Rattle.pj_rule_sets.specs.Patterns.{suppression_of}
use Rattle.pj_rule_sets.specs.declared.expressions.RuleExpressions.{RuleExpressions}
use Rattle.pj_rule_sets.specs.declared.spelled.Spelled.{Spelled}
use Rattle.pj_rule_sets.specs.Rules.{EffectiveRule, texts_of}
use Rattle.pj_rule_texts.specs.Values.{Text}
use Rattle.pj_rule_texts.specs.declared.rule.RuleTexts.{RuleTexts}
use Rattle.pj_workers.specs.Rules.{IsRuleOf, Rule}
use Rattle.pj_workers.specs.Views.{HasItsPatterns, with_expressions}

both_spelled : (texts : RuleTexts) (o : Option Text) (kept : Option Spelled) → Both o kept (IsKept texts) → Both o (option_map (λ (s : Spelled). s.expr) kept) (IsSpelledBy (names_of texts))
both_spelled texts None None h = tt
both_spelled texts None (Some s) h = absurd h
both_spelled texts (Some text) None h = absurd h
both_spelled texts (Some text) (Some s) h = h.parsed.spells

pub kept_rule : (marker : Text) (effective : EffectiveRule) (kept : RuleExpressions) → AreOf (texts_of effective) kept → IsRuleOf marker effective (with_expressions marker effective kept)
kept_rule marker effective kept h = record {
  source = refl;
  spelled = record { query_spelled = h.query.parsed.spells; suppression_spelled = both_spelled (texts_of effective) (suppression_of (texts_of effective)) kept.suppression h.suppression };
}

both_patterns : (texts : RuleTexts) (o : Option Text) (kept : Option Spelled) → Both o kept (IsKept texts) → (s : Spelled) → kept ≡ Some s → HasPatterns (variables_of texts) s
both_patterns texts None None h s is = absurd (cc)
both_patterns texts None (Some k) h s is = absurd h
both_patterns texts (Some text) None h s is = absurd h
both_patterns texts (Some text) (Some k) h s is =
    let same : k ≡ s = cc in
    subst (λ (t : Spelled). HasPatterns (variables_of texts) t) same h.patterns

pub kept_patterns : (effective : EffectiveRule) (kept : RuleExpressions) → AreOf (texts_of effective) kept → HasItsPatterns effective kept
kept_patterns effective kept h = record {
  query = h.query.patterns;
  suppression = both_patterns (texts_of effective) (suppression_of (texts_of effective)) kept.suppression h.suppression;
}

-- ---- the rules of a set

abbrev pub HaveRules : Text → List EffectiveRule → Type 0
HaveRules marker effective = (meant : List Rule) × AllZip (IsRuleOf marker) effective meant

pub one_more_rule : (marker : Text) (all : List EffectiveRule) (i : ℕ) (effective : EffectiveRule) (kept : RuleExpressions) → i < length all → effective ≡ get_or all i effective
    → AreOf (texts_of effective) kept → HaveRules marker (take i all) → HaveRules marker (take (i + 1) all)
one_more_rule marker all i effective kept below is of before =
    let rule = with_expressions marker effective kept in (
      before.0 ++ rule ∷ [],
      subst (λ (l : List EffectiveRule). AllZip (IsRuleOf marker) l (before.0 ++ rule ∷ [])) longer
          (all_zipped_more (IsRuleOf marker) (take i all) before.0 effective rule before.1 (kept_rule marker effective kept of)),
    )
  where
    longer : take i all ++ effective ∷ [] ≡ take (i + 1) all
    longer = ap (λ e. take i all ++ e ∷ []) is ∙ sym (take_more all i effective below)
