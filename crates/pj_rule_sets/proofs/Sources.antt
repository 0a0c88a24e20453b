-- Texts with the same message, query and other properties have the same expressions.
use Rattle.std.proofs.Common.{◌≡◌, true, ◌&&◌, List, [], ◌∷◌, Option, Some, None, refl, sym, ap, ap₂, ◌∙◌, subst, true≢false}
use Rattle.std.specs.Cmp.Lexicographic.{pointwise, same_text}
use Rattle.std.proofs.lemmas.Bool.{and_parts}
use Rattle.pj_names.specs.declared.rule_row.RuleRow.{RuleRow}
use Rattle.pj_rule_texts.specs.Values.{Text, is_same}
use Rattle.pj_rule_texts.specs.declared.properties.Property.{Property}
use Rattle.pj_rule_texts.specs.declared.rule.RuleTexts.{RuleTexts}
use Rattle.pj_rule_sets.specs.Expressions.{Both, IsKept}
use Rattle.pj_rule_sets.specs.Patterns.{is_covered_by, suppressing_regex_of, suppression_of}
use Rattle.pj_rule_sets.specs.Usable.{IsUsable, have_same_sources, is_same_property}
use Rattle.pj_rule_sets.specs.declared.expressions.RuleExpressions.{RuleExpressions}
use Rattle.pj_rule_sets.specs.declared.spelled.Spelled.{Spelled}

-- ---- what is the same where the test says so

text_is : (a b : Text) → is_same a b ≡ true → a ≡ b
text_is a b h = same_text a b (sym h)

property_is : (a b : Property) → is_same_property a b ≡ true → a ≡ b
property_is a b h =
    let name = and_parts (is_same a.name b.name) (is_same a.kind b.kind && is_same a.value b.value) h in
    let rest = and_parts (is_same a.kind b.kind) (is_same a.value b.value) name.1 in
    ap (λ n. made n a.kind a.value) (text_is a.name b.name name.0)
    ∙ ap₂ (λ k v. made b.name k v) (text_is a.kind b.kind rest.0) (text_is a.value b.value rest.1)
  where
    made : Text → Text → Text → Property
    made n k v = record { name = n; kind = k; value = v }

properties_are : (xs ys : List Property) → pointwise is_same_property xs ys ≡ true → xs ≡ ys
properties_are [] [] h = refl
properties_are [] (y ∷ ys) h = absurd (true≢false (sym h))
properties_are (x ∷ xs) [] h = absurd (true≢false (sym h))
properties_are (x ∷ xs) (y ∷ ys) h =
    let parts = and_parts (is_same_property x y) (pointwise is_same_property xs ys) h in
    ap₂ (λ p ps. p ∷ ps) (property_is x y parts.0) (properties_are xs ys parts.1)

-- ---- a rule with another name, priority and ruleset

module _ (texts : RuleTexts) (row : RuleRow) (message : texts.row.message ≡ row.message) where
  abbrev renamed : RuleTexts
  renamed = record { row = row; xpath = texts.xpath; properties = texts.properties }

  kept : (text : Text) (spelled : Spelled) → IsKept texts text spelled → IsKept renamed text spelled
  kept text spelled k = record { parsed = k.parsed; patterns = k.patterns }

  both_kept : (text : Option Text) (spelled : Option Spelled) → Both text spelled (IsKept texts) → Both text spelled (IsKept renamed)
  both_kept None None h = h
  both_kept None (Some s) h = h
  both_kept (Some t) None h = h
  both_kept (Some t) (Some s) h = kept t s h

  usable_renamed : (expressions : RuleExpressions) → IsUsable texts expressions → IsUsable renamed expressions
  usable_renamed expressions is = record {
    are_of = record {
      query = kept texts.xpath expressions.query is.are_of.query;
      suppression = both_kept (suppression_of texts) expressions.suppression is.are_of.suppression;
      variables = is.are_of.variables;
      covers = is.are_of.covers ∙ ap (is_covered_by (suppressing_regex_of texts)) message;
    };
    sound = record {
      query = is.sound.query;
      suppression = is.sound.suppression;
      spell = record { query_spelled = is.sound.spell.query_spelled; suppression_spelled = is.sound.spell.suppression_spelled };
      taken = is.sound.taken;
    };
  }

-- The expressions of a rule are those of texts with the same message, query and other properties.
pub usable_same : (old new : RuleTexts) (expressions : RuleExpressions) → have_same_sources old new ≡ true → IsUsable old expressions → IsUsable new expressions
usable_same old new expressions h is =
    let message = and_parts (is_same old.row.message new.row.message) (is_same old.xpath new.xpath && pointwise is_same_property old.properties new.properties) h in
    let rest = and_parts (is_same old.xpath new.xpath) (pointwise is_same_property old.properties new.properties) message.1 in
    subst (λ xpath. IsUsable (made xpath new.properties) expressions) (text_is old.xpath new.xpath rest.0)
    (subst (λ properties. IsUsable (made old.xpath properties) expressions) (properties_are old.properties new.properties rest.1)
    (usable_renamed old new.row (text_is old.row.message new.row.message message.0) expressions is))
  where
    made : Text → List Property → RuleTexts
    made xpath properties = record { row = new.row; xpath = xpath; properties = properties }
