-- The key of a list of rules is a key of format 1 of caches.
use Rattle.std.proofs.Common.{◌≡◌, ◌^◌, ◌<◌, ℕ, List, [], ◌∷◌, ◌++◌, length, map, refl, sym, ap, subst, ◌∙◌}
use Rattle.std.specs.Prelude.{flat_map}
use Rattle.std.specs.List.{AllByRecursion, All}
use Rattle.std.specs.Fmt.{decimal}
use Rattle.std.specs.Str.{is_utf8}
use Rattle.std.proofs.lemmas.List.Concat.{flat_map-append, flat_map-cons}
use Rattle.std.proofs.lemmas.List.Elements.{recursion_from_All}
use Rattle.pj_old_format.specs.ListKeys.{IsListKey, property_tests, rule, rule_tests}
use Rattle.pj_old_format.proofs.KeyLaws.{joined}
use Rattle.pj_old_format.proofs.KeySpelling.{Itself, Pass, Passes, is_priority_of, is_top_of, list_bytes, list_key_itself, lists_bytes, number_room, rule_itself, word_bytes}
use Rattle.pj_rule_texts.specs.Values.{Text}
use Rattle.pj_rule_texts.specs.declared.properties.Property.{Property}
use Rattle.pj_rule_sets.specs.Rules.{EffectiveRule}
use Rattle.pj_rule_keys.specs.Keys.{FitListKey, FitsProperty, FitsTopKey, HasRoom, list_key_of, list_texts, property_texts, rule_texts, spelled}
use Rattle.pj_rule_keys.specs.OldTexts.{HasOldTexts, HasWords, IsWords}

-- ---- the bytes of texts

-- those of members, one after the other
of_members : {A : Type 0} (f : A → List Text) (xs : List A) → flat_map spelled (flat_map f xs) ≡ joined (map (λ x. flat_map spelled (f x)) xs)
of_members f [] = refl
of_members f (x ∷ xs) =
    ap (λ (l : List Text). flat_map spelled l) (flat_map-cons f x xs)
    ∙ flat_map-append spelled (f x) (flat_map f xs)
    ∙ ap (λ (l : List ℕ). flat_map spelled (f x) ++ l) (of_members f xs)
    ∙ sym (flat_map-cons (λ (part : List ℕ). part) (flat_map spelled (f x)) (map (λ y. flat_map spelled (f y)) xs))

of_words : (texts : List Text) → flat_map spelled texts ≡ joined (map word_bytes texts)
of_words [] = refl
of_words (text ∷ texts) =
    flat_map-append spelled (text ∷ []) texts
    ∙ ap (λ (l : List ℕ). word_bytes text ++ l) (of_words texts)
    ∙ sym (flat_map-cons (λ (part : List ℕ). part) (word_bytes text) (map word_bytes texts))

-- those behind a number
counted : (n : ℕ) (texts : List Text) (bytes : List ℕ) → flat_map spelled texts ≡ bytes → flat_map spelled (decimal n ∷ texts) ≡ spelled (decimal n) ++ bytes
counted n texts bytes e = flat_map-cons spelled (decimal n) texts ∙ ap (λ (l : List ℕ). spelled (decimal n) ++ l) e

abbrev heads : EffectiveRule → List Text
heads r = decimal r.top ∷ r.row.name ∷ r.row.rule_set ∷ r.row.message ∷ decimal r.row.priority ∷ r.xpath ∷ []

abbrev top_texts : EffectiveRule → List Text
top_texts r = decimal r.top ∷ rule_texts r

abbrev rule_bytes : EffectiveRule → List ℕ
rule_bytes r = flat_map spelled (top_texts r)

of_lists : (r : EffectiveRule) → flat_map spelled (list_texts r) ≡ lists_bytes property_texts r.properties r.exclude r.include
of_lists r =
    let properties = decimal (length r.properties) ∷ flat_map property_texts r.properties in
    let exclude = decimal (length r.exclude) ∷ r.exclude in
    let include = decimal (length r.include) ∷ r.include in
    let first : flat_map spelled properties ≡ list_bytes (λ p. flat_map spelled (property_texts p)) r.properties =
    counted (length r.properties) (flat_map property_texts r.properties) (joined (map (λ p. flat_map spelled (property_texts p)) r.properties)) (of_members property_texts r.properties) in
    let second : flat_map spelled exclude ≡ list_bytes word_bytes r.exclude = counted (length r.exclude) r.exclude (joined (map word_bytes r.exclude)) (of_words r.exclude) in
    let third : flat_map spelled include ≡ list_bytes word_bytes r.include = counted (length r.include) r.include (joined (map word_bytes r.include)) (of_words r.include) in
    flat_map-append spelled properties (exclude ++ include) ∙ (λ i. first i ++ (flat_map-append spelled exclude include ∙ (λ j. second j ++ third j)) i)

of_rule : (r : EffectiveRule) → rule_bytes r ≡ flat_map spelled (heads r) ++ lists_bytes property_texts r.properties r.exclude r.include
of_rule r = flat_map-append spelled (heads r) (list_texts r) ∙ ap (λ (l : List ℕ). flat_map spelled (heads r) ++ l) (of_lists r)

of_list : (marker : Text) (rules : List EffectiveRule) → list_key_of marker rules ≡ word_bytes marker ++ list_bytes rule_bytes rules
of_list marker rules =
    flat_map-append spelled (marker ∷ []) (decimal (length rules) ∷ flat_map top_texts rules)
    ∙ ap (λ (l : List ℕ). word_bytes marker ++ l) (counted (length rules) (flat_map top_texts rules) (joined (map rule_bytes rules)) (of_members top_texts rules))

-- ---- texts pass their tests

words_pass : (texts : List Text) → AllByRecursion HasRoom texts → AllByRecursion IsWords texts → AllByRecursion (Passes is_utf8) texts
words_pass [] room words = tt
words_pass (text ∷ texts) room words = ((room.0, words.0), words_pass texts room.1 words.1)

properties_pass : (ps : List Property) → AllByRecursion FitsProperty ps → AllByRecursion HasWords ps → AllByRecursion (λ p. Pass property_tests (property_texts p)) ps
properties_pass [] room words = tt
properties_pass (p ∷ ps) room words = (((room.0.0, words.0.0), ((room.0.1, words.0.1), ((room.0.2, words.0.2), tt))), properties_pass ps room.1 words.1)

one_rule : (r : EffectiveRule) → FitsTopKey r → HasOldTexts r → Itself rule (rule_bytes r)
one_rule r fits has =
    let key = fits.1 in
    let passes : Pass rule_tests (heads r) = (
      (number_room r.top fits.0, is_top_of r.top has.top),
      (
        (key.name, has.name),
        (
          (key.rule_set, has.rule_set),
          (
            (key.message, has.message),
            (
              (number_room r.row.priority key.priority, is_priority_of r.row.priority has.some_priority has.priority),
              ((key.xpath, has.xpath), tt),
            ),
          ),
        ),
      ),
    ) in
    subst (λ (l : List ℕ). Itself rule l) (sym (of_rule r))
    (rule_itself property_texts (heads r) r.properties r.exclude r.include passes
    (key.property_count, properties_pass r.properties (recursion_from_All FitsProperty r.properties key.properties) (recursion_from_All HasWords r.properties has.properties))
    (key.exclude_count, words_pass r.exclude (recursion_from_All HasRoom r.exclude key.exclude) (recursion_from_All IsWords r.exclude has.exclude))
    (key.include_count, words_pass r.include (recursion_from_All HasRoom r.include key.include) (recursion_from_All IsWords r.include has.include)))

all_rules : (rules : List EffectiveRule) → AllByRecursion FitsTopKey rules → AllByRecursion HasOldTexts rules → AllByRecursion (λ r. Itself rule (rule_bytes r)) rules
all_rules [] fit have = tt
all_rules (r ∷ rs) fit have = (one_rule r fit.0 have.0, all_rules rs fit.1 have.1)

pub list_key_is_old : (marker : Text) (rules : List EffectiveRule) → HasRoom marker → IsWords marker → FitListKey rules → All HasOldTexts rules → IsListKey (list_key_of marker rules)
list_key_is_old marker rules room words fit have =
    subst IsListKey (sym (of_list marker rules))
    (list_key_itself rule_bytes marker rules (room, words) fit.0 (all_rules rules (recursion_from_All FitsTopKey rules fit.1) (recursion_from_All HasOldTexts rules have)))
