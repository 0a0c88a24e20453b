-- Words of modifiers, one modifier after the other.
use Rattle.std.proofs.Common.{◌≡◌, ℕ, ◌+◌, ◌<◌, List, [], ◌∷◌, ◌++◌, length, get_or, take, true, false, cond, sym, ap, ◌∙◌, append-nil}
use Rattle.std.specs.Prelude.{filter, map}
use Rattle.std.proofs.lemmas.List.{take_more, map-append}
use Rattle.std.proofs.lemmas.List.Elements.{filter-append}
use Rattle.pj_xvalue.specs.Items.{String, value_of_item, values_of}
use Rattle.pj_xvalue.specs.Modifiers.{has}
use Rattle.pj_xvalue.specs.declared.item.Item.{Item}
use Rattle.pj_xvalue.specs.declared.modifiers.Modifier.{Modifier}
use Rattle.pj_xvalue.specs.declared.modifiers.Modifiers.{Modifiers}
use Rattle.pj_node_functions.specs.ModifierWords.{word_of, words_among}

more : (set : Modifiers) (modifiers : List Modifier) (i : ℕ) (m : Modifier) → i < length modifiers → m ≡ get_or modifiers i m
    → words_among set (take (i + 1) modifiers) ≡ words_among set (take i modifiers) ++ words_among set (m ∷ [])
more set modifiers i m below is =
    ap (words_among set) (take_more modifiers i m below ∙ ap (λ x. take i modifiers ++ x ∷ []) (sym is))
    ∙ ap (map (λ modifier. String (word_of modifier))) (filter-append (has set) (take i modifiers) (m ∷ []))
    ∙ map-append (λ modifier. String (word_of modifier)) (filter (has set) (take i modifiers)) (filter (has set) (m ∷ []))

-- one that is in the set
pub with_word : (set : Modifiers) (modifiers : List Modifier) (i : ℕ) (m : Modifier) (old new : List Item) (word : Item) → i < length modifiers → m ≡ get_or modifiers i m → has set m ≡ true
    → value_of_item word ≡ String (word_of m) → new ≡ old ++ word ∷ [] → values_of old ≡ words_among set (take i modifiers) → values_of new ≡ words_among set (take (i + 1) modifiers)
with_word set modifiers i m old new word below is has_it says put so_far =
    ap values_of put ∙ map-append value_of_item old (word ∷ []) ∙ (λ k. so_far k ++ says k ∷ [])
    ∙ ap (λ b. words_among set (take i modifiers) ++ map (λ modifier. String (word_of modifier)) (cond b (m ∷ []) [])) (sym has_it) ∙ sym (more set modifiers i m below is)

-- one that is not
pub without_word : (set : Modifiers) (modifiers : List Modifier) (i : ℕ) (m : Modifier) (words : List Item) → i < length modifiers → m ≡ get_or modifiers i m → has set m ≡ false
    → values_of words ≡ words_among set (take i modifiers) → values_of words ≡ words_among set (take (i + 1) modifiers)
without_word set modifiers i m words below is has_not so_far =
    so_far ∙ sym (append-nil (words_among set (take i modifiers)))
    ∙ ap (λ b. words_among set (take i modifiers) ++ map (λ modifier. String (word_of modifier)) (cond b (m ∷ []) [])) (sym has_not) ∙ sym (more set modifiers i m below is)
