-- Contextual words over bytes and over characters.
use Rattle.std.proofs.Common.{◌≡◌, ℕ, List, [], ◌∷◌, Bool, true, false, cond, Some, None, sym, refl, ap, ◌∙◌, ⊎_elim}
use Rattle.std.specs.List.{list_all}
use Rattle.std.specs.Str.{chars, IsUtf8, IsAscii}
use Rattle.std.proofs.lemmas.Bool.{false≢true, both_ways, and_parts, and_from, cases_Bool, eq-eqb, eqb-true, ltb-true}
use Rattle.std.proofs.lemmas.Str.{encodes-chars, encodes-IsAscii, chars-IsAscii}
use Rattle.std.proofs.lemmas.Str.Ascii.{IsAscii-nil, IsAscii-cons}
use lib.Dec.{ltb}
use lib.Utf8.{encodes}
use Rattle.pj_lex.specs.Words.{same}
use Rattle.pj_grammar.specs.Terminal.{WordEntry, contextual_words, word_in, word_of}

same_is : (t w : List ℕ) → same t w ≡ true → t ≡ w
same_is [] [] h = refl
same_is [] (d ∷ ds) h = absurd (false≢true h)
same_is (c ∷ cs) [] h = absurd (false≢true h)
same_is (c ∷ cs) (d ∷ ds) h = let a = and_parts _ _ h in (λ i. eqb-true c d a.0 i ∷ same_is cs ds a.1 i)

same_self : (t : List ℕ) → same t t ≡ true
same_self [] = refl
same_self (c ∷ cs) = and_from _ _ (eq-eqb c c refl) (same_self cs)

pub same_false : (t w : List ℕ) → (w ≡ t → ⊥) → same t w ≡ false
same_false t w ne = ⊎_elim (λ (h : same t w ≡ true). absurd (ne (sym (same_is t w h)))) (λ (h : same t w ≡ false). h) (cases_Bool (same t w))

-- a word that is none of a table
pub data IsNone (w : List ℕ) : List WordEntry → Type 0 where
  none : IsNone w []
  other : (e : WordEntry) (es : List WordEntry) → same e.text w ≡ false → IsNone w es → IsNone w (e ∷ es)

absent : (w : List ℕ) (es : List WordEntry) → IsNone w es → word_in es w ≡ None
absent w _ none = refl
absent w _ (other e es h n) = ap (λ b. cond b (Some e.word) (word_in es w)) h ∙ absent w es n

-- ---- characters and bytes

abbrev is_small : List ℕ → Bool
is_small t = list_all (λ c. ltb c 128) t

ascii_from_small : (t : List ℕ) → is_small t ≡ true → IsAscii t
ascii_from_small [] h = IsAscii-nil
ascii_from_small (c ∷ cs) h = let a = and_parts _ _ h in IsAscii-cons c cs (ltb-true _ _ a.0) (ascii_from_small cs a.1)

same_chars : (t w : List ℕ) → is_small t ≡ true → IsUtf8 w → same t (chars w) ≡ same t w
same_chars t w small u =
    let ascii = ascii_from_small t small in
    ⊎_elim
    (λ (h : same t w ≡ true). ap (same t) (ap chars (sym (same_is t w h)) ∙ chars-IsAscii t ascii) ∙ same_self t ∙ sym h)
    (λ (h : same t w ≡ false). same_false t (chars w) (λ e. both_ways (same t w) h (ap (same t) (sym (encodes-chars w u) ∙ ap encodes e ∙ encodes-IsAscii t ascii) ∙ same_self t)) ∙ sym h)
    (cases_Bool (same t w))

word_in_chars : (es : List WordEntry) (w : List ℕ) → list_all (λ e. is_small e.text) es ≡ true → IsUtf8 w → word_in es (chars w) ≡ word_in es w
word_in_chars [] w h u = refl
word_in_chars (e ∷ es) w h u =
    let a = and_parts _ _ h in
    λ i. cond (same_chars e.text w a.0 u i) (Some e.word) (word_in_chars es w a.1 u i)

word_of_chars : (w : List ℕ) → IsUtf8 w → word_of (chars w) ≡ word_of w
word_of_chars w u = word_in_chars contextual_words w refl u

-- the word of a text that is one of them, and of one that is none
pub word_is : (w t : List ℕ) → IsUtf8 w → w ≡ t → word_of t ≡ word_of (chars w)
word_is w t u is = ap word_of (sym is) ∙ sym (word_of_chars w u)

pub no_word : (w : List ℕ) → IsUtf8 w → IsNone w contextual_words → None ≡ word_of (chars w)
no_word w u n = sym (word_of_chars w u ∙ absent w contextual_words n)
