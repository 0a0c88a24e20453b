-- Tables of words over bytes and over characters.
use Rattle.std.proofs.Common.{◌≡◌, ℕ, List, [], ◌∷◌, Bool, true, false, cond, Some, None, sym, refl, ap, ◌∙◌, ⊎_elim}
use Rattle.std.specs.Prelude.{◌&&◌, Option, map, nat_eq}
use Rattle.std.specs.Cmp.Lexicographic.{pointwise}
use Rattle.std.specs.List.{list_all}
use Rattle.std.specs.Str.{chars, IsUtf8, IsAscii}
use Rattle.std.proofs.lemmas.Bool.{false≢true, both_ways, and_parts, and_from, cases_Bool, eq-eqb, eqb-true, ltb-true}
use Rattle.std.proofs.lemmas.Str.{encodes-chars, encodes-IsAscii, chars-IsAscii}
use Rattle.std.proofs.lemmas.Str.Ascii.{IsAscii-nil, IsAscii-cons}
use lib.Dec.{ltb}
use lib.Utf8.{encodes}
use Rattle.pj_base.specs.WordTable.{value_in}
use Rattle.pj_lex.specs.declared.token.TokenKind.{TokenKind}
use Rattle.pj_lex.specs.Words.{Entry, same, kind_in, reserved_words, name_kind, or_identifier}

same_is : (t w : List ℕ) → same t w ≡ true → t ≡ w
same_is [] [] h = refl
same_is [] (d ∷ ds) h = absurd (false≢true h)
same_is (c ∷ cs) [] h = absurd (false≢true h)
same_is (c ∷ cs) (d ∷ ds) h = let a = and_parts _ _ h in (λ i. eqb-true c d a.0 i ∷ same_is cs ds a.1 i)

same_true : (t w : List ℕ) → w ≡ t → same t w ≡ true
same_true [] w e = ap (same []) e
same_true (c ∷ cs) w e = ap (same (c ∷ cs)) e ∙ and_from _ _ (eq-eqb c c refl) (same_true cs cs refl)

same_false : (t w : List ℕ) → (w ≡ t → ⊥) → same t w ≡ false
same_false t w ne = ⊎_elim (λ (h : same t w ≡ true). absurd (ne (sym (same_is t w h)))) (λ (h : same t w ≡ false). h) (cases_Bool (same t w))

abbrev pub is_small : List ℕ → Bool
is_small t = list_all (λ c. ltb c 128) t

ascii_from_small : (t : List ℕ) → is_small t ≡ true → IsAscii t
ascii_from_small [] h = IsAscii-nil
ascii_from_small (c ∷ cs) h = let a = and_parts _ _ h in IsAscii-cons c cs (ltb-true _ _ a.0) (ascii_from_small cs a.1)

same_chars : (t w : List ℕ) → is_small t ≡ true → IsUtf8 w → same t (chars w) ≡ same t w
same_chars t w small u =
    let ascii = ascii_from_small t small in
    ⊎_elim
    (λ (h : same t w ≡ true). same_true t (chars w) (ap chars (sym (same_is t w h)) ∙ chars-IsAscii t ascii) ∙ sym h)
    (λ (h : same t w ≡ false). same_false t (chars w) (λ e. both_ways (same t w) h (same_true t w (sym (encodes-chars w u) ∙ ap encodes e ∙ encodes-IsAscii t ascii))) ∙ sym h)
    (cases_Bool (same t w))

kind_in_chars : (es : List Entry) (w : List ℕ) → list_all (λ e. is_small e.text) es ≡ true → IsUtf8 w → kind_in es (chars w) ≡ kind_in es w
kind_in_chars [] w h u = refl
kind_in_chars (e ∷ es) w h u =
    let a = and_parts _ _ h in
    λ i. cond (same_chars e.text w a.0 u i) (Some e.kind) (kind_in_chars es w a.1 u i)

name_kind_chars : (w : List ℕ) → IsUtf8 w → name_kind (chars w) ≡ or_identifier (kind_in reserved_words w)
unfolding name_kind reserved_words
name_kind_chars w u = ap or_identifier (kind_in_chars reserved_words w refl u)

-- texts are compared alike
alike : (t w : List ℕ) → pointwise nat_eq t w ≡ same t w
alike [] [] = refl
alike [] (d ∷ ds) = refl
alike (c ∷ cs) [] = refl
alike (c ∷ cs) (d ∷ ds) = ap (λ b. nat_eq c d && b) (alike cs ds)

in_pairs : (es : List Entry) (w : List ℕ) → value_in (map (λ e. (e.text, e.kind)) es) w ≡ kind_in es w
in_pairs [] w = refl
in_pairs (e ∷ es) w = λ i. cond (alike e.text w i) (Some e.kind) (in_pairs es w i)

-- the kind of a word, by what it has in the table of the reserved words as pairs
pub name_kind_by : (w : List ℕ) → IsUtf8 w → (found : Option TokenKind) → found ≡ value_in (map (λ e. (e.text, e.kind)) reserved_words) w → or_identifier found ≡ name_kind (chars w)
name_kind_by w u found is = ap or_identifier (is ∙ in_pairs reserved_words w) ∙ sym (name_kind_chars w u)
