-- Words over bytes and over characters.
use Rattle.std.proofs.Common.{◌≡◌, ℕ, List, [], ◌∷◌, Bool, true, false, cond, codes, Some, None, sym, refl, ap, ◌∙◌, ⊎_elim}
use Rattle.std.specs.List.{list_all}
use Rattle.std.specs.Str.{chars, IsUtf8, IsAscii}
use Rattle.std.proofs.lemmas.Bool.{false≢true, both_ways, and_parts, and_from, cases_Bool, eq-eqb, eqb-true, ltb-true}
use Rattle.std.proofs.lemmas.Str.{encodes-chars, encodes-IsAscii, chars-IsAscii}
use Rattle.std.proofs.lemmas.Str.Ascii.{IsAscii-nil, IsAscii-cons}
use Rattle.std.specs.Prelude.{map}
use Rattle.pj_xgrammar.specs.declared.word.Word.{Word}
use lib.Dec.{ltb}
use lib.Utf8.{encodes}
use Rattle.pj_xgrammar.specs.Terminals.{name_behind}
use Rattle.pj_xgrammar.specs.declared.terminal.Behind.TheVariants as b
use Rattle.pj_xgrammar.specs.Words.{same}

same_is : (t w : List ℕ) → same t w ≡ true → t ≡ w
same_is [] [] h = refl
same_is [] (d ∷ ds) h = absurd (false≢true h)
same_is (c ∷ cs) [] h = absurd (false≢true h)
same_is (c ∷ cs) (d ∷ ds) h = let a = and_parts _ _ h in (λ i. eqb-true c d a.0 i ∷ same_is cs ds a.1 i)

same_self : (t : List ℕ) → same t t ≡ true
same_self [] = refl
same_self (c ∷ cs) = and_from _ _ (eq-eqb c c refl) (same_self cs)

pub same_false : (t w : List ℕ) → (w ≡ t → ⊥) → same t w ≡ false
same_false t w ne = ⊎_elim (λ (h : same t w ≡ true). absurd (ne (sym (same_is t w h)))) (λ (h : same t w ≡ false). h) (cases_Bool (same t w))

-- ---- characters and bytes

abbrev is_small : List ℕ → Bool
is_small t = list_all (λ c. ltb c 128) t

ascii_from_small : (t : List ℕ) → is_small t ≡ true → IsAscii t
ascii_from_small [] h = IsAscii-nil
ascii_from_small (c ∷ cs) h = let a = and_parts _ _ h in IsAscii-cons c cs (ltb-true _ _ a.0) (ascii_from_small cs a.1)

same_chars : (t w : List ℕ) → is_small t ≡ true → IsUtf8 w → same t (chars w) ≡ same t w
same_chars t w small u =
    let ascii = ascii_from_small t small in
    ⊎_elim
    (λ (h : same t w ≡ true). ap (same t) (ap chars (sym (same_is t w h)) ∙ chars-IsAscii t ascii) ∙ same_self t ∙ sym h)
    (λ (h : same t w ≡ false). same_false t (chars w) (λ e. both_ways (same t w) h (ap (same t) (sym (encodes-chars w u) ∙ ap encodes e ∙ encodes-IsAscii t ascii) ∙ same_self t)) ∙ sym h)
    (cases_Bool (same t w))

pub row_chars : (rows : List (List ℕ × Word)) → list_all (λ r. is_small r.0) rows ≡ true → map (λ r. (chars r.0, r.1)) rows ≡ rows
row_chars [] h = refl
row_chars (r ∷ rs) h = let a = and_parts _ _ h in λ i. (chars-IsAscii r.0 (ascii_from_small r.0 a.0) i, r.1) ∷ row_chars rs a.1 i

-- ---- what a name is for the token before it

same_when : (t w : List ℕ) → is_small t ≡ true → IsUtf8 w → w ≡ t → same t (chars w) ≡ true
same_when t w small u is = same_chars t w small u ∙ ap (same t) is ∙ same_self t

same_unless : (t w : List ℕ) → is_small t ≡ true → IsUtf8 w → (w ≡ t → ⊥) → same t (chars w) ≡ false
same_unless t w small u ne = same_chars t w small u ∙ same_false t w ne

first_is : (w : List ℕ) → same (codes "as") (chars w) ≡ true → b.As ≡ name_behind (chars w)
first_is w h = sym (ap (λ t. cond t b.As (cond (same (codes "of") (chars w)) b.Of b.Name)) h)

first_is_not : (w : List ℕ) → same (codes "as") (chars w) ≡ false → cond (same (codes "of") (chars w)) b.Of b.Name ≡ name_behind (chars w)
first_is_not w h = sym (ap (λ t. cond t b.As (cond (same (codes "of") (chars w)) b.Of b.Name)) h)

pub behind_as : (w : List ℕ) → IsUtf8 w → w ≡ codes "as" → b.As ≡ name_behind (chars w)
behind_as w u is = first_is w (same_when (codes "as") w refl u is)

pub behind_of_word : (w : List ℕ) → IsUtf8 w → (w ≡ codes "as" → ⊥) → w ≡ codes "of" → b.Of ≡ name_behind (chars w)
behind_of_word w u ne is = sym (ap (λ t. cond t b.Of b.Name) (same_when (codes "of") w refl u is)) ∙ first_is_not w (same_unless (codes "as") w refl u ne)

pub behind_name : (w : List ℕ) → IsUtf8 w → (w ≡ codes "as" → ⊥) → (w ≡ codes "of" → ⊥) → b.Name ≡ name_behind (chars w)
behind_name w u ne nf = sym (ap (λ t. cond t b.Of b.Name) (same_unless (codes "of") w refl u nf)) ∙ first_is_not w (same_unless (codes "as") w refl u ne)
