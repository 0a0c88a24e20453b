-- What is left of normalizing white space behind a front.
use Rattle.std.proofs.Common.{◌≡◌, ℕ, ◌<◌, arith, Bool, true, false, cond, not, ◌&&◌, List, [], ◌∷◌, ◌++◌, length, filter, refl, sym, ap, ◌∙◌, append_assoc, append-nil, encode_utf8}
use Rattle.std.proofs.Math.Dec.{eqb-suc-zero}
use Rattle.std.proofs.lemmas.Str.{length-encode, len_utf8_bounds}
use Rattle.std.specs.List.{flat_map, onto_first, slice_split}
use Rattle.std.specs.Str.{encode_utf8_all, chars}
use Rattle.pj_rule_texts.specs.Values.{is_empty, is_space, normalized, spaced}
use Rattle.pj_rule_texts.specs.Spaces.{put_word_character}

-- the characters that are still to come, where some stand before them or none, and white space behind these or none
abbrev pub collapse : Bool → Bool → List ℕ → List ℕ
collapse started gap [] = []
collapse started gap (c ∷ cs) = cond (is_space c) (collapse started true cs)
    (cond (gap && started) (32 ∷ c ∷ collapse true false cs) (c ∷ collapse true false cs))

abbrev is_word : List ℕ → Bool
is_word w = not (is_empty w)

-- words, each behind a space
abbrev each_spaced : List (List ℕ) → List ℕ
each_spaced ws = flat_map (λ w. 32 ∷ w) (filter is_word ws)

-- a first part that goes on a word, and further words
abbrev going_on : List (List ℕ) → List ℕ
going_on [] = []
going_on (w ∷ ws) = w ++ each_spaced ws

abbrev from_start : List (List ℕ) → List ℕ
from_start ws = spaced (filter is_word ws)

going_on-first : (c : ℕ) (ws : List (List ℕ)) → going_on (onto_first c ws) ≡ c ∷ going_on ws
going_on-first c [] = refl
going_on-first c (w ∷ ws) = refl

each_spaced-first : (c : ℕ) (ws : List (List ℕ)) → each_spaced (onto_first c ws) ≡ 32 ∷ c ∷ going_on ws
each_spaced-first c [] = refl
each_spaced-first c (w ∷ ws) = refl

from_start-first : (c : ℕ) (ws : List (List ℕ)) → from_start (onto_first c ws) ≡ c ∷ going_on ws
from_start-first c [] = refl
from_start-first c (w ∷ ws) = refl

abbrev parts : List ℕ → List (List ℕ)
parts cs = slice_split is_space cs

goes_on-with : (c : ℕ) (cs : List ℕ) (b : Bool) → is_space c ≡ b → collapse true false cs ≡ going_on (parts cs) → collapse true true cs ≡ each_spaced (parts cs) →
    collapse true false (c ∷ cs) ≡ going_on (parts (c ∷ cs))
goes_on-with c cs true e on spaces = rw e spaces
goes_on-with c cs false e on spaces = rw e (ap (λ t. c ∷ t) on ∙ sym (going_on-first c (parts cs)))

spaces-with : (c : ℕ) (cs : List ℕ) (b : Bool) → is_space c ≡ b → collapse true false cs ≡ going_on (parts cs) → collapse true true cs ≡ each_spaced (parts cs) →
    collapse true true (c ∷ cs) ≡ each_spaced (parts (c ∷ cs))
spaces-with c cs true e on spaces = rw e spaces
spaces-with c cs false e on spaces = rw e (ap (λ t. 32 ∷ c ∷ t) on ∙ sym (each_spaced-first c (parts cs)))

behind_word : (cs : List ℕ) → (collapse true false cs ≡ going_on (parts cs)) × (collapse true true cs ≡ each_spaced (parts cs))
behind_word [] = (refl, refl)
behind_word (c ∷ cs) = (goes_on-with c cs (is_space c) refl (behind_word cs).0 (behind_word cs).1, spaces-with c cs (is_space c) refl (behind_word cs).0 (behind_word cs).1)

no_gap : (gap : Bool) (more : List ℕ) (c : ℕ) → cond (gap && false) (32 ∷ c ∷ more) (c ∷ more) ≡ c ∷ more
no_gap true more c = refl
no_gap false more c = refl

begins-with : (gap : Bool) (c : ℕ) (cs : List ℕ) (b : Bool) → is_space c ≡ b → collapse false true cs ≡ from_start (parts cs) → collapse false gap (c ∷ cs) ≡ from_start (parts (c ∷ cs))
begins-with gap c cs true e spaces = rw e spaces
begins-with gap c cs false e spaces = rw e (no_gap gap (collapse true false cs) c ∙ ap (λ t. c ∷ t) (behind_word cs).0 ∙ sym (from_start-first c (parts cs)))

begins : (gap : Bool) (cs : List ℕ) → collapse false gap cs ≡ from_start (parts cs)
begins gap [] = refl
begins gap (c ∷ cs) = begins-with gap c cs (is_space c) refl (begins true cs)

-- the whole text is still to come
pub all_to_come : (text : List ℕ) → normalized text ≡ encode_utf8_all (collapse false false (chars text))
all_to_come text = sym (ap encode_utf8_all (begins false (chars text)))

-- what is made, and what is to come behind it
abbrev pub whole : List ℕ → Bool → List ℕ → List ℕ
whole made gap cs = made ++ encode_utf8_all (collapse (not (is_empty made)) gap cs)

pub whole-space : (made : List ℕ) (gap : Bool) (c : ℕ) (cs : List ℕ) → is_space c ≡ true → whole made gap (c ∷ cs) ≡ whole made true cs
whole-space made gap c cs e = rw e refl

some : (xs : List ℕ) → 0 < length xs → is_empty xs ≡ false
some [] h = absurd (omega (arith, h))
some (x ∷ xs) h = refl

some-encode : (c : ℕ) → is_empty (encode_utf8 c) ≡ false
some-encode c = some (encode_utf8 c) (omega (arith, length-encode c, (len_utf8_bounds c).0))

-- a word's character at the front of the text
at_front : (gap : Bool) (c : ℕ) (cs : List ℕ) → is_space c ≡ false → whole [] gap (c ∷ cs) ≡ whole ([] ++ put_word_character [] gap c) false cs
at_front true c cs e = rw (e, some-encode c) refl
at_front false c cs e = rw (e, some-encode c) refl

-- and behind some text
behind_text : (x : ℕ) (xs : List ℕ) (gap : Bool) (c : ℕ) (cs : List ℕ) → is_space c ≡ false →
    whole (x ∷ xs) gap (c ∷ cs) ≡ whole ((x ∷ xs) ++ put_word_character (x ∷ xs) gap c) false cs
unfolding lib.Utf8.encode
behind_text x xs true c cs e = rw (e, eqb-suc-zero (length xs)) (sym (append_assoc (x ∷ xs) (32 ∷ encode_utf8 c) (encode_utf8_all (collapse true false cs))))
behind_text x xs false c cs e = rw e (sym (append_assoc (x ∷ xs) (encode_utf8 c) (encode_utf8_all (collapse true false cs))))

pub whole-word : (made : List ℕ) (gap : Bool) (c : ℕ) (cs : List ℕ) → is_space c ≡ false →
    whole made gap (c ∷ cs) ≡ whole (made ++ put_word_character made gap c) false cs
whole-word [] gap c cs e = at_front gap c cs e
whole-word (x ∷ xs) gap c cs e = behind_text x xs gap c cs e

pub whole-end : (made : List ℕ) (gap : Bool) → whole made gap [] ≡ made
whole-end made gap = append-nil made
