-- Literals are read again.
use Rattle.std.proofs.Common.{◌≡◌, ◌∙◌, ℕ, ℤ, pos, negsuc, ◌+◌, ◌-◌, ◌*◌, ◌<◌, ◌^◌, Bool, true, false, cond, List, [], ◌∷◌, ◌++◌, Option, Some, None, codes, refl, sym, ap, arith, append_assoc}
use Rattle.std.specs.Prelude.{◌==◌, ◌&&◌, nat_lt}
use Rattle.std.specs.Fmt.{decimal}
use Rattle.std.specs.Char.{digit_value}
use Rattle.std.specs.Str.{IsUtf8, chars, encode_utf8_all}
use Rattle.std.specs.Str.Parse.{AllDigits, digits_value_after}
use Rattle.std.proofs.lemmas.Bool.{eqb-true, lt-ltb, le-ltb, and_from, and_parts}
use Rattle.std.proofs.lemmas.Fmt.{decimal_is_IsNumeral, IsAscii-decimal}
use Rattle.std.proofs.lemmas.Str.{encodes-IsAscii, encodes-chars, chars-encodes, scalars-chars}
use Rattle.std.proofs.lemmas.Str.Parse.{digit_from_value}
use lib.Utf8.{encode, scalar, scalars}
use Rattle.pj_xsyntax_laws.specs.Spaced.{written, doubled, literal}
use Rattle.pj_xtokens.specs.Literals.{number_from, if_it_fits, integer_of, unquoted, characters_of, string_of}
use Rattle.pj_xreadings.specs.Spelled.{IsInteger}
use Rattle.pj_xsyntax_laws.specs.Printed.{integer_text}

-- ---- integers

digit_is : (d : ℕ) → digit_value d < 10 → digit_value d ≡ d - 48
digit_is d h =
    let range = digit_from_value d h in
    ap (λ c. cond c 36 (cond (nat_lt d 58) (d - 48) (cond (nat_lt d 65) 36 (cond (nat_lt d 91) (d - 55) (cond (nat_lt d 97) 36 (cond (nat_lt d 123) (d - 87) 36)))))) (le-ltb d 48 range.0)
    ∙ ap (λ c. cond c (d - 48) (cond (nat_lt d 65) 36 (cond (nat_lt d 91) (d - 55) (cond (nat_lt d 97) 36 (cond (nat_lt d 123) (d - 87) 36))))) (lt-ltb d 58 (omega (arith, range.1)))

number_is : (before : ℕ) (ds : List ℕ) → AllDigits 10 ds → number_from before ds ≡ digits_value_after 10 before ds
number_is before [] h = refl
number_is before (d ∷ ds) h = ap (λ n. number_from (before * 10 + n) ds) (sym (digit_is d h.0)) ∙ number_is (before * 10 + digit_value d) ds h.1

integer_is : (n : ℕ) → n < 2 ^ 63 → integer_of (encode_utf8_all (decimal n)) ≡ Some (pos n)
unfolding integer_of
integer_is n h =
    let wide : n < 2 ^ 64 = omega (arith, h) in
    let numeral = decimal_is_IsNumeral n wide in
    ap (λ ds. if_it_fits (number_from 0 ds)) (encodes-IsAscii (decimal n) (IsAscii-decimal n wide))
    ∙ ap if_it_fits (number_is 0 (decimal n) numeral.0.1 ∙ numeral.1)
    ∙ ap (λ c. cond c (Some (pos n)) None) (lt-ltb n (2 ^ 63) h)

too_large : integer_of (encode_utf8_all (codes "9223372036854775808")) ≡ None
unfolding integer_of encode
too_large = refl

pub integer_again : (value : Option ℤ) → IsInteger value → integer_of (encode_utf8_all (integer_text value)) ≡ value
integer_again (Some (pos n)) h = integer_is n h
integer_again (Some (negsuc n)) h = absurd h
integer_again None h = too_large

-- ---- strings

quoted_character : (c : ℕ) (is_quote : Bool) → (c == 34) ≡ is_quote → (rest : List ℕ) → unquoted 34 false (cond is_quote (34 ∷ 34 ∷ []) (c ∷ []) ++ rest) ≡ c ∷ unquoted 34 false rest
quoted_character c true e rest = ap (λ d. d ∷ unquoted 34 false rest) (sym (eqb-true c 34 e))
quoted_character c false e rest = ap (λ left_out. cond left_out [] (c ∷ []) ++ unquoted 34 left_out rest) (ap (λ q. q && true) e)

unquoted_again : (cs : List ℕ) → unquoted 34 false (doubled cs ++ 34 ∷ []) ≡ cs
unquoted_again [] = refl
unquoted_again (c ∷ cs) =
    ap (λ (l : List ℕ). unquoted 34 false l) (append_assoc (written c) (doubled cs) (34 ∷ []))
    ∙ quoted_character c (c == 34) refl (doubled cs ++ 34 ∷ []) ∙ ap (λ l. c ∷ l) (unquoted_again cs)

written_scalars : (c : ℕ) (is_quote : Bool) (rest : List ℕ) → scalar c ≡ true → scalars rest ≡ true → scalars (cond is_quote (34 ∷ 34 ∷ []) (c ∷ []) ++ rest) ≡ true
written_scalars c true rest h g = g
written_scalars c false rest h g = and_from (scalar c) (scalars rest) h g

doubled_scalars : (cs : List ℕ) → scalars cs ≡ true → scalars (doubled cs ++ 34 ∷ []) ≡ true
doubled_scalars [] h = refl
doubled_scalars (c ∷ cs) h =
    let parts = and_parts (scalar c) (scalars cs) h in
    ap scalars (append_assoc (written c) (doubled cs) (34 ∷ [])) ∙ written_scalars c (c == 34) (doubled cs ++ 34 ∷ []) parts.0 (doubled_scalars cs parts.1)

pub string_again : (text : List ℕ) → IsUtf8 text → string_of (encode_utf8_all (literal (chars text))) ≡ text
string_again text h =
    ap (λ (l : List ℕ). encode_utf8_all (characters_of l)) (chars-encodes (literal (chars text)) (doubled_scalars (chars text) (scalars-chars text h)))
    ∙ ap encode_utf8_all (unquoted_again (chars text)) ∙ encodes-chars text h
