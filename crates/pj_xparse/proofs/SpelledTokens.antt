-- The names and strings that tokens spell.
use Rattle.std.proofs.Common.{◌≡◌, ℕ, suc, ◌<◌, ◌^◌, pos, Bool, true, false, List, [], ◌∷◌, ◌++◌, Some, None, refl, sym, ap, subst}
use Rattle.std.specs.Prelude.{◌&&◌, cond, nat_lt}
use Rattle.std.specs.Str.{IsUtf8, chars, encode_utf8_all, all_scalars}
use Rattle.std.specs.Char.{IsScalar}
use Rattle.std.proofs.lemmas.Bool.{and_from, leb-true}
use Rattle.std.proofs.lemmas.Str.{chars-encodes}
use Rattle.pj_xtokens.specs.Rules.{Spells}
use Rattle.pj_xtokens.specs.Tokens.{Lexed}
use Rattle.pj_xtokens.specs.declared.token.TokenKind.{TokenKind}
use Rattle.pj_xtokens.specs.declared.token.TokenKind.TheVariants as kind
use Rattle.pj_xtokens.specs.Literals.{unquoted, kept, is_left_out, characters_of, string_of, number_from, integer_of}
use Rattle.pj_xreadings.specs.Spelled.{IsText, IsName, IsInteger}
use Rattle.pj_xparse.specs.WellSpelled.{IsWellSpelled}

text_of : (cs : List ℕ) → all_scalars cs ≡ true → IsText (encode_utf8_all cs)
text_of cs h =
    let utf8 : IsUtf8 (encode_utf8_all cs) = (cs, (h, refl)) in
    let read : encode_utf8_all (chars (encode_utf8_all cs)) ≡ encode_utf8_all cs = ap encode_utf8_all (chars-encodes cs h) in
    assumption (utf8, read)

pub name_of : (x : Lexed) → IsWellSpelled x → x.kind ≡ kind.Name → IsName (encode_utf8_all x.text)
name_of x h is = (text_of x.text h.characters, subst (λ (l : List ℕ). Spells kind.Name l) (sym (chars-encodes x.text h.characters)) (subst (λ (k : TokenKind). Spells k x.text) is h.spells))

pub both : (a b : Bool) → (a && b) ≡ true → (a ≡ true) × (b ≡ true)
both true b e = (refl, e)
both false b e = absurd (let z = e in cc)

pub scalars_parts : (c : ℕ) (cs : List ℕ) → all_scalars (c ∷ cs) ≡ true → IsScalar c × (all_scalars cs ≡ true)
scalars_parts c cs h = both _ _ h

pub scalars_join : (c : ℕ) (cs : List ℕ) → IsScalar c → all_scalars cs ≡ true → all_scalars (c ∷ cs) ≡ true
scalars_join c cs h g = and_from _ _ h g

kept_scalars : (left_out : Bool) (c : ℕ) (cs : List ℕ) → IsScalar c → all_scalars cs ≡ true → all_scalars (kept left_out c ++ cs) ≡ true
kept_scalars true c cs h g = g
kept_scalars false c cs h g = scalars_join c cs h g

unquoted_scalars : (mark : ℕ) (half : Bool) (cs : List ℕ) → all_scalars cs ≡ true → all_scalars (unquoted mark half cs) ≡ true
unquoted_scalars mark half [] h = refl
unquoted_scalars mark half (c ∷ cs) h =
    let (here, more) = scalars_parts c cs h in
    kept_scalars (is_left_out mark half c) c (unquoted mark (is_left_out mark half c) cs) here (unquoted_scalars mark (is_left_out mark half c) cs more)

characters_scalars : (cs : List ℕ) → all_scalars cs ≡ true → all_scalars (characters_of cs) ≡ true
characters_scalars [] h = refl
characters_scalars (mark ∷ cs) h = unquoted_scalars mark false cs (scalars_parts mark cs h).1

pub string_text : (x : Lexed) → IsWellSpelled x → IsText (string_of (encode_utf8_all x.text))
string_text x h = text_of (characters_of (chars (encode_utf8_all x.text))) (characters_scalars (chars (encode_utf8_all x.text)) (subst (λ (l : List ℕ). all_scalars l ≡ true) (sym (chars-encodes x.text h.characters)) h.characters))

fitting : (n : ℕ) (b : Bool) → (b ≡ true → n < 2 ^ 63) → IsInteger (cond b (Some (pos n)) None)
fitting n true h = h refl
fitting n false h = tt

-- the value of digits is an integer of 64 bits, or none
pub integer_spelled : (digits : List ℕ) → IsInteger (integer_of digits)
unfolding integer_of
integer_spelled digits = fitting (number_from 0 digits) (nat_lt (number_from 0 digits) (2 ^ 63)) (λ e. leb-true (suc (number_from 0 digits)) (2 ^ 63) e)
