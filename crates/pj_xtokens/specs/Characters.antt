-- The sets of characters that the grammar of tokens names, and which characters they have. A character is its code point.
use Rattle.std.specs.Prelude.{ℕ, Bool, false, ◌==◌, ◌||◌, ◌&&◌, not, nat_le, List, [], ◌∷◌}
pub use Rattle.pj_xtokens.specs.declared.characters.CharSet.{CharSet}
pub use Rattle.pj_xtokens.specs.declared.characters.CharSet.TheVariants.{The, NameStart, NameCharacter, Digit, ExponentMark, PlusOrMinus, NotQuote, NotApostrophe}

-- between two codes, both included
abbrev pub is_between : ℕ → ℕ → ℕ → Bool
is_between low high c = nat_le low c && nat_le c high

-- XML 1.0, 2.3: white space, which is space, tab, line feed and carriage return
abbrev pub is_white : ℕ → Bool
is_white c = (c == 32) || (c == 9) || (c == 10) || (c == 13)

-- XML 1.0, 2.3, but the colon: NameStartChar. A name without a prefix begins with one of these (Namespaces in XML 1.0, 3)
abbrev pub starts_name : ℕ → Bool
starts_name c =
    is_between 65 90 c || (c == 95) || is_between 97 122 c || is_between 0xC0 0xD6 c || is_between 0xD8 0xF6 c || is_between 0xF8 0x2FF c || is_between 0x370 0x37D c
    || is_between 0x37F 0x1FFF c || is_between 0x200C 0x200D c || is_between 0x2070 0x218F c || is_between 0x2C00 0x2FEF c || is_between 0x3001 0xD7FF c
    || is_between 0xF900 0xFDCF c || is_between 0xFDF0 0xFFFD c || is_between 0x10000 0xEFFFF c

abbrev pub is_digit : ℕ → Bool
is_digit c = is_between 48 57 c

-- XML 1.0, 2.3, but the colon: NameChar, with which a name goes on: also - and . and digits
abbrev pub continues_name : ℕ → Bool
continues_name c =
    starts_name c || (c == 45) || (c == 46) || is_digit c || (c == 0xB7) || is_between 0x300 0x36F c || is_between 0x203F 0x2040 c

-- the first character, where there is one, passes the test
abbrev pub heads : (ℕ → Bool) → List ℕ → Bool
heads p [] = false
heads p (c ∷ cs) = p c

-- whether the set has the character
abbrev pub holds : CharSet → ℕ → Bool
holds (The n) c = nat_le n 127 && (c == n)
holds NameStart c = starts_name c
holds NameCharacter c = continues_name c
holds Digit c = is_digit c
holds ExponentMark c = (c == 101) || (c == 69)
holds PlusOrMinus c = (c == 43) || (c == 45)
holds NotQuote c = not (c == 34)
holds NotApostrophe c = not (c == 39)
