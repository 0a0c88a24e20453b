-- The sets of characters that the lexical grammar of Java names. A character is its code point.
use Rattle.std.specs.Prelude.{ℕ, Bool, true, ◌==◌, ◌||◌, ◌&&◌, not, nat_le}
use Rattle.unicode_ident.specs.Ident.{is_xid_start, is_xid_continue}

-- between two codes, both included
abbrev pub is_between : ℕ → ℕ → ℕ → Bool
is_between low high c = nat_le low c && nat_le c high

-- JLS 3.4: line feed or carriage return; the pair of both is a carriage return with a line feed behind it
abbrev pub is_line_end : ℕ → Bool
is_line_end c = (c == 10) || (c == 13)

-- JLS 3.6: white space but line ends: space, tab and form feed
abbrev pub is_blank : ℕ → Bool
is_blank c = (c == 32) || (c == 9) || (c == 12)

-- JLS 3.6: white space
abbrev pub is_white : ℕ → Bool
is_white c = is_blank c || is_line_end c

-- JLS 3.8, with XID start in place of the JLS's letters: an identifier begins with one of these, _ or $
abbrev pub starts_name : ℕ → Bool
starts_name c = is_xid_start c || (c == 95) || (c == 36)

-- and goes on with these, _ or $
abbrev pub continues_name : ℕ → Bool
continues_name c = is_xid_continue c || (c == 95) || (c == 36)

abbrev pub is_digit : ℕ → Bool
is_digit c = is_between 48 57 c

abbrev pub is_octal_digit : ℕ → Bool
is_octal_digit c = is_between 48 55 c

-- JLS 3.10.7: b s t n f r " ' \
abbrev pub is_escape_letter : ℕ → Bool
is_escape_letter c = (c == 98) || (c == 115) || (c == 116) || (c == 110) || (c == 102) || (c == 114) || (c == 34) || (c == 39) || (c == 92)

pub data CharSet : Type 0 where
  -- the ASCII character with this code: beyond ASCII the grammar names no single character
  The : ℕ → CharSet
  JavaLetter : CharSet
  JavaLetterOrDigit : CharSet
  Digit : CharSet
  NonZeroDigit : CharSet
  HexDigit : CharSet
  OctalDigit : CharSet
  BinaryDigit : CharSet
  ZeroToThree : CharSet
  -- l L
  IntegerSuffix : CharSet
  -- f F d D
  FloatSuffix : CharSet
  -- x X
  HexMark : CharSet
  -- b B
  BinaryMark : CharSet
  -- e E
  ExponentMark : CharSet
  -- p P
  BinaryExponentMark : CharSet
  -- + -
  SignMark : CharSet
  LineEnd : CharSet
  -- JLS 3.4: any character but a line end
  InputCharacter : CharSet
  -- JLS 3.10.4: any input character but ' and \
  SingleCharacter : CharSet
  -- JLS 3.10.5: any input character but " and \ (escapes are apart)
  StringCharacter : CharSet
  -- JLS 3.10.6: any character but " and \, line ends included (escapes are apart)
  TextBlockCharacter : CharSet
  TextBlockWhiteSpace : CharSet
  EscapeLetter : CharSet
  -- an input character that follows the backslash of no escape of a character literal
  NotEscape : CharSet
  -- JLS 3.7: any character but *
  NotStar : CharSet
  -- any character but * and /
  NotStarNotSlash : CharSet
  AnyCharacter : CharSet

abbrev pub holds : CharSet → ℕ → Bool
holds (The n) c = nat_le n 127 && (c == n)
holds JavaLetter c = starts_name c
holds JavaLetterOrDigit c = continues_name c
holds Digit c = is_digit c
holds NonZeroDigit c = is_between 49 57 c
holds HexDigit c = is_digit c || is_between 65 70 c || is_between 97 102 c
holds OctalDigit c = is_octal_digit c
holds BinaryDigit c = (c == 48) || (c == 49)
holds ZeroToThree c = is_between 48 51 c
holds IntegerSuffix c = (c == 108) || (c == 76)
holds FloatSuffix c = (c == 102) || (c == 70) || (c == 100) || (c == 68)
holds HexMark c = (c == 120) || (c == 88)
holds BinaryMark c = (c == 98) || (c == 66)
holds ExponentMark c = (c == 101) || (c == 69)
holds BinaryExponentMark c = (c == 112) || (c == 80)
holds SignMark c = (c == 43) || (c == 45)
holds LineEnd c = is_line_end c
holds InputCharacter c = not (is_line_end c)
holds SingleCharacter c = not (is_line_end c) && not (c == 39) && not (c == 92)
holds StringCharacter c = not (is_line_end c) && not (c == 34) && not (c == 92)
holds TextBlockCharacter c = not (c == 34) && not (c == 92)
holds TextBlockWhiteSpace c = is_blank c
holds EscapeLetter c = is_escape_letter c
holds NotEscape c = not (is_line_end c) && not (is_escape_letter c) && not (is_octal_digit c)
holds NotStar c = not (c == 42)
holds NotStarNotSlash c = not (c == 42) && not (c == 47)
holds AnyCharacter c = true
