-- Functions of strings (XPath Functions and Operators, 7.4 and 7.5). A string is a list of characters, that is of code points.
use Rattle.std.specs.Prelude.{ℕ, suc, ◌+◌, pos, Bool, true, false, ◌||◌, List, [], ◌∷◌, map, length, take, drop, flat_map, filter, position, Option, Some, None, Result, nat_eq, ◌==◌, is_some, option_map, option_to_list, slice_get, if◌then◌else◌, chars, encode_utf8_all}
use Rattle.std.specs.List.{starts_with, ends_with, slice_split, join_with_byte}
use Rattle.std.specs.Option.{option_map_or}
use Rattle.std.specs.Char.{to_ascii_uppercase, to_ascii_lowercase}
use Rattle.pj_xvalue.specs.declared.fault.XCode.{XCode}
use Rattle.pj_xvalue.specs.Items.{ItemValue, String, Integer}
use Rattle.pj_xvalue.specs.Arguments.{Text, and_then, optional_string, string, integer, one, truth}
use Rattle.pj_xfuncs.specs.Sequences.{at_places, is_from, is_within}

abbrev pub Characters : Type 0
Characters = List ℕ

-- the characters of a text, which is in UTF-8, and the text of some characters
abbrev pub characters : Text → Characters
characters text = chars text

abbrev pub spelled : Characters → Result (List ItemValue) XCode
spelled characters = one (String (encode_utf8_all characters))

-- ---- parts

-- the first place at which a part stands, counted from 0
abbrev pub place_of : Characters → Characters → Option ℕ
place_of part [] = if starts_with nat_eq [] part then Some 0 else None
place_of part (c ∷ cs) = if starts_with nat_eq (c ∷ cs) part then Some 0 else option_map suc (place_of part cs)

-- the characters before the first occurrence of a part, and those behind it: none where it does not occur
abbrev pub before : Characters → Characters → Characters
before text part = option_map_or (λ place. take place text) (place_of part text) []

abbrev pub behind : Characters → Characters → Characters
behind text part = option_map_or (λ place. drop (place + length part) text) (place_of part text) []

-- a test of two strings
abbrev pub tested : (Characters → Characters → Bool) → List ItemValue → List ItemValue → Result (List ItemValue) XCode
tested test text part = and_then (optional_string text) (λ t. and_then (optional_string part) (λ p. truth (test (characters t) (characters p))))

-- `contains` (7.5.1)
abbrev pub contains : List ItemValue → List ItemValue → Result (List ItemValue) XCode
contains = tested (λ text part. is_some (place_of part text))

-- `starts-with` (7.5.2)
abbrev pub starts : List ItemValue → List ItemValue → Result (List ItemValue) XCode
starts = tested (λ text part. starts_with nat_eq text part)

-- `ends-with` (7.5.3)
abbrev pub ends : List ItemValue → List ItemValue → Result (List ItemValue) XCode
ends = tested (λ text part. ends_with nat_eq text part)

-- a part of a string that another string determines
abbrev pub cut : (Characters → Characters → Characters) → List ItemValue → List ItemValue → Result (List ItemValue) XCode
cut part_of text part = and_then (optional_string text) (λ t. and_then (optional_string part) (λ p. spelled (part_of (characters t) (characters p))))

-- `substring-before` (7.5.4)
abbrev pub substring_before : List ItemValue → List ItemValue → Result (List ItemValue) XCode
substring_before = cut before

-- `substring-after` (7.5.5)
abbrev pub substring_after : List ItemValue → List ItemValue → Result (List ItemValue) XCode
substring_after = cut behind

-- `substring` of two arguments (7.4.3): the characters at the places from one on
abbrev pub substring_from : List ItemValue → List ItemValue → Result (List ItemValue) XCode
substring_from text start = and_then (optional_string text) (λ t. and_then (integer start) (λ first. spelled (at_places (is_from first) (characters t))))

-- `substring` with a length
abbrev pub substring : List ItemValue → List ItemValue → List ItemValue → Result (List ItemValue) XCode
substring text start length = and_then (optional_string text) (λ t. and_then (integer start) (λ first. and_then (integer length) (λ number. spelled (at_places (is_within first number) (characters t)))))

-- ---- the whole string

-- `string-length` of an argument (7.4.4)
abbrev pub string_length : List ItemValue → Result (List ItemValue) XCode
string_length text = and_then (optional_string text) (λ t. one (Integer (pos (length (characters t)))))

-- white space of XML: a space, a tab, a line feed and a carriage return
abbrev pub is_space : ℕ → Bool
is_space c = c == 32 || (c == 9 || (c == 10 || c == 13))

abbrev pub is_word : Characters → Bool
is_word [] = false
is_word (c ∷ cs) = true

-- the characters between white space
abbrev pub words : Characters → List Characters
words text = filter is_word (slice_split is_space text)

-- `normalize-space` of an argument (7.4.5): the words with one space between each two
abbrev pub normalize_space : List ItemValue → Result (List ItemValue) XCode
normalize_space text = and_then (optional_string text) (λ t. spelled (join_with_byte 32 (words (characters t))))

-- `upper-case` (7.4.7) and `lower-case` (7.4.8), which change the letters of ASCII alone
abbrev pub upper_case : List ItemValue → Result (List ItemValue) XCode
upper_case text = and_then (optional_string text) (λ t. spelled (map to_ascii_uppercase (characters t)))

abbrev pub lower_case : List ItemValue → Result (List ItemValue) XCode
lower_case text = and_then (optional_string text) (λ t. spelled (map to_ascii_lowercase (characters t)))

-- what stands at the place of a character: the character itself where it has no place, and nothing past the end
abbrev pub at_place_in : Characters → ℕ → Option ℕ → Characters
at_place_in to c None = c ∷ []
at_place_in to c (Some place) = option_to_list (slice_get to place)

-- what stands for a character, by its first place in a list
abbrev pub other_of : Characters → Characters → ℕ → Characters
other_of from to c = at_place_in to c (position (nat_eq c) from)

-- `translate` (7.4.9): each character of the second string by the one at its place in the third, or by none
abbrev pub translate : List ItemValue → List ItemValue → List ItemValue → Result (List ItemValue) XCode
translate text from to = and_then (optional_string text) (λ t. and_then (string from) (λ f. and_then (string to) (λ o. spelled (flat_map (other_of (characters f) (characters o)) (characters t)))))
