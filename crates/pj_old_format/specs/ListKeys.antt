-- The key of a list of rules in format 1: texts one after the other, each behind the number of its bytes.
use Rattle.std.specs.Prelude.{◌^◌, ℕ, Bool, not, ◌==◌, ◌&&◌, ◌||◌, List, [], ◌∷◌, ◌++◌, length, flat_map, nat_lt, slice_index}
use Rattle.std.specs.Str.{is_utf8, all_ascii_digits}
use Rattle.std.specs.Str.Parse.{digits_value}
use Rattle.pj_format.specs.Format.{Format, Done, ◌>>=◌, Spells}
use Rattle.pj_format.specs.Fields.{sized_as, several}
use Rattle.pj_cache_format.specs.Judges.{passing}
use Rattle.pj_cache_format.specs.Texts.{string}

abbrev pub Text : Type 0
Text = List ℕ

-- Numbers.

-- decimal digits, one at least, without a zero before others
abbrev pub is_number : Text → Bool
is_number digits = is_utf8 digits && (all_ascii_digits digits && (nat_lt 0 (length digits) && (length digits == 1 || not (slice_index digits 0 == 48))))

abbrev pub value_of : Text → ℕ
value_of digits = digits_value 10 digits

-- the number of a top ruleset, which has 32 bits
abbrev pub is_top : Text → Bool
is_top digits = is_number digits && nat_lt (value_of digits) (2 ^ 32)

-- a priority, one digit from 1 to 5
abbrev pub is_priority : Text → Bool
is_priority digits = length digits == 1 && (nat_lt 48 (slice_index digits 0) && nat_lt (slice_index digits 0) 54)

-- Formats, whose values are the bytes themselves.

-- a text that passes a test, behind the number of its bytes
unfoldable pub tested : (Text → Bool) → Format (List ℕ)
tested test = do
  words ← sized_as (passing test)
  Done (string words)

-- one behind another
infixr 10 ◌followed_by◌
unfoldable pub ◌followed_by◌ : Format (List ℕ) → Format (List ℕ) → Format (List ℕ)
m followed_by n = do
  front ← m
  more ← n
  Done (front ++ more)

-- so many members, one behind another
unfoldable pub members : Format (List ℕ) → ℕ → Format (List ℕ)
members item count = do
  parts ← several item count
  Done (flat_map (λ (part : List ℕ). part) parts)

-- a number, and as many members as it tells
unfoldable pub listed : Format (List ℕ) → Format (List ℕ)
listed item = do
  count ← sized_as (passing is_number)
  all ← members item (value_of count)
  Done (string count ++ all)

-- texts that pass tests, one behind another
unfoldable pub all_tested : List (Text → Bool) → Format (List ℕ)
all_tested [] = Done []
all_tested (test ∷ tests) = tested test followed_by all_tested tests

-- Rules.

-- a text
abbrev pub word_tests : List (Text → Bool)
word_tests = is_utf8 ∷ []

-- name, type and value of a property
abbrev pub property_tests : List (Text → Bool)
property_tests = is_utf8 ∷ is_utf8 ∷ is_utf8 ∷ []

-- the number of a rule's top ruleset, its name, ruleset, message, priority and query
abbrev pub rule_tests : List (Text → Bool)
rule_tests = is_top ∷ is_utf8 ∷ is_utf8 ∷ is_utf8 ∷ is_priority ∷ is_utf8 ∷ []

-- these, the properties, the exclude patterns and the include patterns
unfoldable pub rule : Format (List ℕ)
rule = all_tested rule_tests followed_by (listed (all_tested property_tests) followed_by (listed (all_tested word_tests) followed_by listed (all_tested word_tests)))

-- the marker, and the rules
unfoldable pub list_key : Format (List ℕ)
list_key = all_tested word_tests followed_by listed rule

-- Bytes are the key of a list of rules: they spell themselves.
abbrev pub IsListKey : List ℕ → Type 0
IsListKey bytes = Spells list_key bytes bytes
