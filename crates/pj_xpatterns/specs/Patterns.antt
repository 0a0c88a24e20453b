-- Functions of strings that use a pattern (XPath Functions and Operators, 7.6), in the grammar of `regex`.
use Rattle.std.specs.Prelude.{ℕ, Bool, ◌||◌, List, [], map, length, Option, Some, None, Result, Ok, Err, ◌==◌, if◌then◌else◌}
use Rattle.std.specs.List.{list_any}
use Rattle.pj_xvalue.specs.declared.fault.XCode.{XCode}
use Rattle.pj_xvalue.specs.declared.fault.XCode.TheVariants.{FORX0003, XPTY0004}
use Rattle.pj_xvalue.specs.Items.{ItemValue, String}
use Rattle.pj_xpatterns.specs.declared.flags.PatternFlags.{PatternFlags}
use Rattle.pj_xpatterns.specs.Meaning.{Pattern, flags_of, no_flags, has, is_found, pieces_between, with_replaced}
use Rattle.pj_xvalue.specs.Arguments.{Text, and_then, optional_string, string, one, truth}

abbrev pub flags_or_code : Option PatternFlags → Result PatternFlags XCode
flags_or_code (Some flags) = Ok flags
flags_or_code None = Err XPTY0004

-- The flags of a call (7.6.1.1): a string of the letters `i`, `m` and `s`, and none where the argument is not there.
abbrev pub flags_in : Option (List ItemValue) → Result PatternFlags XCode
flags_in None = Ok no_flags
flags_in (Some items) = and_then (string items) (λ text. flags_or_code (flags_of text))

-- the pattern, which is one of those that the library has
abbrev pub known : List Pattern → Pattern → Result Pattern XCode
known patterns pattern = if has patterns pattern then Ok pattern else Err XPTY0004

-- the pattern, which is not found in the empty string
abbrev pub never_empty : Pattern → Result Pattern XCode
never_empty pattern = if is_found pattern [] then Err FORX0003 else Ok pattern

-- `matches` (7.6.2): the pattern is found anywhere
abbrev pub matches : List Pattern → List ItemValue → List ItemValue → Option (List ItemValue) → Result (List ItemValue) XCode
matches patterns text pattern flags = and_then (optional_string text) (λ t. and_then (string pattern) (λ p. and_then (flags_in flags) (λ f. and_then (known patterns (p, f)) (λ found. truth (is_found found t)))))

-- a replacement has no `$` and no `\`
abbrev pub is_mark : ℕ → Bool
is_mark byte = byte == 36 || byte == 92

abbrev pub plain : Text → Result Text XCode
plain text = if list_any is_mark text then Err XPTY0004 else Ok text

-- `replace` (7.6.3): another text in the place of each of the pattern's matches
abbrev pub replace : List Pattern → List ItemValue → List ItemValue → List ItemValue → Option (List ItemValue) → Result (List ItemValue) XCode
replace patterns text pattern replacement flags = and_then (optional_string text) (λ t. and_then (string pattern) (λ p. and_then (and_then (string replacement) plain) (λ by. and_then (flags_in flags) (λ f. and_then (and_then (known patterns (p, f)) never_empty) (λ found. one (String (with_replaced found by t)))))))

-- the pieces between the matches, and nothing of the empty string
abbrev pub tokens : Pattern → Text → List ItemValue
tokens pattern text = if length text == 0 then [] else map String (pieces_between pattern text)

-- `tokenize` (7.6.4)
abbrev pub tokenize : List Pattern → List ItemValue → List ItemValue → Option (List ItemValue) → Result (List ItemValue) XCode
tokenize patterns text pattern flags = and_then (optional_string text) (λ t. and_then (string pattern) (λ p. and_then (flags_in flags) (λ f. and_then (and_then (known patterns (p, f)) never_empty) (λ found. Ok (tokens found t)))))
