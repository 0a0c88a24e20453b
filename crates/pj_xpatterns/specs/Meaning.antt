-- What a pattern's text means, by the grammar of `regex` and its own word for what is found (XPath Functions and Operators, 7.6).
use Rattle.std.specs.Prelude.{◌≡◌, ◌⊎◌, ◌<◌, ℕ, Bool, true, false, not, ◌&&◌, List, [], ◌∷◌, length, map, slice_range, Option, Some, None, IfSome, chars, is_some, option_map, nat_eq, if◌then◌else◌, codes}
use Rattle.std.specs.List.{list_all, list_any}
use Rattle.std.specs.Cmp.Lexicographic.{pointwise}
use Rattle.std.specs.Option.{option_map_or}
use Rattle.regex.specs.Patterns.{Config, Re, Match, default_config, find_all_str, find_str}
use Rattle.regex.specs.Replace.{replaced_by}
use Rattle.regex.specs.Search.{gaps}
use Rattle.regex_syntax.specs.Grammar.{read}
use Rattle.regex_syntax.specs.Verdict.{default_flags}
use Rattle.pj_xpatterns.specs.declared.flags.PatternFlags.{PatternFlags}

-- a text as the list of its bytes in UTF-8
abbrev pub Text : Type 0
Text = List ℕ

-- a pattern's text with its flags
abbrev pub Pattern : Type 0
Pattern = Text × PatternFlags

-- ---- flags (7.6.1.1), of which there are three: `i`, `m` and `s`

abbrev pub is_flag : ℕ → Bool
is_flag letter = list_any (nat_eq letter) (codes "ims")

abbrev pub has_letter : ℕ → Text → Bool
has_letter letter text = list_any (nat_eq letter) text

-- the flags that a text names, each once or more often, in any order
abbrev pub flags_of : Text → Option PatternFlags
flags_of text = if list_all is_flag text then Some (record { any_case = has_letter 105 text; multi_line = has_letter 109 text; dot_all = has_letter 115 text }) else None

abbrev pub no_flags : PatternFlags
no_flags = record { any_case = false; multi_line = false; dot_all = false }

-- ---- what is found

abbrev pub config_of : PatternFlags → Config
config_of flags = record default_config {
  flags = record default_flags {
    case_insensitive = flags.any_case;
    multi_line = flags.multi_line;
    dot_matches_new_line = flags.dot_all;
  };
}

-- the expression that the grammar reads in the pattern
abbrev pub meaning_of : Pattern → Option Re
meaning_of pattern = option_map (λ read. read.0.value) (read (config_of pattern.1) (chars pattern.0))

-- the text is with its flags no pattern of the grammar, or nests too deep
abbrev pub IsNoPattern : Pattern → Type 0
IsNoPattern pattern = (read (config_of pattern.1) (chars pattern.0) ≡ None)
    ⊎ IfSome (read (config_of pattern.1) (chars pattern.0)) (λ found. (config_of pattern.1).nest_limit < found.0.depth)

-- whether the pattern is found somewhere in the text
abbrev pub is_found : Pattern → Text → Bool
is_found pattern text = option_map_or (λ re. is_some (find_str re text 0)) (meaning_of pattern) false

-- its matches in the text, one after the other
abbrev pub matches_in : Pattern → Text → List Match
matches_in pattern text = option_map_or (λ re. find_all_str re text) (meaning_of pattern) []

-- the pieces between the matches, with what stands before the first and behind the last
abbrev pub pieces_between : Pattern → Text → List Text
pieces_between pattern text = map (λ piece. slice_range text piece.0 piece.1) (gaps (length text) 0 (matches_in pattern text))

-- the text with another in the place of each match
abbrev pub with_replaced : Pattern → Text → Text → Text
with_replaced pattern by text = replaced_by (λ _. by) text 0 (matches_in pattern text)

-- ---- sets of patterns

abbrev pub same_bool : Bool → Bool → Bool
same_bool true b = b
same_bool false b = not b

abbrev pub same_flags : PatternFlags → PatternFlags → Bool
same_flags a b = same_bool a.any_case b.any_case && (same_bool a.multi_line b.multi_line && same_bool a.dot_all b.dot_all)

abbrev pub same_pattern : Pattern → Pattern → Bool
same_pattern a b = pointwise nat_eq a.0 b.0 && same_flags a.1 b.1

-- whether a pattern is among some
abbrev pub has : List Pattern → Pattern → Bool
has patterns pattern = list_any (λ other. same_pattern other pattern) patterns

-- no two of them are the same
abbrev pub AreApart : List Pattern → Type 0
AreApart [] = Unit {0}
AreApart (pattern ∷ rest) = (has rest pattern ≡ false) × AreApart rest
