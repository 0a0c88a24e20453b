-- JLS 3.10.6: the characters that a text block represents before its escapes are interpreted.
use Rattle.std.specs.Prelude.{ℕ, ◌==◌, ◌||◌, ◌-◌, Bool, if◌then◌else◌, List, [], ◌∷◌, map, min, take, drop, length, Option, Some, None}
use Rattle.std.specs.List.{list_all, prefix_len}
use Rattle.pj_lex.specs.Characters.{is_between}
use Rattle.pj_literals.specs.Lines.{lines_of, joined}

-- the white space of Character.isWhitespace, which String.stripIndent speaks of: tab to carriage return, the separators U+001C to U+001F,
-- and the Unicode separators (Zs, Zl, Zp) but those that do not break, U+00A0, U+2007 and U+202F
abbrev pub is_white_space : ℕ → Bool
is_white_space c = is_between 9 13 c || is_between 28 32 c || (c == 0x1680) || is_between 0x2000 0x2006 c || is_between 0x2008 0x200A c || is_between 0x2028 0x2029 c || (c == 0x205F) || (c == 0x3000)

abbrev pub is_blank : List ℕ → Bool
is_blank line = list_all is_white_space line

-- how many white space characters a line begins with
abbrev pub indentation_of : List ℕ → ℕ
indentation_of line = prefix_len is_white_space line

-- the lines whose indentation counts: those that are not blank, and the last one
abbrev pub significant : List (List ℕ) → List (List ℕ)
significant [] = []
significant (l ∷ []) = l ∷ []
significant (l ∷ m ∷ ls) = if is_blank l then significant (m ∷ ls) else l ∷ significant (m ∷ ls)

abbrev pub least : List ℕ → ℕ
least [] = 0
least (n ∷ []) = n
least (n ∷ m ∷ ns) = min n (least (m ∷ ns))

-- the indentation that all significant lines have
abbrev pub common_indentation : List (List ℕ) → ℕ
common_indentation lines = least (map indentation_of (significant lines))

-- a line without the white space at its end
abbrev pub without_trailing : List ℕ → List ℕ
without_trailing [] = []
without_trailing (c ∷ cs) = if is_blank (c ∷ cs) then [] else c ∷ without_trailing cs

-- a line without this much indentation and without the white space at its end; nothing is left of a blank one
abbrev pub stripped : ℕ → List ℕ → List ℕ
stripped n line = without_trailing (drop n line)

-- the lines of the content: what stands before the closing delimiter, but the line of the opening one
abbrev pub content_lines : List ℕ → List (List ℕ)
content_lines w = drop 1 (lines_of (take (length w - 3) w))

-- the lines without their incidental white space, as by String.stripIndent
abbrev pub without_incidental : List (List ℕ) → List (List ℕ)
without_incidental lines = map (λ line. stripped (common_indentation lines) line) lines

-- the content with its line terminators normalized and its incidental white space removed
abbrev pub text_block : List ℕ → List ℕ
text_block w = joined (without_incidental (content_lines w))

-- a private clause alone cites this: the least of a number and of one before it, if there is one
abbrev pub least_of : Option ℕ → ℕ → ℕ
least_of None n = n
least_of (Some m) n = min m n
