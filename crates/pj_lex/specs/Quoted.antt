-- JLS 3.10.4 to 3.10.7: character literals, string literals and text blocks, good ones and ones with a bad escape.
use Rattle.std.specs.Prelude.{[], ◌∷◌}
use Rattle.pj_lex.specs.Characters.{OctalDigit, ZeroToThree, LineEnd, InputCharacter, SingleCharacter, StringCharacter, TextBlockCharacter, TextBlockWhiteSpace, EscapeLetter, NotEscape, AnyCharacter}
use Rattle.pj_lex.specs.Pattern.{Pattern, One, Then, Many, sequence, choice, maybe, character}

abbrev pub backslash : Pattern
backslash = character 92

abbrev pub apostrophe : Pattern
apostrophe = character 39

abbrev pub quote : Pattern
quote = character 34

abbrev pub three_quotes : Pattern
three_quotes = sequence (quote ∷ quote ∷ quote ∷ [])

-- JLS 3.10.7: OctalEscape, behind the backslash
abbrev pub octal_escape : Pattern
octal_escape = choice (
    One OctalDigit
    ∷ sequence (One OctalDigit ∷ One OctalDigit ∷ [])
    ∷ sequence (One ZeroToThree ∷ One OctalDigit ∷ One OctalDigit ∷ [])
    ∷ [])

-- JLS 3.10.7: EscapeSequence
abbrev pub escape : Pattern
escape = Then backslash (choice (One EscapeLetter ∷ octal_escape ∷ []))

-- the same where ordinary characters may follow: the further digits of an octal escape are spelled as such
abbrev pub short_escape : Pattern
short_escape = Then backslash (choice (One EscapeLetter ∷ One OctalDigit ∷ []))

-- JLS 3.10.4: one character, or one escape
abbrev pub char_literal : Pattern
char_literal = sequence (apostrophe ∷ choice (One SingleCharacter ∷ escape ∷ []) ∷ apostrophe ∷ [])

-- a backslash with one character that makes no escape
abbrev pub bad_char_literal : Pattern
bad_char_literal = sequence (apostrophe ∷ backslash ∷ One NotEscape ∷ apostrophe ∷ [])

-- JLS 3.10.5: a string, with these escapes
abbrev pub string_of : Pattern → Pattern
string_of escapes = sequence (quote ∷ Many (choice (One StringCharacter ∷ escapes ∷ [])) ∷ quote ∷ [])

abbrev pub string_literal : Pattern
string_literal = string_of short_escape

-- the same with any input character behind a backslash
abbrev pub any_string : Pattern
any_string = string_of (Then backslash (One InputCharacter))

-- JLS 3.10.6: a text block, with these escapes: white space and a line end behind the opening delimiter;
-- then characters and escapes, before each of which at most two quotes stand; then the first three quotes
abbrev pub block_of : Pattern → Pattern
block_of escapes = sequence (
    three_quotes
    ∷ Many (One TextBlockWhiteSpace)
    ∷ One LineEnd
    ∷ Many (Then (maybe (Then quote (maybe quote))) (choice (One TextBlockCharacter ∷ escapes ∷ [])))
    ∷ three_quotes
    ∷ [])

-- with the backslash that continues a line
abbrev pub text_block : Pattern
text_block = block_of (Then backslash (choice (One EscapeLetter ∷ One OctalDigit ∷ One LineEnd ∷ [])))

-- the same with any character behind a backslash
abbrev pub any_block : Pattern
any_block = block_of (Then backslash (One AnyCharacter))
