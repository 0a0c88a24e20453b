-- JLS 3.10.1 and 3.10.2: integer and floating point literals.
use Rattle.std.specs.Prelude.{[], ◌∷◌}
use Rattle.pj_lex.specs.Characters.{CharSet, Digit, NonZeroDigit, HexDigit, OctalDigit, BinaryDigit, IntegerSuffix, FloatSuffix, HexMark, BinaryMark, ExponentMark, BinaryExponentMark, SignMark}
use Rattle.pj_lex.specs.Pattern.{Pattern, One, Then, Many, sequence, choice, maybe, character}

abbrev pub zero : Pattern
zero = character 48

abbrev pub point : Pattern
point = character 46

abbrev pub underscores : Pattern
underscores = Many (character 95)

-- further digits, before each of which underscores may stand
abbrev pub more_digits : CharSet → Pattern
more_digits digit = Many (Then underscores (One digit))

-- Digits, HexDigits, OctalDigits, BinaryDigits: digits, with underscores only between them
abbrev pub digits : CharSet → Pattern
digits digit = Then (One digit) (more_digits digit)

-- DecimalNumeral: 0, or digits of which the first is not 0
abbrev pub decimal_numeral : Pattern
decimal_numeral = choice (zero ∷ Then (One NonZeroDigit) (more_digits Digit) ∷ [])

-- HexNumeral
abbrev pub hex_numeral : Pattern
hex_numeral = sequence (zero ∷ One HexMark ∷ digits HexDigit ∷ [])

-- OctalNumeral: 0, underscores or none, and octal digits
abbrev pub octal_numeral : Pattern
octal_numeral = sequence (zero ∷ Then underscores (One OctalDigit) ∷ more_digits OctalDigit ∷ [])

-- BinaryNumeral
abbrev pub binary_numeral : Pattern
binary_numeral = sequence (zero ∷ One BinaryMark ∷ digits BinaryDigit ∷ [])

-- IntegerLiteral
abbrev pub integer_literal : Pattern
integer_literal = sequence (choice (decimal_numeral ∷ hex_numeral ∷ octal_numeral ∷ binary_numeral ∷ []) ∷ maybe (One IntegerSuffix) ∷ [])

-- SignedInteger
abbrev pub signed_integer : Pattern
signed_integer = sequence (maybe (One SignMark) ∷ digits Digit ∷ [])

-- ExponentPart
abbrev pub exponent : Pattern
exponent = sequence (One ExponentMark ∷ signed_integer ∷ [])

-- DecimalFloatingPointLiteral, its four forms in the order of the JLS (an exponent and a suffix are both in the third)
abbrev pub decimal_float : Pattern
decimal_float = choice (
    sequence (digits Digit ∷ point ∷ maybe (digits Digit) ∷ maybe exponent ∷ maybe (One FloatSuffix) ∷ [])
    ∷ sequence (point ∷ digits Digit ∷ maybe exponent ∷ maybe (One FloatSuffix) ∷ [])
    ∷ sequence (digits Digit ∷ exponent ∷ maybe (One FloatSuffix) ∷ [])
    ∷ sequence (digits Digit ∷ One FloatSuffix ∷ [])
    ∷ [])

-- HexSignificand
abbrev pub hex_significand : Pattern
hex_significand = choice (
    sequence (hex_numeral ∷ maybe point ∷ [])
    ∷ sequence (zero ∷ One HexMark ∷ maybe (digits HexDigit) ∷ point ∷ digits HexDigit ∷ [])
    ∷ [])

-- HexadecimalFloatingPointLiteral
abbrev pub hex_float : Pattern
hex_float = sequence (hex_significand ∷ One BinaryExponentMark ∷ signed_integer ∷ maybe (One FloatSuffix) ∷ [])

-- FloatingPointLiteral
abbrev pub float_literal : Pattern
float_literal = choice (decimal_float ∷ hex_float ∷ [])
