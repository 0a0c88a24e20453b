-- The grammar of tokens: what a word spells.
use Rattle.std.specs.Prelude.{ℕ, List, [], ◌∷◌, map}
use Rattle.pj_patterns.specs.Rules as patterns
use Rattle.pj_patterns.specs.Rules.{rule}
use Rattle.pj_xtokens.specs.Characters.{CharSet, holds, NameStart, NameCharacter, Digit, ExponentMark, PlusOrMinus, NotQuote, NotApostrophe}
use Rattle.pj_xtokens.specs.Pattern.{Pattern, One, Then, Many, sequence, choice, maybe, some, character, word}
use Rattle.pj_xtokens.specs.Signs.{Entry, signs}
use Rattle.pj_xtokens.specs.declared.token.TokenKind.{TokenKind}
use Rattle.pj_xtokens.specs.declared.token.TokenKind.TheVariants as t

-- Namespaces in XML 1.0, 3: NCName, a name without a colon
abbrev pub plain_name : Pattern
plain_name = Then (One NameStart) (Many (One NameCharacter))

-- Namespaces in XML 1.0, 4: QName, a name with a prefix or without one
abbrev pub name : Pattern
name = Then plain_name (maybe (Then (character 58) plain_name))

-- XPath 2.0, A.2.1: Digits
abbrev pub digits : Pattern
digits = some (One Digit)

abbrev pub point : Pattern
point = character 46

-- XPath 2.0, 3.1.1: DecimalLiteral
abbrev pub decimal : Pattern
decimal = choice (
    sequence (point ∷ digits ∷ [])
    ∷ sequence (digits ∷ point ∷ Many (One Digit) ∷ [])
    ∷ [])

-- what stands before the exponent
abbrev pub mantissa : Pattern
mantissa = choice (
    sequence (point ∷ digits ∷ [])
    ∷ sequence (digits ∷ maybe (Then point (Many (One Digit))) ∷ [])
    ∷ [])

-- XPath 2.0, 3.1.1: DoubleLiteral
abbrev pub double : Pattern
double = sequence (mantissa ∷ One ExponentMark ∷ maybe (One PlusOrMinus) ∷ digits ∷ [])

abbrev pub quote : Pattern
quote = character 34

abbrev pub apostrophe : Pattern
apostrophe = character 39

-- XPath 2.0, 3.1.1: StringLiteral, in quotation marks, of which two that follow each other stand for one, and in apostrophes likewise
abbrev pub quoted : Pattern
quoted = sequence (quote ∷ Many (choice (One NotQuote ∷ Then quote quote ∷ [])) ∷ quote ∷ [])

abbrev pub apostrophed : Pattern
apostrophed = sequence (apostrophe ∷ Many (choice (One NotApostrophe ∷ Then apostrophe apostrophe ∷ [])) ∷ apostrophe ∷ [])

-- a rule of the grammar: its words, and what they are
abbrev pub Rule : Type 0
Rule = patterns.Rule TokenKind CharSet

abbrev pub sign_rule : Entry → Rule
sign_rule e = rule (t.Sign e.sign) (word e.text)

-- XPath 2.0, A.2.1. No word matches two rules of different kinds, so the order tells nothing.
unfoldable pub rules : List Rule
rules =
    rule t.Name name
    ∷ rule t.Integer digits
    ∷ rule t.Decimal decimal
    ∷ rule t.Double double
    ∷ rule t.String quoted
    ∷ rule t.String apostrophed
    ∷ map sign_rule signs

-- what the first rule that matches the word spells
abbrev pub FirstOf : List Rule → List ℕ → TokenKind → Type 0
FirstOf rs w k = patterns.FirstOf holds rs w k

-- the word spells a token of this kind
abbrev pub Spells : TokenKind → List ℕ → Type 0
Spells k w = FirstOf rules w k
