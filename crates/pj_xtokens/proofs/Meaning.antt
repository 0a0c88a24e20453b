-- What each state of the scanner stands for: the rules that are left behind a word that leads to it.
use Rattle.std.proofs.Common.{ℕ, suc, zero, Bool, true, false, List, [], ◌∷◌, Option, Some, None}
use Rattle.pj_xtokens.specs.Characters.{CharSet, NameStart, NameCharacter, NotQuote, NotApostrophe, holds}
use Rattle.pj_xtokens.specs.Rules.{Rule, rules}
use Rattle.pj_xtokens.specs.States.{step}
use Rattle.pj_xtokens.specs.declared.state.State.{State}
use Rattle.pj_xtokens.specs.declared.state.State.TheVariants as s
use Rattle.pj_xtokens.specs.declared.token.Sign.{Sign}
use Rattle.pj_xtokens.specs.declared.token.Sign.TheVariants as sign
use Rattle.pj_patterns.specs.Derivatives.{derive_rules}

-- the sets that a character is in
abbrev pub sets_of : ℕ → CharSet → Bool
sets_of c s = holds s c

-- a word that leads to the state
abbrev pub sign_word : Sign → List ℕ
sign_word sign.LeftParenthesis = (40 ∷ [])
sign_word sign.RightParenthesis = (41 ∷ [])
sign_word sign.LeftBracket = (91 ∷ [])
sign_word sign.RightBracket = (93 ∷ [])
sign_word sign.LeftBrace = (123 ∷ [])
sign_word sign.RightBrace = (125 ∷ [])
sign_word sign.Comma = (44 ∷ [])
sign_word sign.Dot = (46 ∷ [])
sign_word sign.DotDot = (46 ∷ 46 ∷ [])
sign_word sign.Slash = (47 ∷ [])
sign_word sign.SlashSlash = (47 ∷ 47 ∷ [])
sign_word sign.Colon = (58 ∷ [])
sign_word sign.ColonColon = (58 ∷ 58 ∷ [])
sign_word sign.ColonEqual = (58 ∷ 61 ∷ [])
sign_word sign.Bang = (33 ∷ [])
sign_word sign.BangEqual = (33 ∷ 61 ∷ [])
sign_word sign.Dollar = (36 ∷ [])
sign_word sign.Star = (42 ∷ [])
sign_word sign.Plus = (43 ∷ [])
sign_word sign.Minus = (45 ∷ [])
sign_word sign.Less = (60 ∷ [])
sign_word sign.LessLess = (60 ∷ 60 ∷ [])
sign_word sign.LessEqual = (60 ∷ 61 ∷ [])
sign_word sign.Equal = (61 ∷ [])
sign_word sign.Arrow = (61 ∷ 62 ∷ [])
sign_word sign.Greater = (62 ∷ [])
sign_word sign.GreaterGreater = (62 ∷ 62 ∷ [])
sign_word sign.GreaterEqual = (62 ∷ 61 ∷ [])
sign_word sign.Question = (63 ∷ [])
sign_word sign.At = (64 ∷ [])
sign_word sign.Bar = (124 ∷ [])
sign_word sign.BarBar = (124 ∷ 124 ∷ [])
sign_word sign.Hash = (35 ∷ [])

abbrev pub word_to : State → List ℕ
word_to s.Start = []
word_to s.Name = (97 ∷ [])
word_to s.NameColon = (97 ∷ 58 ∷ [])
word_to s.PrefixedName = (97 ∷ 58 ∷ 97 ∷ [])
word_to s.Integer = (48 ∷ [])
word_to s.Decimal = (46 ∷ 48 ∷ [])
word_to s.ExponentMark = (48 ∷ 101 ∷ [])
word_to s.ExponentSign = (48 ∷ 101 ∷ 43 ∷ [])
word_to s.Double = (48 ∷ 101 ∷ 48 ∷ [])
word_to s.QuoteBody = (34 ∷ [])
word_to s.QuoteEnd = (34 ∷ 34 ∷ [])
word_to s.ApostropheBody = (39 ∷ [])
word_to s.ApostropheEnd = (39 ∷ 39 ∷ [])
word_to (s.Sign q) = sign_word q

-- the rules behind a word of ASCII characters
abbrev pub behind_word : List ℕ → List Rule → List Rule
behind_word [] rs = rs
behind_word (c ∷ cs) rs = behind_word cs (derive_rules (sets_of c) rs)

unfoldable pub meaning : State → List Rule
meaning q = behind_word (word_to q) rules

abbrev pub meaning_of : Option State → List Rule
meaning_of None = []
meaning_of (Some q) = meaning q

-- the values below a number
abbrev pub table : (ℕ → List Rule) → ℕ → List (List Rule)
table f zero = []
table f (suc n) = f n ∷ table f n

abbrev pub left_behind : List Rule → List (List Rule)
left_behind rs = table (λ c. derive_rules (sets_of c) rs) 128

abbrev pub led_to : State → List (List Rule)
led_to q = table (λ c. meaning_of (step (sets_of c) q)) 128

-- the sets that a character beyond ASCII is in, by whether it starts and whether it continues a name
abbrev pub wide : Bool → Bool → CharSet → Bool
wide a b NameStart = a
wide a b NameCharacter = b
wide a b NotQuote = true
wide a b NotApostrophe = true
wide a b s = false

-- the values at two truth values
abbrev pub four : (Bool → Bool → List Rule) → List (List Rule)
four f = f true true ∷ f true false ∷ f false true ∷ f false false ∷ []

abbrev pub left_wide : List Rule → List (List Rule)
left_wide rs = four (λ a b. derive_rules (wide a b) rs)

abbrev pub led_wide : State → List (List Rule)
led_wide q = four (λ a b. meaning_of (step (wide a b) q))
