-- Values by the rules of the lexical grammar that spell a literal.
use Rattle.std.specs.Prelude.{ℕ, ◌≡◌, pos, List, [], ◌∷◌, ◌++◌, Ok}
use Rattle.std.specs.Int.{Width, w32, w64, int_wrap}
use Rattle.pj_lex.specs.Characters.{IntegerSuffix}
use Rattle.pj_lex.specs.Pattern.{Pattern, One, Matches, maybe}
use Rattle.pj_lex.specs.Quoted.{octal_escape}
use Rattle.pj_lex.specs.Tokens.{Lexed}
use Rattle.pj_lex.specs.declared.token.TokenKind.TheVariants as t
use Rattle.pj_literals.specs.Digits.{number_in}
use Rattle.pj_literals.specs.IntegerValue.{IsInteger, integer_value}
use Rattle.pj_literals.specs.StringValue.{IsQuoted}

-- the numeral of an integer literal, and its suffix if it has one
pub record IsNumeral (rule : Pattern) (w n s : List ℕ) : Type 0 where
  pub is : w ≡ n ++ s
  pub numeral : Matches rule n
  pub suffix : Matches (maybe (One IntegerSuffix)) s

-- the type of an integer literal, an int or with a suffix a long
abbrev pub width_of : List ℕ → Width
width_of [] = w32
width_of (c ∷ cs) = w64

-- where this rule spells the numeral, its digits count by this radix, and are the bits of an int or a long
abbrev pub CountsBy : Pattern → ℕ → List ℕ → Type 0
CountsBy rule radix w = (n s : List ℕ) → IsNumeral rule w n s → integer_value w ≡ int_wrap (width_of s) (pos (number_in radix n))

-- no further character of the text belongs to the octal escape
abbrev pub IsWholeEscape : List ℕ → List ℕ → Type 0
IsWholeEscape digits behind = (c : ℕ) (cs : List ℕ) → behind ≡ c ∷ cs → Matches octal_escape (digits ++ c ∷ []) → ⊥

-- a token whose kind is that of a literal is spelled as its value wants it
pub record IsSpelled (l : Lexed) : Type 0 where
  pub integer : l.what ≡ Ok t.IntLiteral → IsInteger l.text
  pub character : l.what ≡ Ok t.CharLiteral → IsQuoted l.text
  pub string : l.what ≡ Ok t.StringLiteral → IsQuoted l.text
  pub block : l.what ≡ Ok t.TextBlock → IsQuoted l.text
