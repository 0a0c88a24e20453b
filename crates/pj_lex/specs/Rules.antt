-- The lexical grammar of Java 17: what a word spells.
use Rattle.std.specs.Prelude.{ℕ, ◌≡◌, Bool, true, false, ◌==◌, ◌||◌, if◌then◌else◌, List, [], ◌∷◌, map, Result, Ok, Err}
use Rattle.pj_patterns.specs.Rules as patterns
use Rattle.pj_patterns.specs.Rules.{rule}
use Rattle.pj_lex.specs.Characters.{CharSet, holds, JavaLetter, JavaLetterOrDigit, continues_name}
use Rattle.pj_lex.specs.Pattern.{One, Then, Many, character, word}
use Rattle.pj_lex.specs.Words.{Entry, signs, name_kind}
use Rattle.pj_lex.specs.Numbers.{integer_literal, float_literal}
use Rattle.pj_lex.specs.Quoted.{apostrophe, quote, three_quotes, char_literal, bad_char_literal, string_literal, any_string, text_block, any_block}
use Rattle.pj_lex.specs.Comments.{line_comment, comment_opening, traditional_comment}
use Rattle.pj_lex.specs.declared.token.TokenKind.{TokenKind}
use Rattle.pj_lex.specs.declared.token.TokenKind.TheVariants as t
use Rattle.pj_lex.specs.declared.category.Category.{Category}
use Rattle.pj_lex.specs.declared.category.Category.TheVariants.{Name, Number, Token, Greater, Fault}

-- a rule of the grammar: its words, and what they are (a Category: a name, a number, a token, the sign >, or a fault)
abbrev pub Rule : Type 0
Rule = patterns.Rule Category CharSet

abbrev pub sign_rule : Entry → Rule
sign_rule e = rule (Token e.kind) (word e.text)

-- The rules, in the order in which they count. Faults are spelled too, so that the longest word decides between a token and its fault:
-- an opening quote alone is fault 2, and every literal that it opens is longer; a literal that ends, with a bad escape in it, is fault 4, so that an
-- unclosed one with a bad escape is 2 and never 4; the opening of a comment alone is fault 3. The order decides only where a closed literal
-- matches two rules, one for good escapes and one for all. Three quotes always open a text block, also where the JLS would read an empty string.
unfoldable pub rules : List Rule
rules =
    -- JLS 3.8 and 3.9
    rule Name (Then (One JavaLetter) (Many (One JavaLetterOrDigit)))
    -- JLS 3.10.1
    ∷ rule (Number t.IntLiteral) integer_literal
    -- JLS 3.10.2
    ∷ rule (Number t.FloatLiteral) float_literal
    -- JLS 3.10.4
    ∷ rule (Token t.CharLiteral) char_literal
    ∷ rule (Fault 4) bad_char_literal
    ∷ rule (Fault 2) apostrophe
    -- JLS 3.10.5
    ∷ rule (Token t.StringLiteral) string_literal
    ∷ rule (Fault 4) any_string
    ∷ rule (Fault 2) quote
    -- JLS 3.10.6
    ∷ rule (Token t.TextBlock) text_block
    ∷ rule (Fault 4) any_block
    ∷ rule (Fault 2) three_quotes
    -- JLS 3.7
    ∷ rule (Token t.Comment) line_comment
    ∷ rule (Token t.Comment) traditional_comment
    ∷ rule (Fault 3) comment_opening
    -- > is always a token alone, where JLS 3.12 has >> and >= too: the grammar of expressions and types joins them
    ∷ rule Greater (character 62)
    -- JLS 3.11 and 3.12
    ∷ map sign_rule signs

-- what the first rule that matches the word spells
abbrev pub FirstOf : List Rule → List ℕ → Category → Type 0
FirstOf rs w s = patterns.FirstOf holds rs w s

-- a token's kind, or the kind of the fault that spoils it
abbrev pub Outcome : Type 0
Outcome = Result TokenKind ℕ

-- the first character, where there is one, passes the test
abbrev pub heads : (ℕ → Bool) → List ℕ → Bool
heads p [] = false
heads p (c ∷ cs) = p c

-- the kind of > tells whether > or = follows
abbrev pub greater_kind : List ℕ → TokenKind
greater_kind behind = if heads (λ c. (c == 62) || (c == 61)) behind then t.GreaterJoined else t.Greater

-- what a word of the category is, before this text: a number is fault 5 where a character directly behind it could continue a name, as in 1_, 0x and
-- 1instanceof. A number is read as far as it is one, so this fault stands where the number begins.
abbrev pub outcome : Category → List ℕ → List ℕ → Outcome
outcome Name w behind = Ok (name_kind w)
outcome (Number k) w behind = if heads continues_name behind then Err 5 else Ok k
outcome (Token k) w behind = Ok k
outcome Greater w behind = Ok (greater_kind behind)
outcome (Fault f) w behind = Err f

-- the word is this token, or this fault, where this text stands behind it
pub record Spells (behind : List ℕ) (l : Outcome) (w : List ℕ) : Type 0 where
  pub category : Category
  pub first : FirstOf rules w category
  pub is : l ≡ outcome category w behind

abbrev pub is_fault : Category → Bool
is_fault (Fault f) = true
is_fault s = false

-- the rules for tokens, without those for faults
abbrev pub token_rules : List Rule → List Rule
token_rules [] = []
token_rules (r ∷ rs) = if is_fault r.kind then token_rules rs else r ∷ token_rules rs
