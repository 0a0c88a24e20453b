-- Abbreviations, and what they stand for (XPath 2.0, 3.2.4, 3.3.3 and 3.1.1), and functions with and without a prefix (3.1.5).
use Rattle.std.specs.Prelude.{◌≡◌, ℕ, Bool, true, List, [], ◌∷◌, Some, codes}
use Rattle.std.specs.Str.{encode_utf8_all}
use Prim.Native.String.{String}
use Rattle.pj_xtokens.specs.Tokens.{Lexed, lexed}
use Rattle.pj_xtokens.specs.declared.token.Sign.{Sign}
use Rattle.pj_xtokens.specs.declared.token.Sign.TheVariants as s
use Rattle.pj_xtokens.specs.declared.token.TokenKind.TheVariants as kind
use Rattle.pj_xgrammar.specs.declared.terminal.Behind.TheVariants as b
use Rattle.pj_xgrammar.specs.Terminals.{first_behind, begins_step}
use Rattle.pj_xtokens.specs.Literals.{string_of}
use Rattle.pj_xtokens.specs.First.{begins_with_parenthesis}
use Rattle.pj_xexpressions.specs.declared.name.Callee.{Callee}
use Rattle.pj_xexpressions.specs.Names.{callee_of}

-- the token of a sign, and of a name, at an offset
abbrev pub sign : Sign → String → ℕ → Lexed
sign s text from = lexed (kind.Sign s) (codes text) from

abbrev pub word : String → ℕ → Lexed
word text from = lexed kind.Name (codes text) from

-- the tokens behind `child::`
abbrev pub along_child : ℕ → ℕ → List Lexed → List Lexed
along_child from to xs = word "child" from ∷ sign s.ColonColon "::" to ∷ xs

-- The second tokens are the first ones, where abbreviations are written out and literals of one string and names of one function are put for each other,
-- and these tokens behind them. Their offsets are those of another text. If it nests, `//` and `..` may be written out, too, whose longer forms have a
-- kind test with its parentheses.
pub data WrittenOut (nests : Bool) (behind : List Lexed) : List Lexed → List Lexed → Type 0 where
  done : WrittenOut nests behind [] behind
  -- A token as it was. A `/` that stands alone still does: so a `|` behind it is not written out, since `union` would begin a step there.
  kept : {x : Lexed} {xs ys : List Lexed} (from : ℕ) → (x.kind ≡ kind.Sign s.Slash → begins_step (first_behind b.End xs) ≡ begins_step (first_behind b.End ys)) →
      WrittenOut nests behind xs ys → WrittenOut nests behind (x ∷ xs) (lexed x.kind x.text from ∷ ys)
  -- `//` is `/descendant-or-self::node()/`
  descendants : {xs ys : List Lexed} → nests ≡ true → (from a b c d e f g : ℕ) → WrittenOut nests behind xs ys →
      WrittenOut nests behind (sign s.SlashSlash "//" from ∷ xs)
      (sign s.Slash "/" a ∷ word "descendant-or-self" b ∷ sign s.ColonColon "::" c ∷ word "node" d ∷ sign s.LeftParenthesis "(" e ∷ sign s.RightParenthesis ")" f ∷ sign s.Slash "/" g ∷ ys)
  -- `@` is `attribute::`
  attribute : {xs ys : List Lexed} (from a b : ℕ) → WrittenOut nests behind xs ys → WrittenOut nests behind (sign s.At "@" from ∷ xs) (word "attribute" a ∷ sign s.ColonColon "::" b ∷ ys)
  -- `..` is `parent::node()`
  parent : {xs ys : List Lexed} → nests ≡ true → (from a b c d e : ℕ) → WrittenOut nests behind xs ys →
      WrittenOut nests behind (sign s.DotDot ".." from ∷ xs) (word "parent" a ∷ sign s.ColonColon "::" b ∷ word "node" c ∷ sign s.LeftParenthesis "(" d ∷ sign s.RightParenthesis ")" e ∷ ys)
  -- `|` is `union`
  union : {xs ys : List Lexed} (from a : ℕ) → WrittenOut nests behind xs ys → WrittenOut nests behind (sign s.Bar "|" from ∷ xs) (word "union" a ∷ ys)
  -- two literals of one string, as `'x'` and `"x"`
  literal : {v w : List ℕ} {xs ys : List Lexed} (from a : ℕ) → string_of (encode_utf8_all v) ≡ string_of (encode_utf8_all w) → WrittenOut nests behind xs ys →
      WrittenOut nests behind (lexed kind.String v from ∷ xs) (lexed kind.String w a ∷ ys)
  -- two names of one function, as `fn:count` and `count`, before its arguments; elsewhere they are two names, of elements, attributes or variables
  function : {v w : List ℕ} {callee : Callee} {xs ys : List Lexed} (from a : ℕ) → callee_of (encode_utf8_all v) ≡ Some callee → callee_of (encode_utf8_all w) ≡ Some callee →
      begins_with_parenthesis xs ≡ true → WrittenOut nests behind xs ys → WrittenOut nests behind (lexed kind.Name v from ∷ xs) (lexed kind.Name w a ∷ ys)
