-- JLS 3.9, 3.10.3, 3.10.8, 3.11 and 3.12: the words and signs that are fixed.
use Rattle.std.specs.Prelude.{ℕ, Bool, true, false, ◌==◌, ◌&&◌, if◌then◌else◌, List, [], ◌∷◌, Option, Some, None, codes}
use Rattle.pj_lex.specs.declared.token.TokenKind.{TokenKind}
use Rattle.pj_lex.specs.declared.token.TokenKind.TheVariants as t

pub record Entry : Type 0 where
  pub text : List ℕ
  pub kind : TokenKind

abbrev pub entry : List ℕ → TokenKind → Entry
entry w k = record { text = w; kind = k }

abbrev pub same : List ℕ → List ℕ → Bool
same [] [] = true
same [] (d ∷ ds) = false
same (c ∷ cs) [] = false
same (c ∷ cs) (d ∷ ds) = (c == d) && same cs ds

-- the kind of a word in a table
abbrev pub kind_in : List Entry → List ℕ → Option TokenKind
kind_in [] w = None
kind_in (e ∷ es) w = if same e.text w then Some e.kind else kind_in es w

-- JLS 3.9: the reserved keywords; JLS 3.10.3 and 3.10.8: true, false and null
unfoldable pub reserved_words : List Entry
reserved_words =
    entry (codes "abstract") t.Abstract
    ∷ entry (codes "assert") t.Assert
    ∷ entry (codes "boolean") t.Boolean
    ∷ entry (codes "break") t.Break
    ∷ entry (codes "byte") t.Byte
    ∷ entry (codes "case") t.Case
    ∷ entry (codes "catch") t.Catch
    ∷ entry (codes "char") t.Char
    ∷ entry (codes "class") t.Class
    ∷ entry (codes "const") t.Const
    ∷ entry (codes "continue") t.Continue
    ∷ entry (codes "default") t.Default
    ∷ entry (codes "do") t.Do
    ∷ entry (codes "double") t.Double
    ∷ entry (codes "else") t.Else
    ∷ entry (codes "enum") t.Enum
    ∷ entry (codes "extends") t.Extends
    ∷ entry (codes "final") t.Final
    ∷ entry (codes "finally") t.Finally
    ∷ entry (codes "float") t.Float
    ∷ entry (codes "for") t.For
    ∷ entry (codes "goto") t.Goto
    ∷ entry (codes "if") t.If
    ∷ entry (codes "implements") t.Implements
    ∷ entry (codes "import") t.Import
    ∷ entry (codes "instanceof") t.Instanceof
    ∷ entry (codes "int") t.Int
    ∷ entry (codes "interface") t.Interface
    ∷ entry (codes "long") t.Long
    ∷ entry (codes "native") t.Native
    ∷ entry (codes "new") t.New
    ∷ entry (codes "package") t.Package
    ∷ entry (codes "private") t.Private
    ∷ entry (codes "protected") t.Protected
    ∷ entry (codes "public") t.Public
    ∷ entry (codes "return") t.Return
    ∷ entry (codes "short") t.Short
    ∷ entry (codes "static") t.Static
    ∷ entry (codes "strictfp") t.Strictfp
    ∷ entry (codes "super") t.Super
    ∷ entry (codes "switch") t.Switch
    ∷ entry (codes "synchronized") t.Synchronized
    ∷ entry (codes "this") t.This
    ∷ entry (codes "throw") t.Throw
    ∷ entry (codes "throws") t.Throws
    ∷ entry (codes "transient") t.Transient
    ∷ entry (codes "try") t.Try
    ∷ entry (codes "void") t.Void
    ∷ entry (codes "volatile") t.Volatile
    ∷ entry (codes "while") t.While
    ∷ entry (codes "_") t.Underscore
    ∷ entry (codes "true") t.True
    ∷ entry (codes "false") t.False
    ∷ entry (codes "null") t.Null
    ∷ []

-- JLS 3.11 and 3.12: separators and operators. The sign > and those that begin with it are not here.
abbrev pub signs : List Entry
signs =
    entry (codes "(") t.LeftParenthesis
    ∷ entry (codes ")") t.RightParenthesis
    ∷ entry (codes "{") t.LeftBrace
    ∷ entry (codes "}") t.RightBrace
    ∷ entry (codes "[") t.LeftBracket
    ∷ entry (codes "]") t.RightBracket
    ∷ entry (codes ";") t.Semicolon
    ∷ entry (codes ",") t.Comma
    ∷ entry (codes ".") t.Dot
    ∷ entry (codes "...") t.Ellipsis
    ∷ entry (codes "@") t.At
    ∷ entry (codes "::") t.ColonColon
    ∷ entry (codes "=") t.Assign
    ∷ entry (codes "<") t.Less
    ∷ entry (codes "!") t.Bang
    ∷ entry (codes "~") t.Tilde
    ∷ entry (codes "?") t.Question
    ∷ entry (codes ":") t.Colon
    ∷ entry (codes "->") t.Arrow
    ∷ entry (codes "==") t.EqualEqual
    ∷ entry (codes "<=") t.LessEqual
    ∷ entry (codes "!=") t.BangEqual
    ∷ entry (codes "&&") t.AndAnd
    ∷ entry (codes "||") t.OrOr
    ∷ entry (codes "++") t.PlusPlus
    ∷ entry (codes "--") t.MinusMinus
    ∷ entry (codes "+") t.Plus
    ∷ entry (codes "-") t.Minus
    ∷ entry (codes "*") t.Star
    ∷ entry (codes "/") t.Slash
    ∷ entry (codes "&") t.Ampersand
    ∷ entry (codes "|") t.Bar
    ∷ entry (codes "^") t.Caret
    ∷ entry (codes "%") t.Percent
    ∷ entry (codes "<<") t.LessLess
    ∷ entry (codes "+=") t.PlusAssign
    ∷ entry (codes "-=") t.MinusAssign
    ∷ entry (codes "*=") t.StarAssign
    ∷ entry (codes "/=") t.SlashAssign
    ∷ entry (codes "&=") t.AmpersandAssign
    ∷ entry (codes "|=") t.BarAssign
    ∷ entry (codes "^=") t.CaretAssign
    ∷ entry (codes "%=") t.PercentAssign
    ∷ entry (codes "<<=") t.LessLessAssign
    ∷ []

abbrev pub or_identifier : Option TokenKind → TokenKind
or_identifier None = t.Identifier
or_identifier (Some k) = k

-- JLS 3.8: a word that is not reserved is an identifier, the contextual keywords of JLS 3.9 among them (so non-sealed is two identifiers and a sign)
unfoldable pub name_kind : List ℕ → TokenKind
name_kind w = or_identifier (kind_in reserved_words w)
