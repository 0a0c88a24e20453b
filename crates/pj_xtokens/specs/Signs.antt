-- The signs (XPath 2.0, A.2.2, with those that XPath 3.1 adds).
use Rattle.std.specs.Prelude.{ℕ, List, [], ◌∷◌, codes}
use Rattle.pj_xtokens.specs.declared.token.Sign.{Sign}
use Rattle.pj_xtokens.specs.declared.token.Sign.TheVariants as s

pub record Entry : Type 0 where
  pub text : List ℕ
  pub sign : Sign

abbrev pub entry : List ℕ → Sign → Entry
entry w s = record { text = w; sign = s }

-- The signs ! || := => { } # are XPath 3.1's, all others XPath 2.0's. Those of no construct that is taken are here too, so that what begins with them is told apart.
abbrev pub signs : List Entry
signs =
    entry (codes "(") s.LeftParenthesis
    ∷ entry (codes ")") s.RightParenthesis
    ∷ entry (codes "[") s.LeftBracket
    ∷ entry (codes "]") s.RightBracket
    ∷ entry (codes "{") s.LeftBrace
    ∷ entry (codes "}") s.RightBrace
    ∷ entry (codes ",") s.Comma
    ∷ entry (codes ".") s.Dot
    ∷ entry (codes "..") s.DotDot
    ∷ entry (codes "/") s.Slash
    ∷ entry (codes "//") s.SlashSlash
    ∷ entry (codes ":") s.Colon
    ∷ entry (codes "::") s.ColonColon
    ∷ entry (codes ":=") s.ColonEqual
    ∷ entry (codes "!") s.Bang
    ∷ entry (codes "!=") s.BangEqual
    ∷ entry (codes "$") s.Dollar
    ∷ entry (codes "*") s.Star
    ∷ entry (codes "+") s.Plus
    ∷ entry (codes "-") s.Minus
    ∷ entry (codes "<") s.Less
    ∷ entry (codes "<<") s.LessLess
    ∷ entry (codes "<=") s.LessEqual
    ∷ entry (codes "=") s.Equal
    ∷ entry (codes "=>") s.Arrow
    ∷ entry (codes ">") s.Greater
    ∷ entry (codes ">>") s.GreaterGreater
    ∷ entry (codes ">=") s.GreaterEqual
    ∷ entry (codes "?") s.Question
    ∷ entry (codes "@") s.At
    ∷ entry (codes "|") s.Bar
    ∷ entry (codes "||") s.BarBar
    ∷ entry (codes "#") s.Hash
    ∷ []
