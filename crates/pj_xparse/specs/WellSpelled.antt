-- Tokens that are spelled as their kinds are. Those of every text are.
use Rattle.std.specs.Prelude.{⊤, IsTrue, List, [], ◌∷◌}
use Rattle.std.specs.Str.{all_scalars}
use Rattle.pj_xtokens.specs.Rules.{Spells}
use Rattle.pj_xtokens.specs.Tokens.{Lexed}

-- The token's characters are Unicode scalar values, and spell a token of its kind (XPath 2.0, A.2.1).
pub record IsWellSpelled (x : Lexed) : Type 0 where
  pub characters : IsTrue (all_scalars x.text)
  pub spells : Spells x.kind x.text

-- each token is
abbrev pub AreWellSpelled : List Lexed → Type 0
AreWellSpelled [] = ⊤
AreWellSpelled (x ∷ xs) = IsWellSpelled x × AreWellSpelled xs
