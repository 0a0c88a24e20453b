-- Which expression a text spells.
use Rattle.std.specs.Prelude.{◌≡◌, ℕ, List, None}
use Rattle.pj_xtokens.specs.Size.{size}
use Rattle.pj_xtokens.specs.Tokens.{Lexed, Tokens}
use Rattle.pj_xtokens.specs.declared.token.End.TheVariants as ends
use Rattle.pj_xexpressions.specs.Trees.{Tree}
use Rattle.pj_xparse.specs.NameFaults.{first_fault}
use Rattle.pj_xreadings.specs.Operands.{Operand}
use Rattle.pj_xmeaning.specs.Reads.{AreRead}

-- The text, in characters, spells the expression, where the rule set gives these variables: its tokens, up to its end, are read as the
-- expression by the rules of the grammar, and nest no deeper than may be; every function and variable that they name is there, and each
-- argument is written as its function wants it.
pub record Spells (variables : List (List ℕ)) (text : List ℕ) (tree : Tree) : Type 0 where
  pub tokens : List Lexed
  pub said : Operand
  pub read : Tokens (size text) text tokens (ends.Text (size text))
  pub says : AreRead tokens said
  pub named : first_fault variables said.names ≡ None
  pub means : tree ≡ said.tree
