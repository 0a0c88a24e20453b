-- Trees that have a spelling: their names are names by the grammar of tokens, their strings are texts, and their integers are values of
-- digits.
use Rattle.std.specs.Prelude.{ℕ, ◌^◌, ◌<◌, ℤ, pos, negsuc, ⊤, List, [], ◌∷◌, Option, Some, None}
use Rattle.std.specs.Str.{IsUtf8, chars}
use Rattle.pj_xexpressions.specs.declared.expr.NodeTest.{NodeTest}
use Rattle.pj_xexpressions.specs.declared.expr.NodeTest.TheVariants as test
use Rattle.pj_xtokens.specs.Rules.{Spells}
use Rattle.pj_xtokens.specs.declared.token.TokenKind.TheVariants as kind
use Rattle.pj_xexpressions.specs.Trees as tree
use Rattle.pj_xexpressions.specs.Trees.{Tree, Trees, Construct, Node, NoMore, More}

-- the bytes are those of characters in UTF-8
abbrev pub IsText : List ℕ → Type 0
IsText bytes = IsUtf8 bytes

-- the bytes are those of a name (Namespaces in XML 1.0, 4)
abbrev pub IsName : List ℕ → Type 0
IsName bytes = IsText bytes × Spells kind.Name (chars bytes)

-- each is a name
abbrev pub AreNames : List (List ℕ) → Type 0
AreNames [] = ⊤
AreNames (name ∷ names) = IsName name × AreNames names

-- XPath 2.0, 3.1.1: the value of an IntegerLiteral, which is `None` above the greatest integer of 64 bits
abbrev pub IsInteger : Option ℤ → Type 0
IsInteger (Some (pos n)) = n < 2 ^ 63
IsInteger (Some (negsuc n)) = ⊥
IsInteger None = ⊤

-- XPath 2.0, 3.2.1.2: a test by a name has a name
abbrev pub IsTestSpelled : NodeTest → Type 0
IsTestSpelled (test.Name name) = IsName name
IsTestSpelled _ = ⊤

-- the names, the string or the integer of a construct
abbrev pub IsConstructSpelled : Construct → Type 0
IsConstructSpelled (tree.For names) = AreNames names
IsConstructSpelled (tree.Let names) = AreNames names
IsConstructSpelled (tree.Quantified quantifier names) = AreNames names
IsConstructSpelled (tree.Step axis t) = IsTestSpelled t
IsConstructSpelled (tree.AttributeStep t) = IsTestSpelled t
IsConstructSpelled (tree.Integer value) = IsInteger value
IsConstructSpelled (tree.String text) = IsText text
IsConstructSpelled (tree.Variable name) = IsName name
IsConstructSpelled _ = ⊤

unfoldable mutual
  -- a tree and all trees in it
  pub IsSpelled : Tree → Type 0
  IsSpelled (Node construct parts) = IsConstructSpelled construct × AreSpelled parts

  -- each tree of a list
  pub AreSpelled : Trees → Type 0
  AreSpelled NoMore = ⊤
  AreSpelled (More first rest) = IsSpelled first × AreSpelled rest
