-- A parsed file with its declarations.
use Rattle.std.specs.Prelude.{◌≡◌}
use Rattle.std.specs.List.Sorted.{IsNonDecreasingBy}
use Rattle.pj_lex.specs.declared.token.Token.{Token}
use Rattle.pj_parse.specs.PoolText.{IsPoolOf}
use Rattle.pj_parse.specs.declared.parsing.Parsed.{Parsed}
use Rattle.pj_symbols.specs.Symbols.{FileSymbols, symbols_of, FindsClasses}

-- The pool has the texts of the tree, the tokens stand in the order of the text, and the declarations are those of the tree. Of
-- what `parse` gives, and `Symbols::of` of its tree, all of this holds.
pub record IsOneFile (parsed : Parsed) (symbols : FileSymbols) : Type 0 where
  pub pool : IsPoolOf parsed.tree parsed.pool
  pub tokens : IsNonDecreasingBy (λ (t : Token). t.span.from) parsed.tokens
  pub symbols_are : symbols ≡ symbols_of parsed.tree
  pub finds : FindsClasses parsed.tree symbols.classes
