-- What comes of the text of a source file: its syntax tree and its tokens, or the first fault.
use Rattle.std.specs.Prelude.{ℕ, ◌≡◌, ◌<◌, ◌≤◌, length, map, List, Result, Ok, Err}
use Rattle.pj_peg_grammar.specs.Form.{rule}
use Rattle.pj_peg_grammar.specs.Derivation.{Forest}
use Rattle.pj_peg_grammar.specs.Derives.{Derives, To, FailsAtStart}
use Rattle.pj_tree.specs.Tree.{Tree}
use Rattle.pj_tree.specs.declared.shape_fault.ShapeFault.TheVariants as shape
use Rattle.pj_shape.specs.ShapedTree.{shaped_tree}
use Rattle.pj_lex.specs.declared.token.LexFault.{LexFault}
use Rattle.pj_parse.specs.declared.fault.ParseFault.{ParseFault}
use Rattle.pj_parse.specs.declared.fault.ParseFault.TheVariants.{Lex, TooManyTokens, Syntax, TooDeep, TooMany}
use Rattle.pj_parse.specs.declared.parsing.Parsed.{Parsed}
use Rattle.pj_grammar.specs.Words.{TokenSeen, seen, AreTokens, EndsInFault, words, spans, terminals}
use Rattle.pj_grammar.specs.Java17.{java_17_forms, java_17_shapes}

-- a syntax tree, and all tokens of its text, comments included
pub record FileParsed : Type 0 where
  pub tree : Tree
  pub tokens : List TokenSeen

-- what a parsed file of the program is
abbrev pub file_parsed : Parsed → FileParsed
file_parsed p = record { tree = p.tree; tokens = map seen p.tokens }

-- how many words a file may have
abbrev pub most_words : ℕ
most_words = 200000

-- The text has these tokens, and its words are not too many.
pub record HasWords (text : List ℕ) (ts : List TokenSeen) : Type 0 where
  pub tokens : AreTokens text ts
  pub few : length (words ts) ≤ most_words

-- The grammar derives the words of the text so, from its first rule. That rule ends with a test that no word follows.
pub record HasDerivation (text : List ℕ) (ts : List TokenSeen) (d : Forest) : Type 0 where
  pub words_are : HasWords text ts
  pub end : ℕ
  pub derives : Derives java_17_forms (terminals (words ts)) (rule 0) 0 (To end d)

-- Each case is tried where none before it holds: the tokens, the number of words, the grammar, the depth of the tree, and the number of its nodes.
pub data Parses (text : List ℕ) : Result FileParsed ParseFault → Type 0 where
  lexical_fault : (f : LexFault) → EndsInFault text f → Parses text (Err (Lex f))
  too_many_tokens : (ts : List TokenSeen) → AreTokens text ts → most_words < length (words ts) → Parses text (Err (TooManyTokens (length (words ts))))
  syntax_fault : (ts : List TokenSeen) → HasWords text ts → FailsAtStart java_17_forms (terminals (words ts)) → Parses text (Err Syntax)
  too_deep : (ts : List TokenSeen) (d : Forest) (depth : ℕ) → HasDerivation text ts d → shaped_tree text (spans (words ts)) java_17_shapes d ≡ Err (shape.TooDeep depth) → Parses text (Err (TooDeep depth))
  too_many : (ts : List TokenSeen) (d : Forest) (count : ℕ) → HasDerivation text ts d → shaped_tree text (spans (words ts)) java_17_shapes d ≡ Err (shape.TooMany count) → Parses text (Err (TooMany count))
  parsed : (ts : List TokenSeen) (d : Forest) (tree : Tree) → HasDerivation text ts d → shaped_tree text (spans (words ts)) java_17_shapes d ≡ Ok tree →
      Parses text (Ok (record { tree = tree; tokens = ts }))
