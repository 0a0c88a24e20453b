-- What the bytes of a file are as a Java file: its text, tokens, syntax tree and pool, or the first fault.
use Rattle.std.specs.Prelude.{◌≡◌, ℕ, List, Result, Ok, Err, Some, slice_get}
use Rattle.pj_tree.specs.declared.node.Place.{Place}
use Rattle.pj_tree.specs.Tree.{Tree}
use Rattle.pj_source.specs.SourceText.{SourceText, IsRead}
use Rattle.pj_source.specs.declared.source.fault.SourceFault.TheVariants as unread
use Rattle.pj_lex.specs.declared.token.LexFault.{LexFault}
use Rattle.pj_parse.specs.PoolText.{pool_of}
use Rattle.pj_parse.specs.declared.entry.Entry.{Entry}
use Rattle.pj_grammar.specs.Words.{TokenSeen}
use Rattle.pj_parse.specs.Parses.{Parses, FileParsed}
use Rattle.pj_parse.specs.declared.fault.ParseFault.TheVariants as unparsed
use Rattle.pj_parse.specs.declared.file_fault.FileFault.{FileFault}
use Rattle.pj_parse.specs.declared.file_fault.FileFault.TheVariants.{NotUtf8, Escape, Lexical, TooManyTokens, Syntax, TooDeep, TooManyNodes}

pub record JavaFile : Type 0 where
  -- the text with its Unicode escapes translated (JLS 3.3), and the places of its bytes in the file
  pub source : SourceText
  -- all tokens, comments included
  pub tokens : List TokenSeen
  pub tree : Tree
  -- the texts of the tree's nodes that are no stretches of the text
  pub pool : List Entry

-- a file of this text that was parsed
abbrev pub java_file : SourceText → FileParsed → JavaFile
java_file s p = record { source = s; tokens = p.tokens; tree = p.tree; pool = pool_of p.tree }

-- What comes of the bytes of a file. Each case is tried where none before it holds: the bytes are read as UTF-8, Unicode escapes are
-- translated (JLS 3.3), and of the text come tokens (JLS 3.5), then a derivation, then a tree of limited depth and size.
pub data IsJavaFile (bytes : List ℕ) : Result JavaFile FileFault → Type 0 where
  not_utf8 : (n : ℕ) → IsRead bytes (Err (unread.NotUtf8 n)) → IsJavaFile bytes (Err (NotUtf8 n))
  bad_escape : (at : Place) → IsRead bytes (Err (unread.Escape at)) → IsJavaFile bytes (Err (Escape at))
  -- the fault stands at a place of the file before translation
  lexical_fault : (s : SourceText) (f : LexFault) (at : Place) → IsRead bytes (Ok s) → Parses s.text (Err (unparsed.Lex f)) → slice_get s.places f.offset ≡ Some at → IsJavaFile bytes (Err (Lexical f.kind at))
  too_many_tokens : (s : SourceText) (n : ℕ) → IsRead bytes (Ok s) → Parses s.text (Err (unparsed.TooManyTokens n)) → IsJavaFile bytes (Err (TooManyTokens n))
  syntax_fault : (s : SourceText) → IsRead bytes (Ok s) → Parses s.text (Err unparsed.Syntax) → IsJavaFile bytes (Err Syntax)
  too_deep : (s : SourceText) (depth : ℕ) → IsRead bytes (Ok s) → Parses s.text (Err (unparsed.TooDeep depth)) → IsJavaFile bytes (Err (TooDeep depth))
  too_many_nodes : (s : SourceText) (count : ℕ) → IsRead bytes (Ok s) → Parses s.text (Err (unparsed.TooMany count)) → IsJavaFile bytes (Err (TooManyNodes count))
  file : (s : SourceText) (p : FileParsed) → IsRead bytes (Ok s) → Parses s.text (Ok p) → IsJavaFile bytes (Ok (java_file s p))
