-- What a refusal says of the bytes of a file, for the clauses of calls that read one.
use Rattle.std.specs.Prelude.{◌≡◌, ◌≤◌, ℕ, List, length, map, Err, Option, None, Some, slice_get}
use Rattle.std.specs.Option.{option_map}
use Rattle.pj_source.specs.SourceText.{SourceText}
use Rattle.pj_lex.specs.declared.token.LexFault.{LexFault}
use Rattle.pj_source.specs.declared.source.fault.SourceFault.{SourceFault}
use Rattle.pj_source.specs.declared.source.fault.SourceFault.TheVariants as unread
use Rattle.pj_parse.specs.JavaFile.{JavaFile, IsJavaFile}
use Rattle.pj_grammar.specs.Words.{seen}
use Rattle.pj_parse.specs.declared.parsing.Parsed.{Parsed}
use Rattle.pj_parse.specs.declared.fault.ParseFault.{ParseFault}
use Rattle.pj_parse.specs.declared.fault.ParseFault.TheVariants as unparsed
use Rattle.pj_parse.specs.declared.file_fault.FileFault.{FileFault}
use Rattle.pj_parse.specs.declared.file_fault.FileFault.TheVariants.{NotUtf8, Escape, Lexical, TooManyTokens, Syntax, TooDeep, TooManyNodes}
use Rattle.pj_parse.specs.declared.file_fault.FileRefused.{FileRefused}
use Rattle.pj_parse.specs.declared.file_fault.FileRefused.TheVariants.{Fault, Memory}

-- The bytes have this fault, or memory was wanting.
abbrev pub IsRefused : List ℕ → FileRefused → Type 0
IsRefused bytes (Fault f) = IsJavaFile bytes (Err f)
IsRefused bytes Memory = Unit {0}

-- what a file of the program is that was read and parsed
abbrev pub file_seen : SourceText → Parsed → JavaFile
file_seen s p = record { source = s; tokens = map seen p.tokens; tree = p.tree; pool = p.pool }

-- ---- for the private clauses

-- what a fault of bytes is, in a file; want of memory is none
abbrev pub fault_unread : SourceFault → Option FileFault
fault_unread (unread.NotUtf8 n) = Some (NotUtf8 n)
fault_unread (unread.Escape at) = Some (Escape at)
fault_unread unread.Memory = None

-- what a fault of a text is, in a file
abbrev pub fault_unparsed : SourceText → ParseFault → Option FileFault
fault_unparsed s (unparsed.Lex f) = option_map (λ at. Lexical f.kind at) (slice_get s.places f.offset)
fault_unparsed s (unparsed.TooManyTokens n) = Some (TooManyTokens n)
fault_unparsed s unparsed.Syntax = Some Syntax
fault_unparsed s (unparsed.TooDeep depth) = Some (TooDeep depth)
fault_unparsed s (unparsed.TooMany count) = Some (TooManyNodes count)
fault_unparsed s unparsed.Memory = None

abbrev pub refused_by : Option FileFault → FileRefused
refused_by (Some f) = Fault f
refused_by None = Memory

-- a fault among the tokens of a text stands in it
abbrev pub StandsIn : SourceText → ParseFault → Type 0
StandsIn s f = (lex : LexFault) → f ≡ unparsed.Lex lex → lex.offset ≤ length s.text
