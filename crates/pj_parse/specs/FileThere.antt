-- Something comes of the bytes of each file: a proof, on which a definition rests.
use Rattle.std.proofs.Common.{◌≡◌, ◌≤◌, ◌<◌, ℕ, zero, suc, List, [], ◌∷◌, length, Result, Ok, Err, Some, refl, arith}
use Rattle.std.specs.Prelude.{slice_get}
use Rattle.std.specs.Str.{chars}
use Rattle.pj_source.specs.Escapes.{Piece}
use Rattle.pj_source.specs.SourceText.{SourceText, Translates, IsRead, IsPlaced}
use Rattle.pj_source.specs.SourceText.Translates.{ended, sub, next, bad}
use Rattle.pj_source.specs.SourceText.IsRead.{not_utf8, translated}
use Rattle.pj_source.specs.declared.source.fault.SourceFault.{SourceFault}
use Rattle.pj_source.specs.declared.source.fault.SourceFault.TheVariants as unread
use Rattle.pj_lex.specs.declared.token.LexFault.{LexFault}
use Rattle.pj_lex.proofs.Exists.{reading}
use Rattle.pj_source.proofs.FileExists.{reading_of}
use Rattle.pj_source.proofs.FileTexts.{text_placed}
use Rattle.pj_lex.proofs.Unique.{tokens_same}
use Rattle.pj_grammar.specs.Java17.{java_17_forms}
use Rattle.pj_grammar.proofs.IsWellFormed.{java_17_well_formed, some_rule}
use Rattle.pj_peg_grammar.proofs.Exists.{has_outcome}
use Rattle.pj_peg_grammar.proofs.Unique.{unique}
use Rattle.pj_tree.specs.declared.node.Place.{Place}
use Rattle.pj_parse.specs.Laws.{HasOneOutcome}
use Rattle.pj_parse.specs.Parses.{Parses, FileParsed}
use Rattle.pj_parse.specs.JavaFile.{JavaFile, java_file, IsJavaFile, bad_escape, lexical_fault, too_many_tokens, syntax_fault, too_deep, too_many_nodes, file}
use Rattle.pj_parse.specs.JavaFile.IsJavaFile.{not_utf8 as no_utf8}
use Rattle.pj_parse.specs.declared.fault.ParseFault.{ParseFault}
use Rattle.pj_parse.specs.declared.fault.ParseFault.TheVariants as unparsed
use Rattle.pj_parse.specs.declared.file_fault.FileFault.{FileFault}
use Rattle.pj_parse.specs.declared.file_fault.FileFault.TheVariants.{NotUtf8, Escape, Lexical, TooManyTokens, Syntax, TooDeep, TooManyNodes}
use Rattle.pj_parse.specs.OneOutcome.{one_of_text, ends_in_fault, never_memory_of_text}
use Rattle.pj_grammar.proofs.Stretches.{fault_stands}

-- one outcome comes of each text
pub text_outcome : (text : List ℕ) → HasOneOutcome text
text_outcome text =
    let r = reading 0 (chars text) in
    one_of_text text (λ ls ms x y. tokens_same 0 0 (chars text) (chars text) ls ms x y refl refl)
    (λ kinds. let (o, x) = has_outcome java_17_forms kinds java_17_well_formed 0 0 some_rule in (o, x, λ p y. unique java_17_forms kinds y x)) r.tokens r.reads

-- ---- want of memory is no outcome

abbrev NotMemory : Result SourceText SourceFault → Type 0
NotMemory (Ok s) = Unit {0}
NotMemory (Err (unread.NotUtf8 n)) = Unit {0}
NotMemory (Err (unread.Escape at)) = Unit {0}
NotMemory (Err unread.Memory) = ⊥

walk_not_memory : (at : Place) (ps : List Piece) (text : List ℕ) (o : Result SourceText SourceFault) → Translates at ps text o → NotMemory o
walk_not_memory _ _ _ _ (ended at ps) = tt
walk_not_memory _ _ _ _ (sub at ps text c e w rest written last) = tt
walk_not_memory _ _ _ _ (next at ps text c e w rest o written last more) = walk_not_memory _ _ rest o more
walk_not_memory _ _ _ _ (bad at ps text b) = tt

read_not_memory : (bytes : List ℕ) (o : Result SourceText SourceFault) → IsRead bytes o → NotMemory o
read_not_memory _ _ (not_utf8 bytes n v) = tt
read_not_memory _ _ (translated bytes o u t) = walk_not_memory _ _ _ o t

-- ---- the outcome

abbrev pub There : List ℕ → Type 0
There bytes = (o : Result JavaFile FileFault) × IsJavaFile bytes o

place_there : (places : List Place) (n : ℕ) → n < length places → (at : Place) × (slice_get places n ≡ Some at)
place_there [] n h = absurd (omega (arith, h))
place_there (p ∷ ps) zero h = (p, refl)
place_there (p ∷ ps) (suc n) h = place_there ps n (omega (arith, h))

lexical_there : (bytes : List ℕ) (s : SourceText) (f : LexFault) → IsRead bytes (Ok s) → Parses s.text (Err (unparsed.Lex f)) → There bytes
lexical_there bytes s f r p =
    let placed : IsPlaced s = text_placed bytes s r in
    let stands : f.offset ≤ length s.text = fault_stands s.text f placed.utf8 (ends_in_fault s.text f p) in
    let at = place_there s.places f.offset (omega (arith, stands, placed.count)) in
    (Err (Lexical f.kind at.0), lexical_fault s f at.0 r p at.1)

parsed_there : (bytes : List ℕ) (s : SourceText) (q : Result FileParsed ParseFault) → IsRead bytes (Ok s) → Parses s.text q → There bytes
parsed_there bytes s (Ok p) r q = (Ok (java_file s p), file s p r q)
parsed_there bytes s (Err (unparsed.Lex f)) r q = lexical_there bytes s f r q
parsed_there bytes s (Err (unparsed.TooManyTokens n)) r q = (Err (TooManyTokens n), too_many_tokens s n r q)
parsed_there bytes s (Err unparsed.Syntax) r q = (Err Syntax, syntax_fault s r q)
parsed_there bytes s (Err (unparsed.TooDeep depth)) r q = (Err (TooDeep depth), too_deep s depth r q)
parsed_there bytes s (Err (unparsed.TooMany count)) r q = (Err (TooManyNodes count), too_many_nodes s count r q)
parsed_there bytes s (Err unparsed.Memory) r q = absurd (never_memory_of_text s.text q)

read_there : (bytes : List ℕ) (o : Result SourceText SourceFault) → IsRead bytes o → There bytes
read_there bytes (Ok s) r = let one = text_outcome s.text in parsed_there bytes s one.outcome r one.comes
read_there bytes (Err (unread.NotUtf8 n)) r = (Err (NotUtf8 n), no_utf8 n r)
read_there bytes (Err (unread.Escape at)) r = (Err (Escape at), bad_escape at r)
read_there bytes (Err unread.Memory) r = absurd (read_not_memory bytes (Err unread.Memory) r)

pub file_there : (bytes : List ℕ) → There bytes
file_there bytes = let r = reading_of bytes in read_there bytes r.0 r.1
