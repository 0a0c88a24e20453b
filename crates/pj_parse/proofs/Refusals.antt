-- What a call on a file says of its bytes.
use Rattle.std.proofs.Common.{◌≡◌, ◌≤◌, ℕ, List, length, map, Ok, Err, Option, None, Some, ◌⊎◌, inl, inr, refl, sym, ◌∙◌, ap, subst}
use Rattle.pj_source.specs.SourceText.{SourceText, IsRead}
use Rattle.pj_source.specs.declared.source.fault.SourceFault.{SourceFault}
use Rattle.pj_source.specs.declared.source.fault.SourceFault.TheVariants as unread
use Rattle.pj_parse.specs.PoolText.{pool_of}
use Rattle.pj_parse.specs.declared.entry.Entry.{Entry}
use Rattle.pj_parse.specs.JavaFile.{JavaFile, IsJavaFile, file}
use Rattle.pj_parse.specs.Parses.{Parses, file_parsed}
use Rattle.pj_lex.specs.declared.token.LexFault.{LexFault}
use Rattle.pj_parse.specs.Refused.{IsRefused, StandsIn, file_seen, fault_unread, fault_unparsed, refused_by}
use Rattle.pj_grammar.specs.Words.{seen}
use Rattle.pj_parse.specs.declared.fault.ParseFault.{ParseFault}
use Rattle.pj_parse.specs.declared.fault.ParseFault.TheVariants as unparsed
use Rattle.pj_parse.specs.declared.file_fault.FileFault.{FileFault}
use Rattle.pj_parse.specs.declared.file_fault.FileRefused.{FileRefused}
use Rattle.pj_parse.specs.declared.parsing.Parsed.{Parsed}
use Rattle.pj_parse.proofs.FileCases.{from_unread, from_unparsed}

pub refused_bytes : (bytes : List ℕ) (f : SourceFault) (r : FileRefused) → (f ≡ unread.Memory) ⊎ IsRead bytes (Err f) → r ≡ refused_by (fault_unread f) → IsRefused bytes r
refused_bytes bytes f r (inl m) e = subst (IsRefused bytes) (sym (e ∙ ap (λ (x : SourceFault). refused_by (fault_unread x)) m)) tt
refused_bytes bytes f r (inr h) e = subst (IsRefused bytes) (sym e) (by_fault (fault_unread f) refl)
  where
    by_fault : (g : Option FileFault) → fault_unread f ≡ g → IsRefused bytes (refused_by g)
    by_fault None is = tt
    by_fault (Some x) is = from_unread bytes f x h is

pub refused_text : (bytes : List ℕ) (s : SourceText) (f : ParseFault) (r : FileRefused) → IsRead bytes (Ok s) → (f ≡ unparsed.Memory) ⊎ Parses s.text (Err f) → r ≡ refused_by (fault_unparsed s f) → IsRefused bytes r
refused_text bytes s f r read (inl m) e = subst (IsRefused bytes) (sym (e ∙ ap (λ (x : ParseFault). refused_by (fault_unparsed s x)) m)) tt
refused_text bytes s f r read (inr h) e = subst (IsRefused bytes) (sym e) (by_fault (fault_unparsed s f) refl)
  where
    by_fault : (g : Option FileFault) → fault_unparsed s f ≡ g → IsRefused bytes (refused_by g)
    by_fault None is = tt
    by_fault (Some x) is = from_unparsed bytes s f x read h is

pub parsed_file : (bytes : List ℕ) (s : SourceText) (p : Parsed) → IsRead bytes (Ok s) → Parses s.text (Ok (file_parsed p)) → p.pool ≡ pool_of p.tree → IsJavaFile bytes (Ok (file_seen s p))
parsed_file bytes s p read h e =
    let made : List Entry → JavaFile = λ pool. record { source = s; tokens = map seen p.tokens; tree = p.tree; pool = pool } in
    subst (λ (pool : List Entry). IsJavaFile bytes (Ok (made pool))) (sym e) (file s (file_parsed p) read h)

-- a fault of a text, if it is one among its tokens, stands in the text
pub stands_in : (s : SourceText) (t : List ℕ) (f : ParseFault) → t ≡ s.text → (f ≡ unparsed.Memory) ⊎ Parses s.text (Err f) → ((lex : LexFault) → Parses t (Err (unparsed.Lex lex)) → lex.offset ≤ length t) → StandsIn s f
stands_in s t f e (inl m) all lex is = let no_way : unparsed.Memory ≡ unparsed.Lex lex = sym m ∙ is in absurd (cc)
stands_in s t f e (inr p) all lex is =
    let here : Parses s.text (Err (unparsed.Lex lex)) = subst (λ (g : ParseFault). Parses s.text (Err g)) is p in
    let there : Parses t (Err (unparsed.Lex lex)) = subst (λ (x : List ℕ). Parses x (Err (unparsed.Lex lex))) (sym e) here in
    subst (λ (x : List ℕ). lex.offset ≤ length x) e (all lex there)
