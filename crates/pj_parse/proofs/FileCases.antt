-- What comes of the bytes of a file, by what is read of them and what comes of the text.
use Rattle.std.proofs.Common.{◌≡◌, ℕ, List, Result, Ok, Err, Option, None, Some, ◌⊎◌, inl, inr, refl, sym, ◌∙◌, ap, subst}
use Rattle.std.specs.Prelude.{slice_get}
use Rattle.std.specs.Option.{option_map}
use Rattle.pj_source.specs.SourceText.{SourceText, IsRead}
use Rattle.pj_source.specs.declared.source.fault.SourceFault.{SourceFault}
use Rattle.pj_source.specs.declared.source.fault.SourceFault.TheVariants as unread
use Rattle.pj_source.proofs.SourceLaws.{same_reading}
use Rattle.pj_tree.specs.declared.node.Place.{Place}
use Rattle.pj_parse.specs.Laws.{HasOneOutcome}
use Rattle.pj_parse.specs.Parses.{Parses, FileParsed}
use Rattle.pj_parse.specs.JavaFile.{JavaFile, java_file, IsJavaFile, not_utf8, bad_escape, lexical_fault, too_many_tokens, syntax_fault, too_deep, too_many_nodes, file}
use Rattle.pj_parse.specs.Refused.{fault_unread, fault_unparsed}
use Rattle.pj_parse.specs.declared.fault.ParseFault.{ParseFault}
use Rattle.pj_parse.specs.declared.fault.ParseFault.TheVariants as unparsed
use Rattle.pj_parse.specs.declared.file_fault.FileFault.{FileFault}
use Rattle.pj_parse.specs.declared.file_fault.FileFault.TheVariants.{NotUtf8, Escape, Lexical, TooManyTokens, Syntax, TooDeep, TooManyNodes}

abbrev pub Outcome : Type 0
Outcome = Result JavaFile FileFault

abbrev pub faulty : Option FileFault → Option Outcome
faulty f = option_map (λ x. Err x) f

-- what comes of a file of this text, of which this came
abbrev pub of_text : SourceText → Result FileParsed ParseFault → Option Outcome
of_text s (Ok p) = Some (Ok (java_file s p))
of_text s (Err f) = faulty (fault_unparsed s f)

some_fault : (x y : FileFault) → Some x ≡ Some y → x ≡ y
some_fault x y e = cc

same_fault : (bytes : List ℕ) (x y : FileFault) → Some x ≡ Some y → IsJavaFile bytes (Err x) → IsJavaFile bytes (Err y)
same_fault bytes x y e h = subst (λ (f : FileFault). IsJavaFile bytes (Err f)) (some_fault x y e) h

-- ---- a fault is one of the file

pub from_unread : (bytes : List ℕ) (f : SourceFault) (g : FileFault) → IsRead bytes (Err f) → fault_unread f ≡ Some g → IsJavaFile bytes (Err g)
from_unread bytes (unread.NotUtf8 n) g r e = same_fault bytes (NotUtf8 n) g e (not_utf8 n r)
from_unread bytes (unread.Escape at) g r e = same_fault bytes (Escape at) g e (bad_escape at r)
from_unread bytes unread.Memory g r e = absurd (cc)

pub from_unparsed : (bytes : List ℕ) (s : SourceText) (f : ParseFault) (g : FileFault) → IsRead bytes (Ok s) → Parses s.text (Err f) → fault_unparsed s f ≡ Some g → IsJavaFile bytes (Err g)
from_unparsed bytes s (unparsed.Lex f) g r p e = by_place (slice_get s.places f.offset) refl e
  where
    by_place : (o : Option Place) → slice_get s.places f.offset ≡ o → option_map (λ at. Lexical f.kind at) o ≡ Some g → IsJavaFile bytes (Err g)
    by_place None is h = absurd (cc)
    by_place (Some at) is h = same_fault bytes (Lexical f.kind at) g h (lexical_fault s f at r p is)
from_unparsed bytes s (unparsed.TooManyTokens n) g r p e = same_fault bytes (TooManyTokens n) g e (too_many_tokens s n r p)
from_unparsed bytes s unparsed.Syntax g r p e = same_fault bytes Syntax g e (syntax_fault s r p)
from_unparsed bytes s (unparsed.TooDeep depth) g r p e = same_fault bytes (TooDeep depth) g e (too_deep s depth r p)
from_unparsed bytes s (unparsed.TooMany count) g r p e = same_fault bytes (TooManyNodes count) g e (too_many_nodes s count r p)
from_unparsed bytes s unparsed.Memory g r p e = absurd (cc)

-- ---- what comes of a file came so

abbrev Cases : List ℕ → Outcome → Type 0
Cases bytes o =
    ((f : SourceFault) × (IsRead bytes (Err f) × (faulty (fault_unread f) ≡ Some o)))
    ⊎ ((s : SourceText) × ((q : Result FileParsed ParseFault) × (IsRead bytes (Ok s) × (Parses s.text q × (of_text s q ≡ Some o)))))

cases : (bytes : List ℕ) (o : Outcome) → IsJavaFile bytes o → Cases bytes o
cases bytes _ (not_utf8 n r) = inl (unread.NotUtf8 n, (r, refl))
cases bytes _ (bad_escape at r) = inl (unread.Escape at, (r, refl))
cases bytes _ (lexical_fault s f at r p is) = inr (s, (Err (unparsed.Lex f), (r, (p, ap (λ (o : Option Place). faulty (option_map (λ x. Lexical f.kind x) o)) is))))
cases bytes _ (too_many_tokens s n r p) = inr (s, (Err (unparsed.TooManyTokens n), (r, (p, refl))))
cases bytes _ (syntax_fault s r p) = inr (s, (Err unparsed.Syntax, (r, (p, refl))))
cases bytes _ (too_deep s depth r p) = inr (s, (Err (unparsed.TooDeep depth), (r, (p, refl))))
cases bytes _ (too_many_nodes s count r p) = inr (s, (Err (unparsed.TooMany count), (r, (p, refl))))
cases bytes _ (file s q r p) = inr (s, (Ok q, (r, (p, refl))))

abbrev SameReading : Result SourceText SourceFault → Result SourceText SourceFault → Type 0
SameReading x y = x ≡ y

unread_same : (f g : SourceFault) → SameReading (Err f) (Err g) → f ≡ g
unread_same f g e = cc

text_same : (s t : SourceText) → SameReading (Ok s) (Ok t) → s ≡ t
text_same s t e = cc

not_both : (f : SourceFault) (s : SourceText) → SameReading (Err f) (Ok s) → ⊥
not_both f s e = cc

some_outcome : (o p : Outcome) → Some o ≡ Some p → o ≡ p
some_outcome o p e = cc

same_by_text : (s : SourceText) (q t : Result FileParsed ParseFault) (o p : Outcome) → HasOneOutcome s.text → Parses s.text q → Parses s.text t → of_text s q ≡ Some o → of_text s t ≡ Some p → o ≡ p
same_by_text s q t o p one x y e h =
    let same : q ≡ t = one.one q x ∙ sym (one.one t y) in
    some_outcome o p (sym e ∙ (ap (of_text s) same ∙ h))

same_cases : ((text : List ℕ) → HasOneOutcome text) → (bytes : List ℕ) (o p : Outcome) → Cases bytes o → Cases bytes p → o ≡ p
same_cases one bytes o p (inl (f, (r, e))) (inl (g, (t, h))) =
    some_outcome o p (sym e ∙ (ap (λ (x : SourceFault). faulty (fault_unread x)) (unread_same f g (same_reading bytes (Err f) (Err g) r t)) ∙ h))
same_cases one bytes o p (inl (f, (r, e))) (inr (s, (q, (t, rest)))) = absurd (not_both f s (same_reading bytes (Err f) (Ok s) r t))
same_cases one bytes o p (inr (s, (q, (r, rest)))) (inl (g, (t, h))) = absurd (not_both g s (same_reading bytes (Err g) (Ok s) t r))
same_cases one bytes o p (inr (s, (q, (r, (x, e))))) (inr (v, (t, (u, (y, h))))) =
    let same : s ≡ v = text_same s v (same_reading bytes (Ok s) (Ok v) r u) in
    let there : Parses v.text q = subst (λ (w : SourceText). Parses w.text q) same x in
    let is : of_text v q ≡ Some o = subst (λ (w : SourceText). of_text w q ≡ Some o) same e in
    same_by_text v q t o p (one v.text) there y is h

pub same_file : ((text : List ℕ) → HasOneOutcome text) → (bytes : List ℕ) (o p : Outcome) → IsJavaFile bytes o → IsJavaFile bytes p → o ≡ p
same_file one bytes o p x y = same_cases one bytes o p (cases bytes o x) (cases bytes p y)

-- the text of a file is read of its bytes
pub read_of_file : (bytes : List ℕ) (f : JavaFile) → IsJavaFile bytes (Ok f) → IsRead bytes (Ok f.source)
read_of_file bytes _ (file s p r q) = r
