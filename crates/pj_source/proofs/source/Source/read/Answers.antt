use Rattle.std.proofs.Common.{◌≡◌, arith, sym, ap, ◌∙◌, subst, inl, inr, ℕ, List, [], Result, MatchResult, IsErrAnd, ◌⊎◌, Ok, Err, length}
use Rattle.std.specs.Str.{chars, IsUtf8}
use Rattle.pj_tree.specs.declared.node.Place.{Place}
use Rattle.pj_tree.specs.Places.{first_place}
use Rattle.pj_source.specs.Escapes.{place_behind_all}
use Rattle.pj_source.specs.SourceText.{SourceText, Translates, IsRead, byte_order_mark, behind_byte_order_mark}
use Rattle.pj_source.specs.SourceText.IsRead.{not_utf8, translated}
use Rattle.pj_source.specs.Translating.{IsTranslated}
use Rattle.pj_source.specs.declared.source.fault.SourceFault.{SourceFault}
use Rattle.pj_source.specs.declared.source.fault.SourceFault.TheVariants.{Memory}
use Rattle.pj_source.proofs.SourceLaws.{same_reading}
use Rattle.pj_source.proofs.UntouchedLaws.{read_untouched}
use Rattle.pj_source.proofs.WritingLaws.{result_stops, written_out}
use Rattle.pj_source.proofs.source.Source.read.Goals as goal

-- what comes of the characters behind the byte order mark comes of the bytes
reads : (bytes file body : List ℕ) (place at : Place) (o : Result SourceText SourceFault) → file ≡ bytes → IsUtf8 bytes → body ≡ behind_byte_order_mark (chars file)
    → place ≡ place_behind_all first_place (byte_order_mark (chars file)) (behind_byte_order_mark (chars file)) → at ≡ place → Translates at [] body o → IsRead bytes o
reads bytes file body place at o is utf8 behind begins same t =
    translated bytes o utf8 (subst (λ (p : Place). Translates p [] (behind_byte_order_mark (chars bytes)) o) (same ∙ (begins ∙ ap (λ (f : List ℕ). place_behind_all first_place (byte_order_mark (chars f)) (behind_byte_order_mark (chars f))) is))
    (subst (λ (b : List ℕ). Translates at [] b o) (behind ∙ ap (λ (f : List ℕ). behind_byte_order_mark (chars f)) is) t))

pub returns-in-Err-clause-read : goal.returns-in-Err-clause-read
returns-in-Err-clause-read c = inr (not_utf8 c.args.bytes.now c.valid_up_to.result (rw c.valid_up_to.ensures c.in-Err.ensures.cases.1))

pub returns-in-Err-clause-one : goal.returns-in-Err-clause-one
returns-in-Err-clause-one c = same_reading c.args.bytes.now

pub returns-in_err-translation-clause-one : goal.returns-in_err-translation-clause-one
returns-in_err-translation-clause-one c = same_reading c.args.bytes.now

pub returns-in_err-read-clause-one : goal.returns-in_err-read-clause-one
returns-in_err-read-clause-one c = same_reading c.args.bytes.now

pub returns-in_err-finish-clause-one : goal.returns-in_err-finish-clause-one
returns-in_err-finish-clause-one c = same_reading c.args.bytes.now

pub returns-clause-one : goal.returns-clause-one
returns-clause-one c = same_reading c.args.bytes.now

pub read-requires : goal.read-requires
read-requires c =
    let file : length c.in-Ok.file.now ≡ length c.args.bytes.now = ap length c.in-Ok.ensures.cases.0 in
    record { made = c.in_ok-translation.ensures.made (length c.behind_mark.result.0.now) (omega (arith, file, c.behind_mark.ensures.len, c.requires.length)) (omega (arith, file, c.behind_mark.ensures.column, c.requires.length)) (omega (arith, file, c.behind_mark.ensures.len, c.behind_mark.ensures.line, c.requires.length)) }

-- a fault that is handed on
handed_on : (r : Result SourceText SourceFault) (fault : SourceFault) (P : SourceText → Type 0) (Q : SourceFault → Type 0) → IsErrAnd r (λ e. e ≡ fault) → Q fault → MatchResult r P Q
handed_on (Ok s) fault P Q is q = absurd is
handed_on (Err e) fault P Q is q = subst Q (sym is) q

pub returns-in_err-read-clause-read : goal.returns-in_err-read-clause-read
returns-in_err-read-clause-read c =
    let fault : SourceFault = c.in_err-read.field-0.0 in
    handed_on c.from_residual-in_err-read.result fault (λ s. IsRead c.args.bytes.now (Ok s)) (λ e. (e ≡ Memory) ⊎ IsRead c.args.bytes.now (Err e)) c.from_residual-in_err-read.ensures.1 (elim c.in_err-read.ensures.read [
      | inl m ↦ inl m
      | inr t ↦ inr (reads c.args.bytes.now c.in-Ok.file.now (chars c.behind_mark.result.0.now) c.behind_mark.result.1 c.in_ok-translation.translation.place (Err fault) c.in-Ok.ensures.cases.0 c.in-Ok.ensures.cases.1 c.behind_mark.ensures.chars c.behind_mark.ensures.place c.in_ok-translation.ensures.place t)
    ])

pub returns-clause-read : goal.returns-clause-read
returns-clause-read c =
    let t : IsTranslated c.in_ok-translation.translation.place (chars c.behind_mark.result.0.now) c.read.new.self = c.in_ok-read.ensures.read in
    reads c.args.bytes.now c.in-Ok.file.now (chars c.behind_mark.result.0.now) c.behind_mark.result.1 c.in_ok-translation.translation.place (Ok c.in_ok-finish.field-0) c.in-Ok.ensures.cases.0 c.in-Ok.ensures.cases.1 c.behind_mark.ensures.chars c.behind_mark.ensures.place c.in_ok-translation.ensures.place
    (subst (λ (s : SourceText). Translates c.in_ok-translation.translation.place [] (chars c.behind_mark.result.0.now) (Ok s)) (sym (c.in_ok-finish.ensures.source t.pieces t.left t.made)) t.translates)

pub returns-clause-len : goal.returns-clause-len
returns-clause-len c =
    let file : length c.in-Ok.file.now ≡ length c.args.bytes.now = ap length c.in-Ok.ensures.cases.0 in
    omega (arith, file, c.behind_mark.ensures.len, c.in_ok-translation.ensures.len, c.in_ok-read.ensures.len, c.in_ok-finish.ensures.len)

pub returns-clause-as_written : goal.returns-clause-as_written
returns-clause-as_written c = λ h. read_untouched c.args.bytes.now c.in_ok-finish.field-0 (returns-clause-read c) h

pub returns-clause-written_out : goal.returns-clause-written_out
returns-clause-written_out c = written_out c.args.bytes.now c.in_ok-finish.field-0 (returns-clause-read c)

pub returns-in_err-read-clause-stops : goal.returns-in_err-read-clause-stops
returns-in_err-read-clause-stops c = result_stops c.args.bytes.now c.from_residual-in_err-read.result (λ s. IsRead c.args.bytes.now (Ok s)) (returns-in_err-read-clause-read c)
