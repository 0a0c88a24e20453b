-- Laws of rows in format 1: their bytes are their text.
use Rattle.std.proofs.Common.{◌≡◌, ℕ, suc, ◌-◌, ◌<◌, ◌^◌, Bool, true, false, cond, eqb, List, [], ◌∷◌, ◌++◌, Option, Some, None, refl, sym, ap, ◌∙◌, arith}
use Rattle.std.proofs.lemmas.Bool.{eqb-true, eqb-false}
use Rattle.pj_format.specs.Format.{Done, ◌>>=◌}
use Rattle.pj_format.specs.Fields.{u8_as, u32}
use Rattle.pj_format.proofs.Parts.{IsText, text_next, text_as, text_made}
use Rattle.pj_tree.specs.declared.node.Place.{Place}
use Rattle.pj_reports.specs.declared.rows.Reason.{Reason}
use Rattle.pj_reports.specs.declared.rows.Finding.{Finding}
use Rattle.pj_reports.specs.declared.rows.FileError.{FileError}
use Rattle.pj_reports.specs.declared.rows.FileRows.{FileRows}
use Rattle.pj_cache_format.specs.Judges.{text}
use Rattle.pj_cache_format.specs.FormatTwo.{reason_of, place}
use Rattle.pj_cache_format.specs.Texts.{number, string, counted}
use Rattle.pj_cache_format.specs.TextTwo.{place_text, reason_byte}
use Rattle.pj_cache_format.specs.Fitting.{FitsPlace, FitsText}
use Rattle.pj_cache_format.proofs.AnswerLaws.{u32_law, text_text, counted_text}
use Rattle.pj_cache_format.proofs.ResultLaws.{reason_law, reason_below, place_law}
use Rattle.pj_old_format.specs.FormatOne.{finding, finding_list, rule_named, error, error_list, file_rows}
use Rattle.pj_old_format.specs.TextOne.{finding_text, rule_number, error_text, file_rows_text}
use Rattle.pj_old_format.specs.FittingOne.{FitsFinding, FitsError}
use Rattle.pj_old_format.proofs.WholeOne.{AreFindings, AreErrors, AreFileRows}

-- ---- findings

abbrev finding_made : ℕ → ℕ → Place → Place → Option Reason → Finding
finding_made rule node begin end reason = record { rule = rule; node = node; begin = begin; end = end; reason = reason }

abbrev IsReason : Option Reason → Type 0
IsReason r = (reason_byte r < 256) × Unit {0}

abbrev reason_text : Finding → List ℕ
reason_text y = reason_byte y.reason ∷ []

abbrev end_text : Finding → List ℕ
end_text y = place_text y.end ++ reason_text y

abbrev begin_text : Finding → List ℕ
begin_text y = place_text y.begin ++ end_text y

abbrev node_text : Finding → List ℕ
node_text y = number y.node ++ begin_text y

finding_reason : (rule node : ℕ) (begin end : Place) → IsText (u8_as reason_of >>= λ reason. Done (finding_made rule node begin end reason)) reason_text (λ y. IsReason y.reason × (y ≡ finding_made rule node begin end y.reason))
finding_reason rule node begin end = text_made (u8_as reason_of) (finding_made rule node begin end) (λ y. y.reason) (λ (r : Option Reason). reason_byte r ∷ []) IsReason (λ r g. refl) reason_law

finding_end : (rule node : ℕ) (begin : Place) → IsText (place >>= λ end. u8_as reason_of >>= λ reason. Done (finding_made rule node begin end reason)) end_text (λ y. FitsPlace y.end × (IsReason y.reason × (y ≡ finding_made rule node begin y.end y.reason)))
finding_end rule node begin =
    text_next place (λ end. u8_as reason_of >>= λ reason. Done (finding_made rule node begin end reason)) place_text FitsPlace reason_text (λ end y. IsReason y.reason × (y ≡ finding_made rule node begin end y.reason)) (λ y. y.end)
    place_law (finding_reason rule node begin) (λ end y g h. ap (λ (z : Finding). z.end) h.1)

finding_begin : (rule node : ℕ) → IsText (place >>= λ begin. place >>= λ end. u8_as reason_of >>= λ reason. Done (finding_made rule node begin end reason)) begin_text (λ y. FitsPlace y.begin × (FitsPlace y.end × (IsReason y.reason × (y ≡ finding_made rule node y.begin y.end y.reason))))
finding_begin rule node =
    text_next place (λ begin. place >>= λ end. u8_as reason_of >>= λ reason. Done (finding_made rule node begin end reason)) place_text FitsPlace end_text (λ begin y. FitsPlace y.end × (IsReason y.reason × (y ≡ finding_made rule node begin y.end y.reason))) (λ y. y.begin)
    place_law (finding_end rule node) (λ begin y g h. ap (λ (z : Finding). z.begin) h.1.1)

abbrev Is32 : ℕ → Type 0
Is32 n = n < 2 ^ 32

finding_node : (rule : ℕ) → IsText (u32 >>= λ node. place >>= λ begin. place >>= λ end. u8_as reason_of >>= λ reason. Done (finding_made rule node begin end reason)) node_text (λ y. Is32 y.node × (FitsPlace y.begin × (FitsPlace y.end × (IsReason y.reason × (y ≡ finding_made rule y.node y.begin y.end y.reason)))))
finding_node rule =
    text_next u32 (λ node. place >>= λ begin. place >>= λ end. u8_as reason_of >>= λ reason. Done (finding_made rule node begin end reason)) number Is32 begin_text (λ node y. FitsPlace y.begin × (FitsPlace y.end × (IsReason y.reason × (y ≡ finding_made rule node y.begin y.end y.reason)))) (λ y. y.node)
    u32_law (finding_begin rule) (λ node y g h. ap (λ (z : Finding). z.node) h.1.1.1)

finding_law : IsText finding finding_text FitsFinding
unfolding finding
finding_law =
    text_as (u32 >>= λ rule. u32 >>= λ node. place >>= λ begin. place >>= λ end. u8_as reason_of >>= λ reason. Done (finding_made rule node begin end reason)) finding_text finding_text
    (λ y. Is32 y.rule × (Is32 y.node × (FitsPlace y.begin × (FitsPlace y.end × (IsReason y.reason × (y ≡ finding_made y.rule y.node y.begin y.end y.reason)))))) FitsFinding
    (text_next u32 (λ rule. u32 >>= λ node. place >>= λ begin. place >>= λ end. u8_as reason_of >>= λ reason. Done (finding_made rule node begin end reason)) number Is32 node_text (λ rule y. Is32 y.node × (FitsPlace y.begin × (FitsPlace y.end × (IsReason y.reason × (y ≡ finding_made rule y.node y.begin y.end y.reason))))) (λ y. y.rule)
    u32_law finding_node (λ rule y g h. ap (λ (z : Finding). z.rule) h.1.1.1.1))
    (λ y h. ((h.0, h.1.0, h.1.1.0, h.1.1.1.0), refl))
    (λ y h. ((h.0, (h.1, (h.2, (h.3, ((reason_below y.reason, tt), refl))))), refl))

finding_list_law : IsText finding_list (counted finding_text) AreFindings
unfolding finding_list
finding_list_law = counted_text finding finding_text FitsFinding finding_law

-- ---- errors

number_by : (n : ℕ) (b : Bool) → eqb n 0 ≡ b → rule_number (cond b None (Some (n - 1))) ≡ n
number_by n true e = sym (eqb-true n 0 e)
number_by n false e = omega (arith, eqb-false n 0 e)

-- what a number names has this number
number_named : (n : ℕ) → rule_number (rule_named n) ≡ n
number_named n = number_by n (eqb n 0) refl

abbrev some_rule : ℕ → Option ℕ
some_rule n = Some n

named_by : (r : ℕ) (b : Bool) → eqb (suc r) 0 ≡ b → cond b None (some_rule (suc r - 1)) ≡ Some r
named_by r true e = absurd (omega (arith, eqb-true (suc r) 0 e))
named_by r false e =
    let same : suc r - 1 ≡ r = omega arith in
    ap some_rule same

named_again : (r : Option ℕ) → rule_named (rule_number r) ≡ r
named_again None = refl
named_again (Some r) = named_by r (eqb (suc r) 0) refl

abbrev error_made : ℕ → List ℕ → FileError
error_made n message = record { rule = rule_named n; message = message }

error_message : (n : ℕ) → IsText (text >>= λ message. Done (error_made n message)) (λ y. string y.message) (λ y. FitsText y.message × (y ≡ error_made n y.message))
error_message n = text_made text (error_made n) (λ y. y.message) string FitsText (λ message g. refl) text_text

error_to : (y : FileError) → y ≡ error_made (rule_number y.rule) y.message
error_to y =
    let made : Option ℕ → FileError = λ r. record { rule = r; message = y.message } in
    ap made (sym (named_again y.rule))

error_law : IsText error error_text FitsError
unfolding error
error_law =
    text_as (u32 >>= λ n. text >>= λ message. Done (error_made n message)) error_text error_text (λ y. Is32 (rule_number y.rule) × (FitsText y.message × (y ≡ error_made (rule_number y.rule) y.message))) FitsError
    (text_next u32 (λ n. text >>= λ message. Done (error_made n message)) number Is32 (λ y. string y.message) (λ n y. FitsText y.message × (y ≡ error_made n y.message)) (λ y. rule_number y.rule)
    u32_law error_message (λ n y g h. ap (λ (z : FileError). rule_number z.rule) h.1 ∙ number_named n))
    (λ y h. ((h.0, h.1.0), refl)) (λ y h. ((h.0, (h.1, error_to y)), refl))

error_list_law : IsText error_list (counted error_text) AreErrors
unfolding error_list
error_list_law = counted_text error error_text FitsError error_law

-- ---- rows

abbrev rows_made : List ℕ → List Finding → List FileError → FileRows
rows_made package_name findings errors = record { «package» = package_name; findings = findings; errors = errors }

rows_errors : (package_name : List ℕ) (findings : List Finding) → IsText (error_list >>= λ errors. Done (rows_made package_name findings errors)) (λ y. counted error_text y.errors) (λ y. AreErrors y.errors × (y ≡ rows_made package_name findings y.errors))
rows_errors package_name findings = text_made error_list (rows_made package_name findings) (λ y. y.errors) (counted error_text) AreErrors (λ errors g. refl) error_list_law

rows_findings : (package_name : List ℕ) → IsText (finding_list >>= λ findings. error_list >>= λ errors. Done (rows_made package_name findings errors)) (λ y. counted finding_text y.findings ++ counted error_text y.errors) (λ y. AreFindings y.findings × (AreErrors y.errors × (y ≡ rows_made package_name y.findings y.errors)))
rows_findings package_name =
    text_next finding_list (λ findings. error_list >>= λ errors. Done (rows_made package_name findings errors)) (counted finding_text) AreFindings (λ y. counted error_text y.errors) (λ findings y. AreErrors y.errors × (y ≡ rows_made package_name findings y.errors)) (λ y. y.findings)
    finding_list_law (rows_errors package_name) (λ findings y g h. ap (λ (z : FileRows). z.findings) h.1)

pub file_rows_law : IsText file_rows file_rows_text AreFileRows
unfolding file_rows
file_rows_law =
    text_as (text >>= λ package_name. finding_list >>= λ findings. error_list >>= λ errors. Done (rows_made package_name findings errors)) file_rows_text file_rows_text (λ y. FitsText y.«package» × (AreFindings y.findings × (AreErrors y.errors × (y ≡ rows_made y.«package» y.findings y.errors)))) AreFileRows
    (text_next text (λ package_name. finding_list >>= λ findings. error_list >>= λ errors. Done (rows_made package_name findings errors)) string FitsText (λ y. counted finding_text y.findings ++ counted error_text y.errors) (λ package_name y. AreFindings y.findings × (AreErrors y.errors × (y ≡ rows_made package_name y.findings y.errors))) (λ y. y.«package»)
    text_text rows_findings (λ package_name y g h. ap (λ (z : FileRows). z.«package») h.1.1))
    (λ y h. ((h.0, h.1.0, h.1.1.0), refl)) (λ y h. ((h.0, (h.1, (h.2, refl))), refl))
