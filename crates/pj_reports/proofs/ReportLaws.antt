-- Laws of the texts: a line for each row, and what a CSV reader gets back.
use Rattle.std.proofs.Common.{◌≡◌, ◌∙◌, ◌+◌, ◌++◌, ◌∷◌, [], ℕ, suc, Bool, true, false, cond, List, Some, ap, ap₂, append_assoc, eqb, eqb-true, flat_map, length, map, refl, sym}
use Rattle.std.proofs.lemmas.Grind.{flat_map-append}
use Rattle.csv.specs.Machine.{next_record}
use Rattle.csv.specs.Reading.{default_config, records_from}
use Rattle.csv.specs.Writing.{default_writer, escaped}
use Rattle.csv.specs.declared.parser.State.TheVariants as st
use Rattle.csv.proofs.RoundTrip.{quoted-run}
use Rattle.pj_names.specs.declared.rule_row.ConfigError.{ConfigError}
use Rattle.pj_names.specs.declared.rule_row.RuleRow.{RuleRow}
use Rattle.pj_reports.specs.ReportText.{csv_field, csv_header, csv_report, csv_row, csv_rows, doubled, each_after_comma, fault_line, joined, problem_fields, problem_line, text_report}
use Rattle.pj_reports.specs.Shown.{Bytes, PathError, Problem, errors, problems}
use Rattle.pj_reports.specs.TextRows.{numbered_fields, text_lines}
use Rattle.pj_reports.specs.declared.report.Report.{Report}

-- ---- text

joined-map : {A : Type 0} (line : A → Bytes) (xs : List A) → joined (map line xs) ≡ flat_map line xs
joined-map line [] = refl
joined-map line (x ∷ xs) = ap (λ t. line x ++ t) (joined-map line xs)

joined-append : (xs ys : List Bytes) → joined (xs ++ ys) ≡ joined xs ++ joined ys
joined-append xs ys = flat_map-append (λ text. text) xs ys

pub text_report-lines : (r : Report) → text_report r ≡ joined (text_lines r)
text_report-lines r =
    let of_problem : Problem → Bytes = problem_line r.rules in
    let of_error : PathError → Bytes = λ error. fault_line error.path error.message in
    let of_config : ConfigError → Bytes = λ error. fault_line error.rule error.message in
    let a = map of_problem (problems r.files) in
    let b = map of_error (errors r.files) in
    let c = map of_config r.errors in
    let parts : joined (a ++ (b ++ c)) ≡ joined a ++ (joined b ++ joined c) = joined-append a (b ++ c) ∙ ap (λ t. joined a ++ t) (joined-append b c) in
    sym (parts ∙ ap₂ (λ s t. s ++ t) (joined-map of_problem (problems r.files))
    (ap₂ (λ s t. s ++ t) (joined-map of_error (errors r.files)) (joined-map of_config r.errors)))

-- ---- CSV

doubled-escaped : (t : Bytes) → flat_map doubled t ≡ escaped default_writer t
unfolding escaped
doubled-escaped [] = refl
doubled-escaped (b ∷ rest) = go (eqb b 34) refl (doubled-escaped rest)
  where
    go : (q : Bool) → eqb b 34 ≡ q → flat_map doubled rest ≡ escaped default_writer rest
        → cond q (34 ∷ 34 ∷ []) (b ∷ []) ++ flat_map doubled rest ≡ cond q (34 ∷ b ∷ escaped default_writer rest) (b ∷ escaped default_writer rest)
    go true e same = ap₂ (λ x t. 34 ∷ x ∷ t) (sym (eqb-true b 34 e)) same
    go false e same = ap (λ t. b ∷ t) same

-- a field with what follows it
field-text : (x tail : Bytes) → csv_field x ++ tail ≡ 34 ∷ (escaped default_writer x ++ (34 ∷ tail))
field-text x tail = ap (λ t. 34 ∷ t) (append_assoc (flat_map doubled x) (34 ∷ []) tail ∙ ap (λ t. t ++ (34 ∷ tail)) (doubled-escaped x))

-- the reader between two fields: it has read `fields`
fields-run : (fields : List Bytes) (x : Bytes) (rest : List Bytes) (tail : Bytes)
    → next_record default_config st.AfterQuote fields x (each_after_comma (map csv_field rest) ++ (10 ∷ tail)) ≡ Some (fields ++ (x ∷ rest), st.StartRecord, tail)
unfolding next_record
fields-run fields x [] tail = refl
fields-run fields x (y ∷ rest) tail =
    let after = each_after_comma (map csv_field rest) ++ (10 ∷ tail) in
    let text : (csv_field y ++ each_after_comma (map csv_field rest)) ++ (10 ∷ tail) ≡ 34 ∷ (escaped default_writer y ++ (34 ∷ after)) =
    append_assoc (csv_field y) (each_after_comma (map csv_field rest)) (10 ∷ tail) ∙ field-text y after in
    ap (λ t. next_record default_config st.StartField (fields ++ (x ∷ [])) [] t) text
    ∙ quoted-run (fields ++ (x ∷ [])) [] y after ∙ fields-run (fields ++ (x ∷ [])) y rest tail
    ∙ ap (λ fs. Some (fs, st.StartRecord, tail)) (append_assoc fields (x ∷ []) (y ∷ rest))

-- a row is read back as its fields
pub csv_row-read : (x : Bytes) (rest : List Bytes) (tail : Bytes)
    → next_record default_config st.StartRecord [] [] (csv_row (x ∷ rest) ++ tail) ≡ Some (x ∷ rest, st.StartRecord, tail)
unfolding next_record csv_row
csv_row-read x rest tail =
    let after = each_after_comma (map csv_field rest) ++ (10 ∷ tail) in
    let text : ((csv_field x ++ each_after_comma (map csv_field rest)) ++ (10 ∷ [])) ++ tail ≡ 34 ∷ (escaped default_writer x ++ (34 ∷ after)) =
    append_assoc (csv_field x ++ each_after_comma (map csv_field rest)) (10 ∷ []) tail
    ∙ append_assoc (csv_field x) (each_after_comma (map csv_field rest)) (10 ∷ tail) ∙ field-text x after in
    ap (λ t. next_record default_config st.StartRecord [] [] t) text ∙ quoted-run [] [] x after ∙ fields-run [] x rest tail

rows-read : (rules : List RuleRow) (number : ℕ) (ps : List Problem)
    → records_from default_config (length ps) st.StartRecord (csv_rows rules number ps) ≡ numbered_fields rules number ps
unfolding csv_rows records_from
rows-read rules number [] = refl
rows-read rules number (p ∷ ps) =
    rw (csv_row-read _ _ (csv_rows rules (number + 1) ps)) (ap (λ t. problem_fields rules number p ∷ t) (rows-read rules (number + 1) ps))

-- the CSV text is read back as the header, and then the fields of each finding that is reported
pub csv_report-read : (r : Report)
    → records_from default_config (suc (length (problems r.files))) st.StartRecord (csv_report r) ≡ csv_header ∷ numbered_fields r.rules 1 (problems r.files)
unfolding records_from
csv_report-read r =
    rw (csv_row-read _ _ (csv_rows r.rules 1 (problems r.files))) (ap (λ t. csv_header ∷ t) (rows-read r.rules 1 (problems r.files)))
