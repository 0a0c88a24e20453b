-- A row of the quoting writer is the row that the specs write out.
use Rattle.std.proofs.Common.{◌≡◌, ◌∙◌, ◌+◌, ◌<◌, ℕ, suc, List, [], ◌∷◌, ◌++◌, map, flat_map, length, Option, Some, None, ap, ap₂, refl, sym, append_assoc, append-nil, arith, Bool, true, false, cond, add-zero, eqb, eqb-true, ne_eqb, take, get_or, length-take-le, add-one, ◌≤◌}
use Rattle.std.proofs.Math.Seq.{take-suc, take-length}
use Rattle.std.proofs.lemmas.List.{length-map, map-append}
use Rattle.std.specs.Io.KnownBytes.{Appends}
use Rattle.csv.specs.Writing.{escaped, field_text, fields_text, is_blank, row_text}
use Rattle.pj_names.specs.declared.rule_row.RuleRow.{RuleRow}
use Rattle.pj_reports.specs.Borrowed.{problem_seen}
use Rattle.pj_reports.specs.CsvWriter.{quoting}
use Rattle.pj_reports.specs.ReportText.{csv_field, csv_header, csv_row, csv_rows, doubled, each_after_comma, problem_fields}
use Rattle.pj_reports.specs.Shown.{Bytes, Problem}
use Rattle.pj_reports.specs.declared.shown.Problem as borrowed

escaped-doubled : (t : Bytes) → escaped quoting t ≡ flat_map doubled t
unfolding escaped
escaped-doubled [] = refl
escaped-doubled (b ∷ rest) = go (eqb b 34) refl (escaped-doubled rest)
  where
    go : (q : Bool) → eqb b 34 ≡ q → escaped quoting rest ≡ flat_map doubled rest
        → cond q (34 ∷ b ∷ escaped quoting rest) (b ∷ escaped quoting rest) ≡ cond q (34 ∷ 34 ∷ []) (b ∷ []) ++ flat_map doubled rest
    go true e same = ap₂ (λ x t. 34 ∷ x ∷ t) (eqb-true b 34 e) same
    go false e same = ap (λ t. b ∷ t) same

field_text-is : (t : Bytes) → field_text quoting t ≡ csv_field t
field_text-is t = ap (λ s. 34 ∷ (s ++ 34 ∷ [])) (escaped-doubled t)

fields_text-is : (fs : List Bytes) → fields_text quoting fs ≡ each_after_comma (map csv_field fs)
unfolding fields_text
fields_text-is [] = refl
fields_text-is (f ∷ fs) = ap₂ (λ s t. 44 ∷ (s ++ t)) (field_text-is f) (fields_text-is fs)

pub row_text-is : (fs : List Bytes) → 0 < length fs → row_text quoting fs ≡ csv_row fs
unfolding is_blank csv_row
row_text-is [] h = absurd (omega arith)
row_text-is (f ∷ []) h =
    rw (ne_eqb (suc (length (escaped quoting f ++ 34 ∷ []))) 0 (λ e. absurd (omega arith)))
    (ap₂ (λ s t. (s ++ t) ++ 10 ∷ []) (field_text-is f) (fields_text-is []))
row_text-is (f ∷ g ∷ fs) h = ap₂ (λ s t. (s ++ t) ++ 10 ∷ []) (field_text-is f) (fields_text-is (g ∷ fs))

-- known bytes that grew
pub appended : (old new : Option Bytes) (text bs : Bytes) → old ≡ Some text → Appends old new bs → new ≡ Some (text ++ bs)
appended None new text bs e h = absurd (cc e)
appended (Some xs) None text bs e h = absurd h
appended (Some xs) (Some ys) text bs e h = rw (h, some_same e) refl
  where
    some_same : Some xs ≡ Some text → xs ≡ text
    some_same e = cc e

csv_rows-snoc : (rules : List RuleRow) (n : ℕ) (ps : List Problem) (p : Problem)
    → csv_rows rules n (ps ++ p ∷ []) ≡ csv_rows rules n ps ++ csv_row (problem_fields rules (n + length ps) p)
unfolding csv_rows
csv_rows-snoc rules n [] p = rw (add-zero n) (append-nil _)
csv_rows-snoc rules n (x ∷ ps) p =
    let same : n + 1 + length ps ≡ n + suc (length ps) = omega arith in
    ap (λ t. csv_row (problem_fields rules n x) ++ t) (csv_rows-snoc rules (n + 1) ps p ∙ ap (λ k. csv_rows rules (n + 1) ps ++ csv_row (problem_fields rules k p)) same)
    ∙ sym (append_assoc (csv_row (problem_fields rules n x)) (csv_rows rules (n + 1) ps) (csv_row (problem_fields rules (n + suc (length ps)) p)))

-- the header, and the rows of the first problems
pub table : List RuleRow → ℕ → List borrowed.Problem → Bytes
table rules i ps = csv_row csv_header ++ csv_rows rules 1 (map problem_seen (take i ps))

pub table-none : (rules : List RuleRow) (ps : List borrowed.Problem) → table rules 0 ps ≡ csv_row csv_header
unfolding table csv_rows
table-none rules ps = append-nil _

pub table-all : (rules : List RuleRow) (ps : List borrowed.Problem) → table rules (length ps) ps ≡ csv_row csv_header ++ csv_rows rules 1 (map problem_seen ps)
unfolding table
table-all rules ps = ap (λ (xs : List borrowed.Problem). csv_row csv_header ++ csv_rows rules 1 (map problem_seen xs)) (take-length ps)

pub table-next : (rules : List RuleRow) (ps : List borrowed.Problem) (i : ℕ) (p : borrowed.Problem) → i < length ps → get_or ps i p ≡ p
    → table rules (i + 1) ps ≡ table rules i ps ++ csv_row (problem_fields rules (i + 1) (problem_seen p))
unfolding table
table-next rules ps i p lt at =
    let before = map problem_seen (take i ps) in
    let le : i ≤ length ps = omega arith in
    let place : 1 + length before ≡ i + 1 = rw length-map (let len : length (take i ps) ≡ i = length-take-le i ps le in omega arith) in
    let taken : take (i + 1) ps ≡ take i ps ++ p ∷ [] = rw add-one (take-suc ps i p lt ∙ ap (λ x. take i ps ++ x ∷ []) at) in
    ap (λ (xs : List borrowed.Problem). csv_row csv_header ++ csv_rows rules 1 (map problem_seen xs)) taken
    ∙ ap (λ (xs : List Problem). csv_row csv_header ++ csv_rows rules 1 xs) (map-append problem_seen (take i ps) (p ∷ []))
    ∙ ap (λ t. csv_row csv_header ++ t) (csv_rows-snoc rules 1 before (problem_seen p) ∙ ap (λ k. csv_rows rules 1 before ++ csv_row (problem_fields rules k (problem_seen p))) place)
    ∙ sym (append_assoc (csv_row csv_header) (csv_rows rules 1 before) (csv_row (problem_fields rules (i + 1) (problem_seen p))))
