-- The text of a cache in format 1.
use Rattle.std.specs.Prelude.{ℕ, suc, List, [], ◌∷◌, ◌++◌, map, Option, Some, None}
use Rattle.pj_names.specs.ClassName.{Name}
use Rattle.pj_reports.specs.declared.rows.Finding.{Finding}
use Rattle.pj_reports.specs.declared.rows.FileError.{FileError}
use Rattle.pj_reports.specs.declared.rows.FileRows.{FileRows}
use Rattle.pj_cache.specs.Places.{place_in}
use Rattle.pj_cache.specs.declared.old.OldEntry.{OldEntry}
use Rattle.pj_cache.specs.declared.old.OldCache.{OldCache}
use Rattle.pj_cache_format.specs.Texts.{number, string, counted, answer_text}
use Rattle.pj_cache_format.specs.TextTwo.{place_text, reason_byte}
use Rattle.pj_cache_format.specs.Decoded.{magic, sealed}

abbrev pub finding_text : Finding → List ℕ
finding_text f = number f.rule ++ (number f.node ++ (place_text f.begin ++ (place_text f.end ++ reason_byte f.reason ∷ [])))

-- 0 without a rule, else its number, plus 1
abbrev pub rule_number : Option ℕ → ℕ
rule_number None = 0
rule_number (Some rule) = suc rule

abbrev pub error_text : FileError → List ℕ
error_text e = number (rule_number e.rule) ++ string e.message

abbrev pub file_rows_text : FileRows → List ℕ
file_rows_text r = string r.«package» ++ (counted finding_text r.findings ++ counted error_text r.errors)

abbrev pub old_entry_text : List Name → OldEntry → List ℕ
old_entry_text names e = string e.path ++ (string e.bytes ++ (counted (λ (n : Name). number (place_in names n)) e.names ++ file_rows_text e.rows))

-- all behind the number of the format; the key stands as it is, without a length
abbrev pub old_cache_text : OldCache → List ℕ
old_cache_text c = c.rules ++ (counted answer_text c.answers ++ counted (old_entry_text (map (λ a. a.0) c.answers)) c.entries)

-- a cache in format 1
abbrev pub text_one : OldCache → List ℕ
text_one c = sealed (magic ++ (number 1 ++ old_cache_text c))
