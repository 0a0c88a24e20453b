-- Format 1 of caches: results by file, for one whole list of rules.
use Rattle.std.specs.Prelude.{ℕ, ◌-◌, Bool, ◌==◌, List, map, flat_map, Option, Some, None, if◌then◌else◌}
use Rattle.pj_format.specs.Format.{Format, Done, ◌>>=◌}
use Rattle.pj_format.specs.Fields.{u8_as, u32, sized, sized_as, several, several_from}
use Rattle.pj_names.specs.declared.answer.Answer.{Answer}
use Rattle.pj_names.specs.ClassName.{Name}
use Rattle.pj_reports.specs.declared.rows.Finding.{Finding}
use Rattle.pj_reports.specs.declared.rows.FileError.{FileError}
use Rattle.pj_reports.specs.declared.rows.FileRows.{FileRows}
use Rattle.pj_cache.specs.declared.old.OldEntry.{OldEntry}
use Rattle.pj_cache.specs.declared.old.OldCache.{OldCache}
use Rattle.pj_cache_format.specs.Judges.{passing, when, text, is_path_behind}
use Rattle.pj_cache_format.specs.Answers.{answer_list}
use Rattle.pj_cache_format.specs.FormatTwo.{reason_of, place, name_list, in_order, is_same_list}
use Rattle.pj_old_format.specs.ListKeys.{list_key}

-- Rows, in whatever order they stand.

-- a finding: rule, node, the places of its first and of its last character, and why it is not reported
unfoldable pub finding : Format Finding
finding = do
  rule ← u32
  node ← u32
  begin ← place
  end ← place
  reason ← u8_as reason_of
  Done (record { rule = rule; node = node; begin = begin; end = end; reason = reason })

unfoldable pub finding_list : Format (List Finding)
finding_list = u32 >>= λ count. several finding count

-- 0, no rule; else the number of the rule, plus 1
abbrev pub rule_named : ℕ → Option ℕ
rule_named n = if n == 0 then None else Some (n - 1)

unfoldable pub error : Format FileError
error = do
  rule ← u32
  message ← text
  Done (record { rule = rule_named rule; message = message })

unfoldable pub error_list : Format (List FileError)
error_list = u32 >>= λ count. several error count

-- package, findings and errors
unfoldable pub file_rows : Format FileRows
file_rows = do
  package_name ← text
  findings ← finding_list
  errors ← error_list
  Done (record { «package» = package_name; findings = findings; errors = errors })

-- Entries.

-- an entry behind the path of another one
unfoldable pub old_entry : List Name → Option (List ℕ) → Format (OldEntry × Option (List ℕ))
old_entry names before = do
  path ← sized_as (passing (is_path_behind before))
  bytes ← sized
  asked ← name_list names
  rows ← file_rows
  Done (record { path = path; bytes = bytes; names = asked; rows = rows }, Some path)

-- the entries by strictly ascending path
unfoldable pub old_entry_list : List Name → Format (List OldEntry)
old_entry_list names = u32 >>= λ count. several_from (old_entry names) count None

-- the classes that entries name, in the order of their bytes, each once
abbrev pub old_names_of : List OldEntry → List Name
old_names_of entries = in_order (flat_map (λ (e : OldEntry). e.names) entries)

-- whether each answer is named by some entry
abbrev pub are_old_named : List (Name × Answer) → List OldEntry → Bool
are_old_named answers entries = is_same_list (map (λ a. a.0) answers) (old_names_of entries)

-- all behind the number of the format
unfoldable pub old_cache : Format OldCache
old_cache = do
  key ← list_key
  answers ← answer_list
  entries ← old_entry_list (map (λ a. a.0) answers)
  when (are_old_named answers entries) (record { rules = key; answers = answers; entries = entries })
