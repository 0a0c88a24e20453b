-- The report that the cache of a run makes.
use Rattle.std.specs.Prelude.{List, [], ◌∷◌, map}
use Rattle.pj_cache.specs.declared.cache.Cache.{Cache}
use Rattle.pj_cache.specs.declared.cache.Entry.{Entry}
use Rattle.pj_findings.specs.Merged.{merge}
use Rattle.pj_fitting.specs.Left.{File, rows_at}
use Rattle.pj_fitting.specs.Right.{Files, rules_at}
use Rattle.pj_names.specs.declared.rule_row.ConfigError.{ConfigError}
use Rattle.pj_reports.specs.declared.report.Report.{Report}
use Rattle.pj_reports.specs.declared.rows.FileRows.{FileRows}
use Rattle.pj_outside.specs.Files.{Bytes}
use Rattle.pj_workers.specs.Rules.{Rule}
use Rattle.pj_cache_laws.specs.Written.{WrittenRule}

abbrev pub rules_of : List WrittenRule → List Rule
rules_of held = map (λ (w : WrittenRule). w.rule) held

-- the rows of a file by its entry: its head with what its results say of each rule, merged
abbrev pub rows_of : Files WrittenRule → List WrittenRule → File → Entry → Bytes × FileRows
rows_of files held file e = (e.path, merge e.head (map (rows_at (rules_at files file.0 file.1) e.results) held))

abbrev pub all_rows : Files WrittenRule → List WrittenRule → List File → List Entry → List (Bytes × FileRows)
all_rows files held [] es = []
all_rows files held (file ∷ rest) [] = []
all_rows files held (file ∷ rest) (e ∷ es) = rows_of files held file e ∷ all_rows files held rest es

-- the report of a run by the cache that it leaves
abbrev pub report_of : Files WrittenRule → List WrittenRule → List ConfigError → List File → Cache → Report
report_of files held unusable list c = record { rules = map (λ (rule : Rule). rule.source.texts.row) (rules_of held); files = all_rows files held list c.entries; errors = unusable }
