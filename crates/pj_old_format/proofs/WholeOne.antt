-- Which caches have a text in format 1: order and room at once, field by field, as they are read.
use Rattle.std.specs.Prelude.{◌≡◌, ℕ, true, List, map, Option, Some, None}
use Rattle.std.specs.List.{AllByRecursion}
use Rattle.pj_format.specs.Fields.{Chain}
use Rattle.pj_names.specs.ClassName.{Name}
use Rattle.pj_reports.specs.declared.rows.Finding.{Finding}
use Rattle.pj_reports.specs.declared.rows.FileError.{FileError}
use Rattle.pj_reports.specs.declared.rows.FileRows.{FileRows}
use Rattle.pj_cache.specs.declared.old.OldEntry.{OldEntry}
use Rattle.pj_cache.specs.declared.old.OldCache.{OldCache}
use Rattle.pj_cache_format.specs.Judges.{is_path_behind}
use Rattle.pj_cache_format.specs.Fitting.{HasRoom, FitsText}
use Rattle.pj_cache_format.proofs.Whole.{AreAnswers}
use Rattle.pj_cache_format.proofs.WholeTwo.{AreNames}
use Rattle.pj_old_format.specs.ListKeys.{IsListKey}
use Rattle.pj_old_format.specs.FormatOne.{are_old_named}
use Rattle.pj_old_format.specs.FittingOne.{FitsFinding, FitsError}

abbrev pub AreFindings : List Finding → Type 0
AreFindings list = HasRoom list × AllByRecursion FitsFinding list

abbrev pub AreErrors : List FileError → Type 0
AreErrors list = HasRoom list × AllByRecursion FitsError list

abbrev pub AreFileRows : FileRows → Type 0
AreFileRows r = FitsText r.«package» × AreFindings r.findings × AreErrors r.errors

-- an entry behind the path of another one
abbrev pub IsOldEntryBehind : List Name → Option (List ℕ) → OldEntry → Type 0
IsOldEntryBehind names before e = (HasRoom e.path × (is_path_behind before e.path ≡ true)) × HasRoom e.bytes × AreNames names e.names × AreFileRows e.rows

-- A cache that has a text.
pub record IsOldWhole (c : OldCache) : Type 0 where
  pub rules : IsListKey c.rules
  pub answers : AreAnswers c.answers
  pub room : HasRoom c.entries
  pub entries : Chain (IsOldEntryBehind (map (λ a. a.0) c.answers)) (λ before e. Some e.path) None c.entries
  pub named : are_old_named c.answers c.entries ≡ true
