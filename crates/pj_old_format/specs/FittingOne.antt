-- Which caches fit the fields of a text of format 1: numbers, texts and counts.
use Rattle.std.specs.Prelude.{◌<◌, ◌^◌}
use Rattle.pj_reports.specs.declared.rows.Finding.{Finding}
use Rattle.pj_reports.specs.declared.rows.FileError.{FileError}
use Rattle.pj_reports.specs.declared.rows.FileRows.{FileRows}
use Rattle.pj_cache.specs.declared.old.OldEntry.{OldEntry}
use Rattle.pj_cache.specs.declared.old.OldCache.{OldCache}
use Rattle.pj_cache_format.specs.Fitting.{HasRoom, FitsText, AllFit, FitsNamed, FitsPlace}
use Rattle.pj_old_format.specs.TextOne.{rule_number}

abbrev pub FitsFinding : Finding → Type 0
FitsFinding f = (f.rule < 2 ^ 32) × (f.node < 2 ^ 32) × FitsPlace f.begin × FitsPlace f.end

abbrev pub FitsError : FileError → Type 0
FitsError e = (rule_number e.rule < 2 ^ 32) × FitsText e.message

abbrev pub FitsFileRows : FileRows → Type 0
FitsFileRows r = FitsText r.«package» × AllFit FitsFinding r.findings × AllFit FitsError r.errors

abbrev pub FitsOldEntry : OldEntry → Type 0
FitsOldEntry e = HasRoom e.path × HasRoom e.bytes × HasRoom e.names × FitsFileRows e.rows

-- Each number, text and count of the cache fits its field, but for those in its key.
pub record FitsOldFields (c : OldCache) : Type 0 where
  pub answers : AllFit FitsNamed c.answers
  pub entries : AllFit FitsOldEntry c.entries
