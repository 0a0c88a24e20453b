use Rattle.std.proofs.Common.{◌≡◌, ◌<◌, ◌^◌, ◌++◌, length, take}
use Rattle.std.specs.List.{flat_map, All}
use Rattle.pj_cache_format.specs.Texts.{number}
use Rattle.pj_old_format.specs.TextOne.{finding_text}
use Rattle.pj_old_format.specs.FittingOne.{FitsFinding}
use Rattle.pj_old_format.proofs.writing.put_findings.Given as goal

abbrev pub invariant-loop-finding : goal.invariant-loop-finding
invariant-loop-finding l = record { put : l.out.items ≡ l.fn.out.items ++ (number (length l.findings) ++ flat_map (finding_text) (take l.finding-index l.findings)); fit : All FitsFinding (take l.finding-index l.findings); room : length l.findings < 2 ^ 32 }
