use Rattle.std.proofs.Common.{◌≡◌, ◌<◌, ◌^◌, ◌++◌, length, take}
use Rattle.std.specs.List.{flat_map, All}
use Rattle.pj_cache_format.specs.Texts.{number}
use Rattle.pj_old_format.specs.TextOne.{error_text}
use Rattle.pj_old_format.specs.FittingOne.{FitsError}
use Rattle.pj_old_format.proofs.writing.put_errors.Given as goal

abbrev pub invariant-loop-error : goal.invariant-loop-error
invariant-loop-error l = record { put : l.out.items ≡ l.fn.out.items ++ (number (length l.errors) ++ flat_map (error_text) (take l.error-index l.errors)); fit : All FitsError (take l.error-index l.errors); room : length l.errors < 2 ^ 32 }
