-- What a run takes for its cache.
use Rattle.std.specs.Prelude.{⊤, ◌≡◌, ◌⊎◌, ℕ, List, Option, Some, None, Err}
use Rattle.pj_outside.specs.Faults.{Rises}
use Rattle.pj_outside.specs.declared.refused.Reading.{Reading}
use Rattle.pj_outside.specs.declared.refused.Reading.TheVariants as reading
use Rattle.pj_cache.specs.declared.cache.Cache.{Cache}
use Rattle.pj_cache_format.specs.Decoded.{IsDecoded, IsStored}
use Rattle.pj_cache_format.specs.declared.fault.CacheRefused.TheVariants as refused
use Rattle.pj_fitting.specs.Fits.{empty}
use Rattle.pj_cache_store.specs.declared.loading.Loaded.{Loaded}
use Rattle.pj_cache_store.specs.declared.loading.Unused.{Unused}
use Rattle.pj_cache_store.specs.declared.loading.Unused.TheVariants as unused

-- of bytes: the cache that they spell, or the one without entries, for the fault that a reader tells
abbrev pub IsTakenOf : List ℕ → Cache → Option Unused → Type 0
IsTakenOf bytes c None = IsStored bytes c
IsTakenOf bytes c (Some unused.NotRead) = ⊥
IsTakenOf bytes c (Some unused.TooLong) = ⊥
IsTakenOf bytes c (Some (unused.Refused fault)) = IsDecoded bytes (Err (refused.Fault fault)) × (c ≡ empty)

-- of what is read
abbrev pub IsTaken : Reading → Loaded → Type 0
IsTaken reading.Absent loaded = loaded ≡ record { cache = empty; unused = None }
IsTaken reading.Longer loaded = loaded ≡ record { cache = empty; unused = Some unused.TooLong }
IsTaken (reading.Whole bytes) loaded = IsTakenOf bytes loaded.cache loaded.unused

-- the same, or the cache without entries, since the keeper failed
abbrev pub IsLoaded : Reading → Loaded → Type 0
IsLoaded read loaded = IsTaken read loaded ⊎ (loaded ≡ record { cache = empty; unused = Some unused.NotRead })

-- where what stands under the name is not used, the cache is the one without entries
abbrev pub IsEmptyIfUnused : Cache → Option Unused → Type 0
IsEmptyIfUnused c None = ⊤
IsEmptyIfUnused c (Some why) = c ≡ empty

-- the faults of the keeper rise exactly where it is told that it was not read
abbrev pub CountsLoad : ℕ → ℕ → Option Unused → Type 0
CountsLoad old new (Some unused.NotRead) = Rises old new
CountsLoad old new other = new ≡ old
