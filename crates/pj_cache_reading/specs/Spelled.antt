-- What a reader answers of bytes whose seal is right, without the seal.
use Rattle.std.specs.Prelude.{ℕ, List, Result, Ok, Err}
use Rattle.pj_format.specs.Format.{Spells, IsFirst, fault, whole}
use Rattle.pj_cache.specs.declared.cache.Cache.{Cache}
use Rattle.pj_cache_format.specs.Decoded.{stored}
use Rattle.pj_cache_format.specs.declared.fault.CacheFault.TheVariants as faults
use Rattle.pj_cache_format.specs.declared.fault.CacheRefused.{CacheRefused}
use Rattle.pj_cache_format.specs.declared.fault.CacheRefused.TheVariants as refused

-- the cache that they spell, or the place of their first fault; for private clauses
abbrev pub IsSpelled : List ℕ → Result Cache CacheRefused → Type 0
IsSpelled content (Ok c) = Spells (whole 1 stored) content c
IsSpelled content (Err refused.Memory) = Unit {0}
IsSpelled content (Err (refused.Fault faults.Short)) = ⊥
IsSpelled content (Err (refused.Fault faults.Magic)) = ⊥
IsSpelled content (Err (refused.Fault (faults.Seal kept computed))) = ⊥
IsSpelled content (Err (refused.Fault (faults.Form offset))) = (kind : ℕ) × IsFirst (whole 1 stored) content (fault kind offset)
