-- What a reader of format 1 answers of all but the seal.
use Rattle.std.specs.Prelude.{ℕ, Bool, ◌==◌, List, take, drop, Result, Ok, Err}
use Rattle.std.specs.Int.{w32, from_be_bytes}
use Rattle.pj_format.specs.Format.{Format, ◌>>=◌, Spells, IsFirst, fault, whole}
use Rattle.pj_format.specs.Fields.{run, u32_as}
use Rattle.pj_cache.specs.declared.old.OldCache.{OldCache}
use Rattle.pj_cache_format.specs.Judges.{passing}
use Rattle.pj_cache_format.specs.declared.fault.CacheFault.TheVariants as faults
use Rattle.pj_cache_format.specs.declared.fault.CacheRefused.{CacheRefused}
use Rattle.pj_cache_format.specs.declared.fault.CacheRefused.TheVariants as refused
use Rattle.pj_old_format.specs.FormatOne.{old_cache}

-- the number of the format, behind the magic
abbrev pub version_in : List ℕ → ℕ
version_in content = from_be_bytes w32 (take 4 (drop 8 content))

abbrev pub is_one : ℕ → Bool
is_one n = n == 1

-- all but the seal, in format 1
unfoldable pub old_stored : Format OldCache
old_stored = do
  begun ← run 8
  version ← u32_as (passing is_one)
  old_cache

-- the cache of format 1 that they spell, or the first byte of their first fault, or want of memory
abbrev pub IsOldSpelled : List ℕ → Result OldCache CacheRefused → Type 0
IsOldSpelled content (Ok c) = Spells (whole 1 old_stored) content c
IsOldSpelled content (Err refused.Memory) = Unit {0}
IsOldSpelled content (Err (refused.Fault faults.Short)) = ⊥
IsOldSpelled content (Err (refused.Fault faults.Magic)) = ⊥
IsOldSpelled content (Err (refused.Fault (faults.Seal kept computed))) = ⊥
IsOldSpelled content (Err (refused.Fault (faults.Form offset))) = (kind : ℕ) × IsFirst (whole 1 old_stored) content (fault kind offset)
