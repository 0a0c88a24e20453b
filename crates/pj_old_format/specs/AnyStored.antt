-- Caches of both formats: what bytes spell which cache.
use Rattle.std.specs.Prelude.{◌≢◌, ◌<◌, ◌≤◌, ℕ, Bool, ◌==◌, ◌||◌, List, length, take, cond, Result, Ok, Err}
use Rattle.pj_format.specs.Format.{Format, Done, ◌>>=◌, Spells, IsFirst, fault, whole}
use Rattle.pj_format.specs.Fields.{run, u32_as}
use Rattle.pj_cache.specs.declared.cache.Stored.{Stored}
use Rattle.pj_cache.specs.declared.cache.Stored.TheVariants as formats
use Rattle.pj_cache_format.specs.declared.fault.CacheFault.TheVariants as faults
use Rattle.pj_cache_format.specs.declared.fault.CacheRefused.{CacheRefused}
use Rattle.pj_cache_format.specs.declared.fault.CacheRefused.TheVariants as refused
use Rattle.pj_cache_format.specs.Judges.{passing}
use Rattle.pj_cache_format.specs.FormatTwo.{cache}
use Rattle.pj_cache_format.specs.Decoded.{IsSealed, IsBroken, content_of, magic, text_two}
use Rattle.pj_cache_format.specs.Fitting.{FitsFields}
use Rattle.pj_cache_format.specs.Ordered.{IsInOrder}
use Rattle.pj_old_format.specs.FormatOne.{old_cache}
use Rattle.pj_old_format.specs.TextOne.{text_one}
use Rattle.pj_old_format.specs.FittingOne.{FitsOldFields}
use Rattle.pj_old_format.specs.OrderedOne.{IsOldInOrder}

-- the numbers of the formats
abbrev pub is_format : ℕ → Bool
is_format n = (n == 1) || (n == 2)

unfoldable pub first_format : Format Stored
first_format = do
  old ← old_cache
  Done (formats.One old)

unfoldable pub second_format : Format Stored
second_format = do
  new ← cache
  Done (formats.Two new)

-- all but the seal
unfoldable pub any_stored : Format Stored
any_stored = do
  begun ← run 8
  version ← u32_as (passing is_format)
  cond (version == 1) first_format second_format

-- The bytes spell this cache.
pub record IsAnyStored (bytes : List ℕ) (s : Stored) : Type 0 where
  pub is_sealed : IsSealed bytes
  pub spelled : Spells (whole 1 any_stored) (content_of bytes) s

-- What a reader answers is what the bytes are, but for want of memory; faults are tested in this order.
abbrev pub IsAnyDecoded : List ℕ → Result Stored CacheRefused → Type 0
IsAnyDecoded bytes (Ok s) = IsAnyStored bytes s
IsAnyDecoded bytes (Err refused.Memory) = Unit {0}
IsAnyDecoded bytes (Err (refused.Fault faults.Short)) = length bytes < 44
IsAnyDecoded bytes (Err (refused.Fault faults.Magic)) = (44 ≤ length bytes) × (take 8 bytes ≢ magic)
IsAnyDecoded bytes (Err (refused.Fault (faults.Seal kept computed))) = IsBroken bytes kept computed
IsAnyDecoded bytes (Err (refused.Fault (faults.Form offset))) = IsSealed bytes × ((kind : ℕ) × IsFirst (whole 1 any_stored) (content_of bytes) (fault kind offset))

-- the text of a cache in its format
abbrev pub text_of : Stored → List ℕ
text_of (formats.One c) = text_one c
text_of (formats.Two c) = text_two c

-- It keeps what its format says of order, keys and names, and fits the fields of a text.
abbrev pub IsWritable : Stored → Type 0
IsWritable (formats.One c) = IsOldInOrder c × FitsOldFields c
IsWritable (formats.Two c) = IsInOrder c × FitsFields c
