-- What bytes are as a cache: a text that is sealed, or what is wrong with it.
use Rattle.std.specs.Prelude.{◌≡◌, ◌≢◌, ◌-◌, ◌<◌, ◌≤◌, ◌==◌, ◌++◌, ℕ, Bool, List, codes, length, take, drop, Result, Ok, Err}
use Rattle.sha2.specs.Sha256.{sha256}
use Rattle.pj_format.specs.Format.{Format, ◌>>=◌, Spells, IsFirst, fault, whole}
use Rattle.pj_format.specs.Fields.{run, u32_as}
use Rattle.pj_cache.specs.declared.cache.Cache.{Cache}
use Rattle.pj_cache_format.specs.declared.fault.CacheFault.TheVariants as faults
use Rattle.pj_cache_format.specs.declared.fault.CacheRefused.{CacheRefused}
use Rattle.pj_cache_format.specs.declared.fault.CacheRefused.TheVariants as refused
use Rattle.pj_cache_format.specs.Judges.{passing}
use Rattle.pj_cache_format.specs.FormatTwo.{cache}
use Rattle.pj_cache_format.specs.Texts.{number}
use Rattle.pj_cache_format.specs.TextTwo.{cache_text}

-- the bytes that every cache begins with
abbrev pub magic : List ℕ
magic = codes "PMDJCACH"

-- a text and its seal
abbrev pub sealed : List ℕ → List ℕ
sealed content = content ++ sha256 content

-- a cache in format 2
abbrev pub text_two : Cache → List ℕ
text_two c = sealed (magic ++ (number 2 ++ cache_text c))

-- all but the seal
abbrev pub content_of : List ℕ → List ℕ
content_of bytes = take (length bytes - 32) bytes

-- the seal
abbrev pub seal_of : List ℕ → List ℕ
seal_of bytes = drop (length bytes - 32) bytes

abbrev pub is_version : ℕ → Bool
is_version n = n == 2

-- all but the seal
unfoldable pub stored : Format Cache
stored = do
  magic ← run 8
  version ← u32_as (passing is_version)
  cache

-- All but the seal is whole, it begins as caches do, and the seal is right.
pub record IsSealed (bytes : List ℕ) : Type 0 where
  pub long : 44 ≤ length bytes
  pub magic_is : take 8 bytes ≡ magic
  pub seal_is : seal_of bytes ≡ sha256 (content_of bytes)

-- The bytes spell this cache.
pub record IsStored (bytes : List ℕ) (c : Cache) : Type 0 where
  pub is_sealed : IsSealed bytes
  pub spelled : Spells (whole 1 stored) (content_of bytes) c

-- The seal is this one, and another one is right.
pub record IsBroken (bytes kept computed : List ℕ) : Type 0 where
  pub long : 44 ≤ length bytes
  pub magic_is : take 8 bytes ≡ magic
  pub kept_is : kept ≡ seal_of bytes
  pub computed_is : computed ≡ sha256 (content_of bytes)
  pub differ : kept ≢ computed

-- What a reader answers is what the bytes are, but for want of memory; faults are tested in this order.
abbrev pub IsDecoded : List ℕ → Result Cache CacheRefused → Type 0
IsDecoded bytes (Ok c) = IsStored bytes c
IsDecoded bytes (Err refused.Memory) = Unit {0}
IsDecoded bytes (Err (refused.Fault faults.Short)) = length bytes < 44
IsDecoded bytes (Err (refused.Fault faults.Magic)) = (44 ≤ length bytes) × (take 8 bytes ≢ magic)
IsDecoded bytes (Err (refused.Fault (faults.Seal kept computed))) = IsBroken bytes kept computed
IsDecoded bytes (Err (refused.Fault (faults.Form offset))) = IsSealed bytes × ((kind : ℕ) × IsFirst (whole 1 stored) (content_of bytes) (fault kind offset))
