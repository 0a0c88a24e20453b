-- What a run may find in the place of a cache, and which cache it takes that for.
use Rattle.std.specs.Prelude.{◌≡◌, ◌≤◌, ◌⊎◌, ℕ, List, [], length, Option, Some, None}
use Rattle.pj_cache.specs.declared.cache.Cache.{Cache}
use Rattle.pj_cache_format.specs.Decoded.{IsStored}
use Rattle.pj_fitting.specs.Right.{Files, IsRightCache}

-- the greatest number of bytes of a cache that is read or kept
abbrev pub limit : ℕ
limit = 1073741824

-- the cache without entries
abbrev pub empty : Cache
empty = record { answers = []; entries = [] }

-- bytes are the text of a cache that is not too long
abbrev pub IsReadable : List ℕ → Cache → Type 0
IsReadable bytes c = (length bytes ≤ limit) × IsStored bytes c

-- What is found fits: nothing is found, or what is found is too long, or no cache, or a right cache.
abbrev pub CacheFits : {R : Type 0} → Files R → Option (List ℕ) → Type 0
CacheFits files None = Unit {0}
CacheFits files (Some bytes) = (c : Cache) → IsReadable bytes c → IsRightCache files c

-- The cache for which a run takes what it finds: the one that the bytes spell, and in every other case the one without entries.
abbrev pub IsFound : Option (List ℕ) → Cache → Type 0
IsFound None c = c ≡ empty
IsFound (Some bytes) c = IsReadable bytes c ⊎ (((d : Cache) → IsReadable bytes d → ⊥) × (c ≡ empty))
