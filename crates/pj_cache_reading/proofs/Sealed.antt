-- What is read of sealed bytes is what they are as a cache.
use Rattle.std.proofs.Common.{◌≡◌, ℕ, List, Result, Ok, Err, subst}
use Rattle.pj_cache.specs.declared.cache.Cache.{Cache}
use Rattle.pj_cache_format.specs.declared.fault.CacheFault.TheVariants as faults
use Rattle.pj_cache_format.specs.declared.fault.CacheRefused.{CacheRefused}
use Rattle.pj_cache_format.specs.declared.fault.CacheRefused.TheVariants as refused
use Rattle.pj_cache_format.specs.Decoded.{content_of, IsSealed, IsDecoded}
use Rattle.pj_cache_reading.specs.Spelled.{IsSpelled}

decoded_by : (bytes : List ℕ) (r : Result Cache CacheRefused) → IsSealed bytes → IsSpelled (content_of bytes) r → IsDecoded bytes r
decoded_by bytes (Ok c) s h = record { is_sealed = s; spelled = h }
decoded_by bytes (Err refused.Memory) s h = tt
decoded_by bytes (Err (refused.Fault faults.Short)) s h = absurd h
decoded_by bytes (Err (refused.Fault faults.Magic)) s h = absurd h
decoded_by bytes (Err (refused.Fault (faults.Seal kept computed))) s h = absurd h
decoded_by bytes (Err (refused.Fault (faults.Form offset))) s h = (s, h)

pub decoded : (bytes content : List ℕ) (r : Result Cache CacheRefused) → IsSealed bytes → content ≡ content_of bytes → IsSpelled content r → IsDecoded bytes r
decoded bytes content r s e h = decoded_by bytes r s (subst (λ (l : List ℕ). IsSpelled l r) e h)
