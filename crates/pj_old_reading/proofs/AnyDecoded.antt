-- What is read of bytes with a right seal is what they are as a cache of either format.
use Rattle.std.proofs.Common.{◌≡◌, ℕ, ◌-◌, ◌≤◌, List, length, Ok, Err, sym, ap, subst, arith}
use Rattle.std.proofs.lemmas.List.{length-take-le}
use Rattle.pj_format.specs.Format.{IsFirst, Spells, fault, whole}
use Rattle.pj_cache.specs.declared.cache.Cache.{Cache}
use Rattle.pj_cache.specs.declared.cache.Stored.TheVariants as formats
use Rattle.pj_cache.specs.declared.old.OldCache.{OldCache}
use Rattle.pj_cache_format.specs.declared.fault.CacheFault.{CacheFault}
use Rattle.pj_cache_format.specs.declared.fault.CacheFault.TheVariants as faults
use Rattle.pj_cache_format.specs.declared.fault.CacheRefused.{CacheRefused}
use Rattle.pj_cache_format.specs.declared.fault.CacheRefused.TheVariants as refused
use Rattle.pj_cache_format.specs.Decoded.{IsDecoded, IsSealed, content_of, stored}
use Rattle.pj_old_format.specs.AnyStored.{IsAnyDecoded, any_stored}
use Rattle.pj_old_reading.specs.Spelled.{IsOldSpelled, old_stored, version_in}
use Rattle.pj_old_reading.specs.Unsealed.{IsUnsealed}
use Rattle.pj_old_reading.proofs.Versions.{made_new, made_old, means_made}

-- all but the seal has a magic and a number
pub content_long : (bytes : List ℕ) → IsSealed bytes → 12 ≤ length (content_of bytes)
content_long bytes s =
    let long : 44 ≤ length bytes = s.long in
    let is : length (content_of bytes) ≡ length bytes - 32 = length-take-le (length bytes - 32) bytes (omega (arith, long)) in
    omega (arith, long, is)

pub long_of : (bytes content : List ℕ) → IsSealed bytes → content ≡ content_of bytes → 12 ≤ length content
long_of bytes content s e = subst (λ (l : List ℕ). 12 ≤ length l) (sym e) (content_long bytes s)

-- it is no longer than the bytes
pub short_of : (bytes content : List ℕ) (n : ℕ) → content ≡ content_of bytes → length bytes ≤ n → length content ≤ n
short_of bytes content n e small =
    let is : length (content_of bytes) ≡ length bytes - 32 = length-take-le (length bytes - 32) bytes (omega arith) in
    let same : length content ≡ length (content_of bytes) = ap length e in
    omega (arith, is, same, small)

-- ---- of format 1

pub old_decoded : (bytes content : List ℕ) (old : OldCache) → IsSealed bytes → content ≡ content_of bytes → version_in content ≡ 1 → IsOldSpelled content (Ok old) → IsAnyDecoded bytes (Ok (formats.One old))
old_decoded bytes content old s e version h =
    let long : 12 ≤ length content = long_of bytes content s e in
    record { is_sealed = s; spelled = subst (λ (l : List ℕ). Spells (whole 1 any_stored) l (formats.One old)) e (means_made (λ old. formats.One old) old_stored content (Ok old) (made_old content long version) h) }

pub old_refused : (bytes content : List ℕ) (r : CacheRefused) → IsSealed bytes → content ≡ content_of bytes → version_in content ≡ 1 → IsOldSpelled content (Err r) → IsAnyDecoded bytes (Err r)
old_refused bytes content refused.Memory s e version h = tt
old_refused bytes content (refused.Fault faults.Short) s e version h = absurd h
old_refused bytes content (refused.Fault faults.Magic) s e version h = absurd h
old_refused bytes content (refused.Fault (faults.Seal kept computed)) s e version h = absurd h
old_refused bytes content (refused.Fault (faults.Form offset)) s e version h =
    let long : 12 ≤ length content = long_of bytes content s e in
    (s, (h.0, subst (λ (l : List ℕ). IsFirst (whole 1 any_stored) l (fault h.0 offset)) e (means_made (λ old. formats.One old) old_stored content (Err (fault h.0 offset)) (made_old content long version) h.1)))

-- ---- of another one

pub new_decoded : (bytes : List ℕ) (new : Cache) → ¬ (version_in (content_of bytes) ≡ 1) → IsDecoded bytes (Ok new) → IsAnyDecoded bytes (Ok (formats.Two new))
new_decoded bytes new version h =
    record { is_sealed = h.is_sealed; spelled = means_made (λ new. formats.Two new) stored (content_of bytes) (Ok new) (made_new (content_of bytes) (content_long bytes h.is_sealed) version) h.spelled }

pub new_refused : (bytes : List ℕ) (r : CacheRefused) → ¬ (version_in (content_of bytes) ≡ 1) → IsDecoded bytes (Err r) → IsAnyDecoded bytes (Err r)
new_refused bytes refused.Memory version h = tt
new_refused bytes (refused.Fault faults.Short) version h = h
new_refused bytes (refused.Fault faults.Magic) version h = h
new_refused bytes (refused.Fault (faults.Seal kept computed)) version h = h
new_refused bytes (refused.Fault (faults.Form offset)) version h =
    (h.0, (h.1.0, means_made (λ new. formats.Two new) stored (content_of bytes) (Err (fault h.1.0 offset)) (made_new (content_of bytes) (content_long bytes h.0) version) h.1.1))

-- ---- of none

-- what is wrong with the seal is what is wrong with the bytes
pub not_decoded : (bytes : List ℕ) (f : CacheFault) → IsUnsealed bytes f → IsAnyDecoded bytes (Err (refused.Fault f))
not_decoded bytes faults.Short h = h
not_decoded bytes faults.Magic h = h
not_decoded bytes (faults.Seal kept computed) h = h
not_decoded bytes (faults.Form offset) h = absurd h
