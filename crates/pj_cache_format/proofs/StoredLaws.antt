-- Laws of sealed texts: a cache has one, and it is read from no other.
use Rattle.std.proofs.Common.{◌≡◌, ◌⊎◌, inl, inr, ℕ, ◌<◌, ◌≤◌, ◌^◌, true, List, ◌++◌, length, Result, Ok, Err, refl, sym, ap, subst, ◌∙◌, arith}
use Rattle.std.proofs.lemmas.Bool.{eqb-true}
use Rattle.std.proofs.lemmas.List.{length-append}
use Rattle.pj_format.specs.declared.fault.Fault.{Fault}
use Rattle.pj_format.specs.Format.{◌>>=◌, fault, whole}
use Rattle.pj_format.specs.Fields.{u32_as}
use Rattle.pj_format.proofs.Parts.{IsBytes, IsText, text_next, text_as}
use Rattle.pj_format.proofs.Spelling.{means_one}
use Rattle.pj_cache.specs.declared.cache.Cache.{Cache}
use Rattle.pj_cache_format.specs.declared.fault.CacheFault.TheVariants as faults
use Rattle.pj_cache_format.specs.declared.fault.CacheRefused.{CacheRefused}
use Rattle.pj_cache_format.specs.declared.fault.CacheRefused.TheVariants as refused
use Rattle.pj_cache_format.specs.Judges.{passing}
use Rattle.pj_cache_format.specs.FormatTwo.{cache}
use Rattle.pj_cache_format.specs.Texts.{number}
use Rattle.pj_cache_format.specs.TextTwo.{cache_text}
use Rattle.pj_cache_format.proofs.WholeTwo.{IsWhole}
use Rattle.pj_cache_format.specs.Decoded.{content_of, text_two, is_version, stored, IsStored, IsDecoded}
use Rattle.pj_cache_format.proofs.AnswerLaws.{number_text}
use Rattle.pj_cache_format.proofs.CacheLaws.{cache_law}
use Rattle.pj_cache_format.proofs.Fronts.{sealed_front, sealed_takes, spelled_again}

-- ---- what is sealed

abbrev body : Cache → List ℕ
body c = number 2 ++ cache_text c

version_is : (v : ℕ) (y : Cache) → (v < 2 ^ 32) × (is_version v ≡ true) → IsWhole y → 2 ≡ v
version_is v y g h = sym (eqb-true v 2 g.1)

version_law : IsText (u32_as (passing is_version) >>= λ v. cache) body IsWhole
version_law =
    text_as (u32_as (passing is_version) >>= λ v. cache) body body (λ y. ((2 < 2 ^ 32) × (is_version 2 ≡ true)) × IsWhole y) IsWhole
    (text_next (u32_as (passing is_version)) (λ v. cache) number (λ n. (n < 2 ^ 32) × (is_version n ≡ true)) cache_text (λ v y. IsWhole y) (λ y. 2) (number_text is_version) (λ v. cache_law) version_is)
    (λ y h. (h.1, refl)) (λ y h. (((omega arith, refl), h), refl))

-- ---- laws of texts

body_long : (c : Cache) → 4 ≤ length (body c)
body_long c = omega (arith, length-append (number 2) (cache_text c))

pub text_stored : (c : Cache) → IsWhole c → IsStored (text_two c) c
unfolding stored
text_stored c w = record { is_sealed = sealed_front (body c) (body_long c); spelled = spelled_again (u32_as (passing is_version) >>= λ v. cache) body IsWhole version_law c w }

pub stored_text : (bytes : List ℕ) (c : Cache) → IsBytes bytes → IsStored bytes c → IsWhole c × (bytes ≡ text_two c)
unfolding stored
stored_text bytes c fits h = sealed_takes (u32_as (passing is_version) >>= λ v. cache) body IsWhole version_law bytes c fits h.is_sealed h.spelled

abbrev read : Cache → Result Cache Fault
read c = Ok c

-- bytes spell one cache
pub one_cache : (bytes : List ℕ) (c d : Cache) → IsStored bytes c → IsStored bytes d → c ≡ d
one_cache bytes c d h k =
    let both : read c ≡ read d = means_one (whole 1 stored) (content_of bytes) (Ok c) (Ok d) h.spelled k.spelled in cc

-- different caches have different texts
pub one_text : (c d : Cache) → IsWhole c → IsWhole d → text_two c ≡ text_two d → c ≡ d
one_text c d w v e = one_cache (text_two d) c d (subst (λ (l : List ℕ). IsStored l c) e (text_stored c w)) (text_stored d v)

-- ---- what a reader answers

abbrev answered : Cache → Result Cache CacheRefused
answered c = Ok c

abbrev failed : Fault → Result Cache Fault
failed f = Err f

-- of bytes that spell a cache it is that cache, or want of memory
pub one_answer : (bytes : List ℕ) (c : Cache) (r : Result Cache CacheRefused) → IsStored bytes c → IsDecoded bytes r → (r ≡ Ok c) ⊎ (r ≡ Err refused.Memory)
one_answer bytes c (Ok d) s h = inl (ap answered (one_cache bytes d c h s))
one_answer bytes c (Err refused.Memory) s h = inr refl
one_answer bytes c (Err (refused.Fault faults.Short)) s h = absurd (omega (arith, h, s.is_sealed.long))
one_answer bytes c (Err (refused.Fault faults.Magic)) s h = absurd (h.1 s.is_sealed.magic_is)
one_answer bytes c (Err (refused.Fault (faults.Seal kept computed))) s h = absurd (h.differ (h.kept_is ∙ s.is_sealed.seal_is ∙ sym h.computed_is))
one_answer bytes c (Err (refused.Fault (faults.Form offset))) s h =
    let both : read c ≡ failed (fault h.1.0 offset) = means_one (whole 1 stored) (content_of bytes) (Ok c) (Err (fault h.1.0 offset)) s.spelled h.1.1 in absurd cc
