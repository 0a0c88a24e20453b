-- Laws of sealed texts of both formats: a cache has one, and it is read from no other.
use Rattle.std.proofs.Common.{◌≡◌, ◌⊎◌, inl, inr, ℕ, ◌<◌, ◌≤◌, ◌^◌, Bool, true, false, ◌||◌, cond, eqb, List, [], ◌++◌, length, Result, Ok, Err, refl, sym, ap, subst, ◌∙◌, arith}
use Rattle.std.proofs.lemmas.Bool.{eqb-true}
use Rattle.std.proofs.lemmas.List.{length-append}
use Rattle.pj_format.specs.declared.fault.Fault.{Fault}
use Rattle.pj_format.specs.Format.{Format, Done, ◌>>=◌, fault, whole}
use Rattle.pj_format.specs.Fields.{u32_as}
use Rattle.pj_format.proofs.Parts.{IsBytes, IsText, text_then, text_as, text_made, cond_open}
use Rattle.pj_format.proofs.Spelling.{means_one}
use Rattle.pj_cache.specs.declared.cache.Cache.{Cache}
use Rattle.pj_cache.specs.declared.cache.Stored.{Stored}
use Rattle.pj_cache.specs.declared.cache.Stored.TheVariants as formats
use Rattle.pj_cache.specs.declared.old.OldCache.{OldCache}
use Rattle.pj_cache_format.specs.declared.fault.CacheFault.TheVariants as faults
use Rattle.pj_cache_format.specs.declared.fault.CacheRefused.{CacheRefused}
use Rattle.pj_cache_format.specs.declared.fault.CacheRefused.TheVariants as refused
use Rattle.pj_cache_format.specs.Judges.{passing}
use Rattle.pj_cache_format.specs.FormatTwo.{cache}
use Rattle.pj_cache_format.specs.Texts.{number}
use Rattle.pj_cache_format.specs.TextTwo.{cache_text}
use Rattle.pj_cache_format.specs.Decoded.{magic, sealed, content_of, IsStored}
use Rattle.pj_cache_format.proofs.WholeTwo.{IsWhole}
use Rattle.pj_cache_format.proofs.AnswerLaws.{number_text}
use Rattle.pj_cache_format.proofs.CacheLaws.{cache_law}
use Rattle.pj_cache_format.proofs.StoredLaws.{stored_text, text_stored}
use Rattle.pj_cache_format.proofs.Fronts.{sealed_front, sealed_takes, spelled_again}
use Rattle.pj_old_format.specs.FormatOne.{old_cache}
use Rattle.pj_old_format.specs.TextOne.{old_cache_text}
use Rattle.pj_old_format.specs.AnyStored.{is_format, first_format, second_format, any_stored, IsAnyStored, IsAnyDecoded, text_of}
use Rattle.pj_old_format.proofs.WholeOne.{IsOldWhole}
use Rattle.pj_old_format.proofs.OldLaws.{old_cache_law}

-- ---- a cache of some format

abbrev format_of : Stored → ℕ
format_of (formats.One c) = 1
format_of (formats.Two c) = 2

abbrev content : Stored → List ℕ
content (formats.One c) = old_cache_text c
content (formats.Two c) = cache_text c

abbrev pub IsAnyWhole : Stored → Type 0
IsAnyWhole (formats.One c) = IsOldWhole c
IsAnyWhole (formats.Two c) = IsWhole c

abbrev Formatted : ℕ → Stored → Type 0
Formatted n y = (format_of y ≡ n) × IsAnyWhole y

no_old : OldCache
no_old = record { rules = []; answers = []; entries = [] }

no_cache : Cache
no_cache = record { answers = []; entries = [] }

abbrev old_in : Stored → OldCache
old_in (formats.One c) = c
old_in (formats.Two c) = no_old

abbrev new_in : Stored → Cache
new_in (formats.One c) = no_cache
new_in (formats.Two c) = c

first_from : (y : Stored) → IsOldWhole (old_in y) × (y ≡ formats.One (old_in y)) → Formatted 1 y × (old_cache_text (old_in y) ≡ content y)
first_from (formats.One c) h = ((refl, h.0), refl)
first_from (formats.Two c) h = absurd cc

first_to : (y : Stored) → Formatted 1 y → (IsOldWhole (old_in y) × (y ≡ formats.One (old_in y))) × (old_cache_text (old_in y) ≡ content y)
first_to (formats.One c) h = ((h.1, refl), refl)
first_to (formats.Two c) h = absurd (omega (arith, h.0))

first_law : IsText first_format content (Formatted 1)
unfolding first_format
first_law =
    text_as (old_cache >>= λ old. Done (formats.One old)) (λ y. old_cache_text (old_in y)) content (λ y. IsOldWhole (old_in y) × (y ≡ formats.One (old_in y))) (Formatted 1)
    (text_made old_cache (λ old. formats.One old) old_in old_cache_text IsOldWhole (λ old g. refl) old_cache_law) first_from first_to

second_from : (y : Stored) → IsWhole (new_in y) × (y ≡ formats.Two (new_in y)) → Formatted 2 y × (cache_text (new_in y) ≡ content y)
second_from (formats.One c) h = absurd cc
second_from (formats.Two c) h = ((refl, h.0), refl)

second_to : (y : Stored) → Formatted 2 y → (IsWhole (new_in y) × (y ≡ formats.Two (new_in y))) × (cache_text (new_in y) ≡ content y)
second_to (formats.One c) h = absurd (omega (arith, h.0))
second_to (formats.Two c) h = ((h.1, refl), refl)

second_law : IsText second_format content (Formatted 2)
unfolding second_format
second_law =
    text_as (cache >>= λ new. Done (formats.Two new)) (λ y. cache_text (new_in y)) content (λ y. IsWhole (new_in y) × (y ≡ formats.Two (new_in y))) (Formatted 2)
    (text_made cache (λ new. formats.Two new) new_in cache_text IsWhole (λ new g. refl) cache_law) second_from second_to

-- ---- what is sealed

abbrev behind_version : ℕ → Format Stored
behind_version v = cond (eqb v 1) first_format second_format

version_cases : (v : ℕ) (a : Bool) → eqb v 1 ≡ a → (a || eqb v 2) ≡ true → IsText (cond a first_format second_format) content (Formatted v)
version_cases v true is e = subst (λ (n : ℕ). IsText first_format content (Formatted n)) (sym (eqb-true v 1 is)) first_law
version_cases v false is e = subst (λ (n : ℕ). IsText second_format content (Formatted n)) (sym (eqb-true v 2 e)) second_law

abbrev body : Stored → List ℕ
body y = number (format_of y) ++ content y

abbrev IsVersion : ℕ → Type 0
IsVersion n = (n < 2 ^ 32) × (is_format n ≡ true)

format_is : (y : Stored) → IsVersion (format_of y)
format_is (formats.One c) = (omega arith, refl)
format_is (formats.Two c) = (omega arith, refl)

abbrev versioned : Format Stored
versioned = u32_as (passing is_format) >>= behind_version

body_law : IsText versioned body IsAnyWhole
body_law =
    text_as versioned body body (λ y. IsVersion (format_of y) × Formatted (format_of y) y) IsAnyWhole
    (text_then (u32_as (passing is_format)) behind_version number IsVersion content (λ v y. Formatted v y) format_of
    (number_text is_format) (λ v p. version_cases v (eqb v 1) refl p.1) (λ v. cond_open (eqb v 1) first_format second_format first_law.is_open second_law.is_open) (λ v y g h. h.0))
    (λ y h. (h.1.1, refl)) (λ y h. ((format_is y, (refl, h)), refl))

-- ---- laws of texts

body_long : (y : Stored) → 4 ≤ length (body y)
body_long y = omega (arith, length-append (number (format_of y)) (content y))

pub text_any : (y : Stored) → IsAnyWhole y → IsAnyStored (text_of y) y
unfolding any_stored
text_any (formats.One c) w = record { is_sealed = sealed_front (body (formats.One c)) (body_long (formats.One c)); spelled = spelled_again versioned body IsAnyWhole body_law (formats.One c) w }
text_any (formats.Two c) w = record { is_sealed = sealed_front (body (formats.Two c)) (body_long (formats.Two c)); spelled = spelled_again versioned body IsAnyWhole body_law (formats.Two c) w }

by_format : (bytes : List ℕ) (y : Stored) → IsBytes bytes → IsAnyStored bytes y → IsAnyWhole y × (bytes ≡ sealed (magic ++ body y))
unfolding any_stored
by_format bytes y fits h = sealed_takes versioned body IsAnyWhole body_law bytes y fits h.is_sealed h.spelled

pub any_text : (bytes : List ℕ) (y : Stored) → IsBytes bytes → IsAnyStored bytes y → IsAnyWhole y × (bytes ≡ text_of y)
any_text bytes (formats.One c) fits h = by_format bytes (formats.One c) fits h
any_text bytes (formats.Two c) fits h = by_format bytes (formats.Two c) fits h

abbrev read : Stored → Result Stored Fault
read y = Ok y

-- bytes spell one cache
pub one_any : (bytes : List ℕ) (c d : Stored) → IsAnyStored bytes c → IsAnyStored bytes d → c ≡ d
one_any bytes c d h k =
    let both : read c ≡ read d = means_one (whole 1 any_stored) (content_of bytes) (Ok c) (Ok d) h.spelled k.spelled in cc

-- different caches have different texts
pub one_text_any : (c d : Stored) → IsAnyWhole c → IsAnyWhole d → text_of c ≡ text_of d → c ≡ d
one_text_any c d w v e = one_any (text_of d) c d (subst (λ (l : List ℕ). IsAnyStored l c) e (text_any c w)) (text_any d v)

-- bytes spell a cache of format 2 in both readings
pub any_is_stored : (bytes : List ℕ) (c : Cache) → IsBytes bytes → IsAnyStored bytes (formats.Two c) → IsStored bytes c
any_is_stored bytes c fits h =
    let t = any_text bytes (formats.Two c) fits h in
    subst (λ (l : List ℕ). IsStored l c) (sym t.1) (text_stored c t.0)

pub stored_is_any : (bytes : List ℕ) (c : Cache) → IsBytes bytes → IsStored bytes c → IsAnyStored bytes (formats.Two c)
stored_is_any bytes c fits h =
    let t = stored_text bytes c fits h in
    subst (λ (l : List ℕ). IsAnyStored l (formats.Two c)) (sym t.1) (text_any (formats.Two c) t.0)

-- ---- what a reader answers

abbrev answered : Stored → Result Stored CacheRefused
answered c = Ok c

abbrev failed : Fault → Result Stored Fault
failed f = Err f

-- of bytes that spell a cache it is that cache, or want of memory
pub one_answer : (bytes : List ℕ) (c : Stored) (r : Result Stored CacheRefused) → IsAnyStored bytes c → IsAnyDecoded bytes r → (r ≡ Ok c) ⊎ (r ≡ Err refused.Memory)
one_answer bytes c (Ok d) s h = inl (ap answered (one_any bytes d c h s))
one_answer bytes c (Err refused.Memory) s h = inr refl
one_answer bytes c (Err (refused.Fault faults.Short)) s h = absurd (omega (arith, h, s.is_sealed.long))
one_answer bytes c (Err (refused.Fault faults.Magic)) s h = absurd (h.1 s.is_sealed.magic_is)
one_answer bytes c (Err (refused.Fault (faults.Seal kept computed))) s h = absurd (h.differ (h.kept_is ∙ s.is_sealed.seal_is ∙ sym h.computed_is))
one_answer bytes c (Err (refused.Fault (faults.Form offset))) s h =
    let both : read c ≡ failed (fault h.1.0 offset) = means_one (whole 1 any_stored) (content_of bytes) (Ok c) (Err (fault h.1.0 offset)) s.spelled h.1.1 in absurd cc
