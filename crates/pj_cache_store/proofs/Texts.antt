-- What is loaded is found, and what is left fits.
use Rattle.std.proofs.Common.{◌≡◌, ◌∙◌, ◌≤◌, ◌<◌, ◌⊎◌, inl, inr, ℕ, Bool, true, false, List, [], length, Option, Some, None, Result, Ok, Err, nat_lt, refl, ap, sym, subst, arith}
use Rattle.std.specs.Prelude.{if◌then◌else◌}
use Rattle.std.proofs.lemmas.Bool.{ltb-false, ltb-true}
use Rattle.std.proofs.lemmas.List.Elements.{All-from_recursion}
use Rattle.pj_outside.specs.Files.{reading_of}
use Rattle.pj_outside.specs.declared.refused.Reading.{Reading}
use Rattle.pj_outside.specs.declared.refused.Reading.TheVariants as reading
use Rattle.pj_names.specs.declared.answer.Answer.{Answer}
use Rattle.pj_names.specs.ClassName.{Name}
use Rattle.pj_cache.specs.declared.cache.Cache.{Cache}
use Rattle.pj_cache_format.specs.declared.fault.CacheFault.{CacheFault}
use Rattle.pj_cache_format.specs.declared.fault.CacheRefused.{CacheRefused}
use Rattle.pj_cache_format.specs.declared.fault.CacheRefused.TheVariants as refused
use Rattle.pj_cache_format.specs.Decoded.{IsDecoded, IsStored, text_two}
use Rattle.pj_cache_format.specs.Fitting.{FitsEntry, FitsFields, FitsNamed, HasRoom}
use Rattle.pj_cache_format.specs.FormatTwo.{keys_of}
use Rattle.pj_cache_format.specs.Ordered.{IsInOrder}
use Rattle.pj_cache_format.proofs.StoredLaws.{one_answer}
use Rattle.pj_fitting.specs.Fits.{CacheFits, IsFound, IsReadable, empty, limit}
use Rattle.pj_fitting.specs.Left.{File, IsLeftCache}
use Rattle.pj_fitting.specs.Right.{Files, IsRightEntry}
use Rattle.pj_fitting.proofs.Fits.{left_fits, right_fits}
use Rattle.pj_cache_store.specs.Leaving.{text_to_leave}
use Rattle.pj_cache_store.specs.Loading.{IsLoaded, IsTaken, IsTakenOf}
use Rattle.pj_cache_store.specs.declared.loading.Loaded.{Loaded}
use Rattle.pj_cache_store.specs.declared.loading.Unused.{Unused}
use Rattle.pj_cache_store.specs.declared.loading.Unused.TheVariants as unused

-- ---- what is loaded

abbrev Told : Type 0
Told = Result Cache CacheRefused

no_fault : (r : Told) (c : Cache) (fault : CacheFault) → r ≡ Err (refused.Fault fault) → (r ≡ Ok c) ⊎ (r ≡ Err refused.Memory) → ⊥
no_fault r c fault is (inl other) = let e = sym is ∙ other in absurd cc
no_fault r c fault is (inr other) = let e = sym is ∙ other in absurd cc

-- bytes of which a reader tells a fault spell no cache
not_spelled : (bytes : List ℕ) (fault : CacheFault) → IsDecoded bytes (Err (refused.Fault fault)) → (c : Cache) → IsReadable bytes c → ⊥
not_spelled bytes fault is c readable = no_fault (Err (refused.Fault fault)) c fault refl (one_answer bytes c (Err (refused.Fault fault)) readable.1 is)

taken_found : (bytes : List ℕ) (c : Cache) (why : Option Unused) → length bytes ≤ limit → IsTakenOf bytes c why → IsFound (Some bytes) c
taken_found bytes c None short is = inl (short, is)
taken_found bytes c (Some unused.NotRead) short is = absurd is
taken_found bytes c (Some unused.TooLong) short is = absurd is
taken_found bytes c (Some (unused.Refused fault)) short is = inr ((λ d readable. not_spelled bytes fault is.0 d readable), is.1)

some_found : (bytes : List ℕ) (loaded : Loaded) (long : Bool) → nat_lt limit (length bytes) ≡ long → IsTaken (if long then reading.Longer else reading.Whole bytes) loaded → IsFound (Some bytes) loaded.cache
some_found bytes loaded true long is = inr ((λ d readable. absurd (omega (arith, ltb-true limit (length bytes) long, readable.0))), ap (λ (l : Loaded). l.cache) is)
some_found bytes loaded false short is = taken_found bytes loaded.cache loaded.unused (ltb-false limit (length bytes) short) is

content_found : (content : Option (List ℕ)) (loaded : Loaded) → IsTaken (reading_of limit content) loaded → IsFound content loaded.cache
content_found None loaded is = ap (λ (l : Loaded). l.cache) is
content_found (Some bytes) loaded is = some_found bytes loaded (nat_lt limit (length bytes)) refl is

pub read_found : (content : Option (List ℕ)) (loaded : Loaded) → IsLoaded (reading_of limit content) loaded → (loaded.unused ≡ Some unused.NotRead → ⊥) → IsFound content loaded.cache
read_found content loaded (inl is) read = content_found content loaded is
read_found content loaded (inr is) read = absurd (read (ap (λ (l : Loaded). l.unused) is))

-- a reading is never told as none
none_unread : (bytes : List ℕ) (c : Cache) (why : Option Unused) → IsTakenOf bytes c why → why ≡ Some unused.NotRead → ⊥
none_unread bytes c None is e = absurd cc
none_unread bytes c (Some unused.NotRead) is e = absurd is
none_unread bytes c (Some unused.TooLong) is e = absurd is
none_unread bytes c (Some (unused.Refused fault)) is e = absurd cc

taken_read : (read : Reading) (loaded : Loaded) → IsTaken read loaded → loaded.unused ≡ Some unused.NotRead → ⊥
taken_read reading.Absent loaded is e = let u = ap (λ (l : Loaded). l.unused) is in let both = sym u ∙ e in absurd cc
taken_read reading.Longer loaded is e = let u = ap (λ (l : Loaded). l.unused) is in let both = sym u ∙ e in absurd cc
taken_read (reading.Whole bytes) loaded is e = none_unread bytes loaded.cache loaded.unused is e

pub unread_found : (content : Option (List ℕ)) (loaded : Loaded) → IsLoaded (reading_of limit content) loaded → loaded.unused ≡ Some unused.NotRead → IsFound None loaded.cache
unread_found content loaded (inl is) e = absurd (taken_read (reading_of limit content) loaded is e)
unread_found content loaded (inr is) e = ap (λ (l : Loaded). l.cache) is

-- ---- what is left

empty_in_order : IsInOrder empty
empty_in_order = record { answers = tt; entries = tt; named = refl }

empty_fits : FitsFields empty
empty_fits = record {
  keys = (omega arith, All-from_recursion (λ (key : List ℕ). HasRoom key) (keys_of empty.entries) tt);
  answers = (omega arith, All-from_recursion FitsNamed empty.answers tt);
  entries = (omega arith, All-from_recursion FitsEntry empty.entries tt);
}

module _ {R : Type 0} (files : Files R) where
  text_fits : (c : Cache) (long : Bool) → CacheFits files (Some (text_two c)) → CacheFits files (Some (if long then text_two empty else text_two c))
  text_fits c true fits = right_fits files empty empty_in_order empty_fits (All-from_recursion (IsRightEntry files empty.answers) empty.entries tt)
  text_fits c false fits = fits

  pub left_text_fits : (world : Name → Answer) (content : Option (List ℕ)) (found : Cache) (held : List R) (list : List File) (c : Cache)
      → CacheFits files content → IsFound content found → IsLeftCache files world found held list c → FitsFields c → CacheFits files (Some (text_to_leave c))
  left_text_fits world content found held list c fits is left fields = text_fits c (nat_lt limit (length (text_two c))) (left_fits files world content found held list c fits is left fields)
