-- What is left in the place of a cache.
use Rattle.std.proofs.Common.{◌≡◌, ℕ, Bool, map, Option, None, Some, Result, Ok, Err, OnOk, OnErr, is_err, sym, subst}
use Rattle.std.specs.List.Sorted.{IsStrictlySortedBy}
use Rattle.pj_cache.specs.Places.{byte_order}
use Rattle.pj_cache.specs.declared.cache.Cache.{Cache}
use Rattle.pj_names.specs.ClassName.{Name}
use Rattle.pj_names.specs.declared.answer.Answer.{Answer}
use Rattle.pj_outside.specs.Faults.{CountsFailed}
use Rattle.pj_outside.specs.Files.{Bytes, Files}
use Rattle.pj_outside.specs.Keeping.{MayReplace, Replaces}
use Rattle.pj_outside.specs.declared.refused.Failed.{Failed}
use Rattle.pj_cache_format.specs.Fitting.{FitsFields}
use Rattle.pj_cache_store.specs.Leaving.{text_to_leave}
use Rattle.pj_check.specs.Caching.{CountsWrite, IsKept}
use Rattle.pj_check.specs.Steps.{IsKeptIf, IsLeftIfFound, IsTextOf}
use Rattle.pj_check.specs.declared.cache.CacheText.{CacheText}

-- what is left where a cache was found has its answers in the order of their names
pub left_in_order : (found left : Option Cache) (c : Cache) → left ≡ Some c → IsLeftIfFound found left → IsStrictlySortedBy byte_order (map (λ (answer : Name × Answer). answer.0) c.answers)
left_in_order None left c is none = absurd (cc)
left_in_order (Some found) None c is left = absurd left
left_in_order (Some found) (Some other) c is left =
    let same : other ≡ c = cc in subst (λ (x : Cache). IsStrictlySortedBy byte_order (map (λ (answer : Name × Answer). answer.0) x.answers)) same left

-- ---- by a name

pub text_of : (name : Option Bytes) (left : Option Cache) (this : Bytes) (c : Cache) (text : CacheText) → name ≡ Some this → left ≡ Some c → text.name ≡ this → text.text ≡ text_to_leave c → FitsFields c → IsTextOf name left (Some text)
text_of name left this c text is_name is_left named written fits =
    subst (λ (n : Option Bytes). IsTextOf n left (Some text)) (sym is_name) (subst (λ (l : Option Cache). IsTextOf (Some this) l (Some text)) (sym is_left) (named, written, fits))

-- ---- in its place

-- a text that was to be put there is there, unless that failed is there, unless that failed
pub kept_if : (r : Result (Unit {0}) Failed) (unwritten : Bool) (old new : Option Files) (name text : Bytes) → unwritten ≡ is_err r → OnOk r (Replaces old new name text) → OnErr r (MayReplace old new name text)
    → IsKept unwritten old new name text
kept_if (Ok done) unwritten old new name text is replaced failed = subst (λ (b : Bool). IsKept b old new name text) (sym is) replaced
kept_if (Err why) unwritten old new name text is replaced failed = subst (λ (b : Bool). IsKept b old new name text) (sym is) failed

pub kept_of : (left : Option CacheText) (text : CacheText) (unwritten : Bool) (old new : Option Files) (name bytes : Bytes) → left ≡ Some text → name ≡ text.name → bytes ≡ text.text → IsKept unwritten old new name bytes
    → IsKeptIf unwritten old new left
kept_of left text unwritten old new name bytes is named written kept =
    subst (λ (l : Option CacheText). IsKeptIf unwritten old new l) (sym is) (subst (λ (n : Bytes). IsKept unwritten old new n text.text) named (subst (λ (b : Bytes). IsKept unwritten old new name b) written kept))

-- the faults of the keeper rise just where it failed
pub counts_if : (r : Result (Unit {0}) Failed) (unwritten : Bool) (old new : ℕ) → unwritten ≡ is_err r → CountsFailed old new r → CountsWrite unwritten old new
counts_if (Ok done) unwritten old new is counts = subst (λ (b : Bool). CountsWrite b old new) (sym is) counts
counts_if (Err why) unwritten old new is counts = subst (λ (b : Bool). CountsWrite b old new) (sym is) counts
