-- What is said of files where they are told, and what readings say of them.
use Rattle.std.proofs.Common.{◌≡◌, ◌<◌, ℕ, length, true, false, cond, nat_lt, Option, None, Some, IfSome, refl, ap, subst, arith}
use Rattle.pj_outside.specs.Files.{Files, Bytes, bytes_at, read_at, reading_of}
use Rattle.pj_outside.specs.declared.refused.Reading.TheVariants.{Absent, Longer, Whole}

pub told_so : {A : Type 0} (o : Option A) (P Q : A → Type 0) → ((x : A) → P x → Q x) → IfSome o P → IfSome o Q
told_so None P Q f h = tt
told_so (Some x) P Q f h = f x h

-- two things that are said of the same files
pub told_both : {A : Type 0} (o p : Option A) (P Q R : A → Type 0) → p ≡ o → ((x : A) → P x → Q x → R x) → IfSome o P → IfSome p Q → IfSome o R
told_both None p P Q R e f h k = tt
told_both {A} (Some x) p P Q R e f h k = f x h (subst (λ (w : Option A). IfSome w Q) e k)

pub whole_read : (files : Files) (path bytes : Bytes) (most : ℕ) → read_at files path most ≡ Whole bytes → bytes_at files path ≡ Some bytes
whole_read files path bytes most e =
    elim (bytes_at files path) as (λ o. reading_of most o ≡ Whole bytes → o ≡ Some bytes) [
      | None ↦ λ h. absurd (cc)
      | Some found ↦ λ h. elim (nat_lt most (length found)) as (λ t. cond t Longer (Whole found) ≡ Whole bytes → Some found ≡ Some bytes) [
        | true ↦ λ g. absurd (cc)
        | false ↦ λ g. let same : found ≡ bytes = cc in ap (λ (b : Bytes). Some b) same
      ] h
    ] e

pub longer_read : (files : Files) (path : Bytes) (most : ℕ) → read_at files path most ≡ Longer → (bytes : Bytes) × (bytes_at files path ≡ Some bytes) × (most < length bytes)
longer_read files path most e =
    elim (bytes_at files path) as (λ o. reading_of most o ≡ Longer → (bytes : Bytes) × (o ≡ Some bytes) × (most < length bytes)) [
      | None ↦ λ h. absurd (cc)
      | Some found ↦ λ h. elim (nat_lt most (length found)) as (λ t. nat_lt most (length found) ≡ t → cond t Longer (Whole found) ≡ Longer → (bytes : Bytes) × (Some found ≡ Some bytes) × (most < length bytes)) [
        | true ↦ λ t g. (found, refl, grind arith)
        | false ↦ λ t g. absurd (cc)
      ] refl h
    ] e

pub absent_read : (files : Files) (path : Bytes) (most : ℕ) → read_at files path most ≡ Absent → bytes_at files path ≡ None
absent_read files path most e =
    elim (bytes_at files path) as (λ o. reading_of most o ≡ Absent → o ≡ None) [
      | None ↦ λ h. refl
      | Some found ↦ λ h. elim (nat_lt most (length found)) as (λ t. cond t Longer (Whole found) ≡ Absent → Some found ≡ None)
          [ true ↦ λ g. absurd (cc) | false ↦ λ g. absurd (cc) ] h
    ] e
