-- Attributes one after the other, as a loop reads them.
use Rattle.std.proofs.Common.{◌≡◌, ℕ, suc, ◌-◌, ◌+◌, ◌≤◌, ◌<◌, List, Result, Ok, Err, Option, refl, sym, ◌∙◌, arith}
use Rattle.pj_format.specs.declared.fault.Fault.{Fault}
use Rattle.pj_format.specs.declared.fault.Refused.{Refused}
use Rattle.pj_format.specs.declared.fault.Refused.TheVariants as refused
use Rattle.pj_format.specs.Format.{◌and_then◌, first}
use Rattle.pj_format.specs.Fields.{Fails}
use Rattle.pj_format.proofs.Laws.{first_then}
use Rattle.pj_classfile.specs.declared.member.Holder.{Holder}
use Rattle.pj_classfile.specs.ClassFile.{Slot, attribute, signature_among, or_next}

among_is : (holder : Holder) (pool : List Slot) (bytes : List ℕ) (n : ℕ) (found : Option (List ℕ)) (at : ℕ) → first (signature_among holder pool (suc n) found) bytes at ≡ (first (attribute holder pool) bytes at and_then λ x. first (signature_among holder pool n (or_next found x.0)) bytes x.1)
unfolding signature_among
among_is holder pool bytes n found at = first_then (attribute holder pool) (λ one. signature_among holder pool n (or_next found one)) bytes at

pub among_more : (holder : Holder) (pool : List Slot) (bytes : List ℕ) (count i : ℕ) (found one : Option (List ℕ)) (at after : ℕ) → i < count → first (attribute holder pool) bytes at ≡ Ok (one, after)
    → first (signature_among holder pool (count - i) found) bytes at ≡ first (signature_among holder pool (count - (i + 1)) (or_next found one)) bytes after
among_more holder pool bytes count i found one at after lt h =
    let k : count - i ≡ suc (count - (i + 1)) = omega arith in
    rw (k, among_is holder pool bytes (count - (i + 1)) found at, h) refl

pub among_ends : (e : Refused) (holder : Holder) (pool : List Slot) (bytes : List ℕ) (count i : ℕ) (found : Option (List ℕ)) (at : ℕ) (total : Result (Option (List ℕ) × ℕ) Fault) → i < count → Fails e (first (attribute holder pool) bytes at)
    → first (signature_among holder pool (count - i) found) bytes at ≡ total → Fails e total
among_ends refused.Memory holder pool bytes count i found at total lt h so_far = tt
among_ends (refused.Fault f) holder pool bytes count i found at total lt h so_far =
    let k : count - i ≡ suc (count - (i + 1)) = omega arith in
    let one : first (signature_among holder pool (count - i) found) bytes at ≡ Err f = rw (k, among_is holder pool bytes (count - (i + 1)) found at, h) refl in
    sym so_far ∙ one

pub among_done : (holder : Holder) (pool : List Slot) (bytes : List ℕ) (count i : ℕ) (found : Option (List ℕ)) (at : ℕ) → count ≤ i → first (signature_among holder pool (count - i) found) bytes at ≡ Ok (found, at)
unfolding signature_among first
among_done holder pool bytes count i found at le =
    let k : count - i ≡ 0 = omega arith in
    rw k refl
