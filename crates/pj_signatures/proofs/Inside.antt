-- Readings inside open signs.
use Rattle.std.proofs.Common.{◌≡◌, ◌-◌, ◌<◌, ℕ, zero, suc, true, false, List, refl, arith}
use Rattle.std.specs.Prelude.{Option, Some, None}
use Rattle.pj_signatures.specs.Types.{Making}
use Rattle.pj_signatures.specs.Reading.{inside, type_at, array_at, field_at, may_open, next, one}
use Rattle.pj_names.specs.JavaType.{Array}

pub inside_none : {A B S P : Type 0} (make : Making A B S P) (open_signs : ℕ) (text : List ℕ) → open_signs ≡ 0 → inside make open_signs text ≡ None
unfolding inside
inside_none make zero text e = refl
inside_none make (suc n) text e = absurd (omega arith)

pub inside_more : {A B S P : Type 0} (make : Making A B S P) (open_signs : ℕ) (text : List ℕ) → 0 < open_signs → inside make open_signs text ≡ type_at make (open_signs - 1) text
unfolding inside
inside_more make zero text h = absurd (omega arith)
inside_more make (suc n) text h = let e : suc n - 1 ≡ n = omega arith in rw e refl

pub next_one : {A : Type 0} (found : Option (A × List ℕ)) → next found (λ value rest. one value rest) ≡ found
next_one None = refl
next_one (Some pair) = refl

pub array_none : (dimensions : ℕ) (text : List ℕ) → dimensions ≡ 0 → array_at dimensions text ≡ None
unfolding array_at
array_none zero text e = refl
array_none (suc n) text e = absurd (omega arith)

pub array_more : (dimensions : ℕ) (text : List ℕ) → 0 < dimensions → array_at dimensions text ≡ next (field_at (dimensions - 1) text) (λ component rest. one (Array component) rest)
unfolding array_at
array_more zero text h = absurd (omega arith)
array_more (suc n) text h = let e : suc n - 1 ≡ n = omega arith in rw e refl

pub open_none : (open_signs : ℕ) → open_signs ≡ 0 → may_open open_signs ≡ false
open_none zero e = refl
open_none (suc n) e = absurd (omega arith)

pub open_more : (open_signs : ℕ) → 0 < open_signs → may_open open_signs ≡ true
open_more zero h = absurd (omega arith)
open_more (suc n) h = refl
