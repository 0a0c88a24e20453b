-- Laws of repetitions, with their proofs, for loops in the crates above that read them. Nothing here defines a word of a
-- contract.
use Rattle.std.proofs.Common.{◌≡◌, ℕ, suc, ◌-◌, ◌+◌, ◌≤◌, ◌<◌, List, [], ◌∷◌, ◌++◌, length, drop, Result, Ok, Err, refl, sym, ap, ◌∙◌, append_assoc, arith}
use Rattle.std.proofs.Math.ListN.{drop_of_length-le}
use Rattle.std.proofs.lemmas.List.{append-nil}
use Rattle.pj_format.specs.declared.fault.Fault.{Fault}
use Rattle.pj_format.specs.declared.fault.Refused.{Refused}
use Rattle.pj_format.specs.declared.fault.Refused.TheVariants as refused
use Rattle.pj_format.specs.Format.{Format, Done, ◌>>=◌, ◌and_then◌, first}
use Rattle.pj_format.specs.Fields.{Fails, several, several_from, each}
use Rattle.pj_format.proofs.Laws.{first_then}

abbrev pub Read : Type 0 → Type 0
Read A = Result (List A × ℕ) Fault

abbrev pub with_front : {A : Type 0} → List A → Read A → Read A
with_front front read = read and_then λ x. Ok (front ++ x.0, x.1)

abbrev pub one_more : {A : Type 0} → A → Read A → Read A
one_more n read = read and_then λ x. Ok (n ∷ x.0, x.1)

regroup : {A : Type 0} (front : List A) (n : A) (read : Read A) → with_front front (one_more n read) ≡ with_front (front ++ n ∷ []) read
regroup {A} front n (Ok x) = ap (λ (ns : List A). let r : Read A = Ok (ns, x.1) in r) (simp append_assoc)
regroup front n (Err f) = refl

pub goes_on : {A : Type 0} (front : List A) (n : A) (whole next total : Read A) → whole ≡ one_more n next → with_front front whole ≡ total → with_front (front ++ n ∷ []) next ≡ total
goes_on front n whole next total h so_far = sym (ap (with_front front) h ∙ regroup front n next) ∙ so_far

pub ends : {A : Type 0} (e : Refused) (front : List A) (whole total : Read A) → Fails e whole → with_front front whole ≡ total → Fails e total
ends refused.Memory front whole total h so_far = tt
ends (refused.Fault f) front whole total h so_far = sym so_far ∙ ap (with_front front) h

pub is_done : {A : Type 0} (front : List A) (at : ℕ) (whole total : Read A) → whole ≡ Ok ([], at) → with_front front whole ≡ total → total ≡ Ok (front, at)
is_done {A} front at whole total h so_far = sym so_far ∙ ap (with_front front) h ∙ ap (λ (ns : List A). let r : Read A = Ok (ns, at) in r) (append-nil front)

-- ---- several

several_is : {A : Type 0} (item : Format A) (bytes : List ℕ) (n at : ℕ) → first (several item (suc n)) bytes at ≡ (first item bytes at and_then λ x. first (several item n) bytes x.1 and_then λ y. Ok (x.0 ∷ y.0, y.1))
unfolding several first
several_is {A} item bytes n at =
    first_then item (λ one. several item n >>= λ others. Done (one ∷ others)) bytes at ∙ inner (first item bytes at) where
      inner : (r : Result (A × ℕ) Fault) → (r and_then λ x. first (several item n >>= λ others. Done (x.0 ∷ others)) bytes x.1) ≡ (r and_then λ x. first (several item n) bytes x.1 and_then λ y. Ok (x.0 ∷ y.0, y.1))
      inner (Ok x) = first_then (several item n) (λ others. Done (x.0 ∷ others)) bytes x.1
      inner (Err e) = refl

pub several_more : {A : Type 0} (item : Format A) (bytes : List ℕ) (count i at : ℕ) (n : A) (after : ℕ) → i < count → first item bytes at ≡ Ok (n, after)
    → first (several item (count - i)) bytes at ≡ one_more n (first (several item (count - (i + 1))) bytes after)
several_more item bytes count i at n after lt h =
    let k : count - i ≡ suc (count - (i + 1)) = omega arith in
    rw (k, several_is item bytes (count - (i + 1)) at, h) refl

pub several_ends : {A : Type 0} (e : Refused) (item : Format A) (bytes : List ℕ) (count i at : ℕ) → i < count → Fails e (first item bytes at) → Fails e (first (several item (count - i)) bytes at)
several_ends refused.Memory item bytes count i at lt h = tt
several_ends (refused.Fault f) item bytes count i at lt h =
    let k : count - i ≡ suc (count - (i + 1)) = omega arith in
    rw (k, several_is item bytes (count - (i + 1)) at, h) refl

pub several_done : {A : Type 0} (item : Format A) (bytes : List ℕ) (count i at : ℕ) → count ≤ i → first (several item (count - i)) bytes at ≡ Ok ([], at)
unfolding several first
several_done item bytes count i at le =
    let k : count - i ≡ 0 = omega arith in
    rw k refl

-- ---- several_from

several_from_is : {A S : Type 0} (item : S → Format (A × S)) (bytes : List ℕ) (n : ℕ) (s : S) (at : ℕ) → first (several_from item (suc n) s) bytes at ≡ (first (item s) bytes at and_then λ x. first (several_from item n x.0.1) bytes x.1 and_then λ y. Ok (x.0.0 ∷ y.0, y.1))
unfolding several_from first
several_from_is {A} {S} item bytes n s at =
    first_then (item s) (λ one. several_from item n one.1 >>= λ others. Done (one.0 ∷ others)) bytes at ∙ inner (first (item s) bytes at) where
      inner : (r : Result ((A × S) × ℕ) Fault) → (r and_then λ x. first (several_from item n x.0.1 >>= λ others. Done (x.0.0 ∷ others)) bytes x.1) ≡ (r and_then λ x. first (several_from item n x.0.1) bytes x.1 and_then λ y. Ok (x.0.0 ∷ y.0, y.1))
      inner (Ok x) = first_then (several_from item n x.0.1) (λ others. Done (x.0.0 ∷ others)) bytes x.1
      inner (Err e) = refl

pub several_from_more : {A S : Type 0} (item : S → Format (A × S)) (bytes : List ℕ) (count i : ℕ) (s : S) (at : ℕ) (n : A) (t : S) (after : ℕ) → i < count → first (item s) bytes at ≡ Ok ((n, t), after)
    → first (several_from item (count - i) s) bytes at ≡ one_more n (first (several_from item (count - (i + 1)) t) bytes after)
several_from_more item bytes count i s at n t after lt h =
    let k : count - i ≡ suc (count - (i + 1)) = omega arith in
    rw (k, several_from_is item bytes (count - (i + 1)) s at, h) refl

pub several_from_ends : {A S : Type 0} (e : Refused) (item : S → Format (A × S)) (bytes : List ℕ) (count i : ℕ) (s : S) (at : ℕ) → i < count → Fails e (first (item s) bytes at) → Fails e (first (several_from item (count - i) s) bytes at)
several_from_ends refused.Memory item bytes count i s at lt h = tt
several_from_ends (refused.Fault f) item bytes count i s at lt h =
    let k : count - i ≡ suc (count - (i + 1)) = omega arith in
    rw (k, several_from_is item bytes (count - (i + 1)) s at, h) refl

pub several_from_done : {A S : Type 0} (item : S → Format (A × S)) (bytes : List ℕ) (count i : ℕ) (s : S) (at : ℕ) → count ≤ i → first (several_from item (count - i) s) bytes at ≡ Ok ([], at)
unfolding several_from first
several_from_done item bytes count i s at le =
    let k : count - i ≡ 0 = omega arith in
    rw k refl

-- ---- each

each_is : {A B : Type 0} (item : B → Format A) (bytes : List ℕ) (x : B) (xs : List B) (at : ℕ) → first (each item (x ∷ xs)) bytes at ≡ (first (item x) bytes at and_then λ y. first (each item xs) bytes y.1 and_then λ z. Ok (y.0 ∷ z.0, z.1))
unfolding each first
each_is {A} item bytes x xs at =
    first_then (item x) (λ one. each item xs >>= λ others. Done (one ∷ others)) bytes at ∙ inner (first (item x) bytes at) where
      inner : (r : Result (A × ℕ) Fault) → (r and_then λ y. first (each item xs >>= λ others. Done (y.0 ∷ others)) bytes y.1) ≡ (r and_then λ y. first (each item xs) bytes y.1 and_then λ z. Ok (y.0 ∷ z.0, z.1))
      inner (Ok y) = first_then (each item xs) (λ others. Done (y.0 ∷ others)) bytes y.1
      inner (Err e) = refl

-- where the list goes on with a member
pub each_more : {A B : Type 0} (item : B → Format A) (bytes : List ℕ) (left : List B) (x : B) (xs : List B) (at : ℕ) (n : A) (after : ℕ) → left ≡ x ∷ xs → first (item x) bytes at ≡ Ok (n, after)
    → first (each item left) bytes at ≡ one_more n (first (each item xs) bytes after)
each_more item bytes left x xs at n after is h = rw (is, each_is item bytes x xs at, h) refl

pub each_ends : {A B : Type 0} (e : Refused) (item : B → Format A) (bytes : List ℕ) (left : List B) (x : B) (xs : List B) (at : ℕ) → left ≡ x ∷ xs → Fails e (first (item x) bytes at) → Fails e (first (each item left) bytes at)
each_ends refused.Memory item bytes left x xs at is h = tt
each_ends (refused.Fault f) item bytes left x xs at is h = rw (is, each_is item bytes x xs at, h) refl

pub each_done : {A B : Type 0} (item : B → Format A) (bytes : List ℕ) (list : List B) (i at : ℕ) → length list ≤ i → first (each item (drop i list)) bytes at ≡ Ok ([], at)
unfolding each first
each_done item bytes list i at le = rw (drop_of_length-le list le) refl
