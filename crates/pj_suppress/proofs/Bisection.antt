-- What a bisection says of whether a number is in a list that rises.
use Rattle.std.proofs.Common.{◌≡◌, ◌≢◌, ◌<◌, ◌≤◌, ◌==◌, ◌||◌, ℕ, zero, suc, Bool, true, false, List, [], ◌∷◌, Result, Ok, Err, arith, eq-eqb, get_or, is_ok, length, ne_eqb, refl, sym}
use Rattle.std.specs.List.{list_any}
use Rattle.std.specs.List.Sorted.{IsBinarySearchResult, IsNonDecreasing}
use Rattle.std.specs.Ordering.{nat_cmp}
use Rattle.std.proofs.lemmas.List.Sorted.{searched}

or_true : (b : Bool) → (b || true) ≡ true
or_true true = refl
or_true false = refl

any_at : (xs : List ℕ) (i x : ℕ) → i < length xs → get_or xs i 0 ≡ x → list_any (λ other. other == x) xs ≡ true
any_at [] i x inside at = absurd (omega arith)
any_at (y ∷ ys) zero x inside at = rw (eq-eqb y x at) refl
any_at (y ∷ ys) (suc i) x inside at = rw (any_at ys i x (omega arith) at) (or_true (y == x))

any_none : (xs : List ℕ) (x : ℕ) → ((k : ℕ) → k < length xs → get_or xs k 0 ≢ x) → list_any (λ other. other == x) xs ≡ false
any_none [] x none = refl
any_none (y ∷ ys) x none = rw (ne_eqb y x (none 0 (omega arith))) (any_none ys x (λ k inside. none (suc k) (omega arith)))

pub found_or_not : (xs : List ℕ) (x : ℕ) (r : Result ℕ ℕ) → IsBinarySearchResult (λ y. nat_cmp y x) xs r → IsNonDecreasing xs
    → is_ok r ≡ list_any (λ other. other == x) xs
found_or_not xs x (Ok i) answer rises =
    let at = searched xs x (Ok i) answer (λ a b le inside. rises a b 0 le inside) in
    sym (any_at xs i x at.0 at.1)
found_or_not xs x (Err i) answer rises =
    let none = searched xs x (Err i) answer (λ a b le inside. rises a b 0 le inside) in
    sym (any_none xs x (λ k inside e.
    let below : k < i → get_or xs k 0 < x = none.1 k in
    let behind : i ≤ k → k < length xs → x < get_or xs k 0 = none.2 k in
    absurd (grind arith)))
