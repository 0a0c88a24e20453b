-- Lists in which each member stands behind the one before it.
use Rattle.std.proofs.Common.{◌≡◌, ℕ, true, List, [], ◌∷◌, Option, Some}
use Rattle.std.specs.List.{AllByRecursion}
use Rattle.std.specs.List.Sorted.{IsStrictlySortedBy}
use Rattle.std.specs.declared.cmp.Ordering.TheVariants.{Less}
use Rattle.std.specs.Cmp.Lexicographic.{nat_list_cmp_total}
use Rattle.pj_cache.specs.Places.{byte_order}
use Rattle.pj_cache.proofs.Places.{less}
use Rattle.pj_cache_format.specs.Judges.{is_behind}

-- each member behind the one before it
abbrev pub AreBehind : Option (List ℕ) → List (List ℕ) → Type 0
AreBehind before [] = Unit {0}
AreBehind before (x ∷ xs) = (is_behind byte_order before x ≡ true) × AreBehind (Some x) xs

all_less : (y x : List ℕ) (xs : List (List ℕ)) → byte_order y x ≡ Less → AllByRecursion (λ z. byte_order x z ≡ Less) xs → AllByRecursion (λ z. byte_order y z ≡ Less) xs
all_less y x [] first all = tt
all_less y x (z ∷ zs) first all = (nat_list_cmp_total.trans y x z first all.0, all_less y x zs first all.1)

all_behind : (y : List ℕ) (xs : List (List ℕ)) → AreBehind (Some y) xs → AllByRecursion (λ z. byte_order y z ≡ Less) xs
all_behind y [] behind = tt
all_behind y (x ∷ xs) behind = (less (byte_order y x) behind.0, all_less y x xs (less (byte_order y x) behind.0) (all_behind x xs behind.1))

-- such a list is in strict order
pub behind_sorted : (before : Option (List ℕ)) (xs : List (List ℕ)) → AreBehind before xs → IsStrictlySortedBy byte_order xs
unfolding IsStrictlySortedBy
behind_sorted before [] behind = tt
behind_sorted before (x ∷ xs) behind = (all_behind x xs behind.1, behind_sorted (Some x) xs behind.1)
