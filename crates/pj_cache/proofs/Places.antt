-- Places of members in lists in strict order.
use Rattle.std.proofs.Common.{◌≡◌, ℕ, zero, suc, ◌+◌, ◌<◌, ◌≤◌, Bool, true, false, cond, ltb, ltb-true, ltb-false, List, [], ◌∷◌, length, map, get_or, refl, sym, ap, ◌∙◌, arith}
use Rattle.std.specs.List.{AllByRecursion}
use Rattle.std.specs.List.Sorted.{IsStrictlySortedBy, IsPartitionedBy, IsPartitionPoint}
use Rattle.std.specs.declared.cmp.Ordering.{Ordering}
use Rattle.std.specs.declared.cmp.Ordering.TheVariants.{Less, Equal, Greater}
use Rattle.std.specs.Ordering.{is_lt}
use Rattle.std.specs.Cmp.{tied_itself}
use Rattle.std.specs.Cmp.Lexicographic.{nat_list_cmp_total}
use Rattle.std.proofs.lemmas.List.Elements.{All-from_recursion}
use Rattle.std.proofs.lemmas.List.{length-map, get_or-map}
use Rattle.pj_cache.specs.Places.{byte_order, place_in, member_at}

pub less : (o : Ordering) → is_lt o ≡ true → o ≡ Less
less Less e = refl
less Equal e = absurd cc
less Greater e = absurd cc

before_less : (a b c : List ℕ) → byte_order a b ≡ Less → is_lt (byte_order b c) ≡ true → is_lt (byte_order a c) ≡ true
before_less a b c first second = ap is_lt (nat_list_cmp_total.trans a b c first (less (byte_order b c) second))

-- where a member is below, its place is before
pub place_below : (xs : List (List ℕ)) (x : List ℕ) (i : ℕ) (d : List ℕ) → IsStrictlySortedBy byte_order xs → i < length xs → is_lt (byte_order (get_or xs i d) x) ≡ true → i + 1 ≤ place_in xs x
unfolding IsStrictlySortedBy
place_below [] x i d s lt e = absurd (omega (arith, lt))
place_below (y ∷ ys) x zero d s lt e = rw e (omega arith)
place_below (y ∷ ys) x (suc j) d s lt e =
    let far : byte_order y (get_or ys j d) ≡ Less = All-from_recursion (λ z. byte_order y z ≡ Less) ys s.0 j d (omega (arith, lt)) in
    let near : is_lt (byte_order y x) ≡ true = before_less y (get_or ys j d) x far e in
    let rest = place_below ys x j d s.1 (omega (arith, lt)) e in
    rw near (omega (arith, rest))

not_above : (b : Bool) (n j : ℕ) → n ≤ j → cond b (suc n) 0 ≤ suc j
not_above true n j h = omega (arith, h)
not_above false n j h = omega arith

-- where a member is not below, its place is not before
pub place_above : (xs : List (List ℕ)) (x : List ℕ) (i : ℕ) (d : List ℕ) → i < length xs → is_lt (byte_order (get_or xs i d) x) ≡ false → place_in xs x ≤ i
place_above [] x i d lt e = absurd (omega (arith, lt))
place_above (y ∷ ys) x zero d lt e = rw e (omega arith)
place_above (y ∷ ys) x (suc j) d lt e = not_above (is_lt (byte_order y x)) (place_in ys x) j (place_above ys x j d (omega (arith, lt)) e)

pub place_within : (xs : List (List ℕ)) (x : List ℕ) → place_in xs x ≤ length xs
place_within [] x = omega arith
place_within (y ∷ ys) x = not_above (is_lt (byte_order y x)) (place_in ys x) (length ys) (place_within ys x)

at_place : (P : List ℕ → Type 0) (xs : List (List ℕ)) (p : ℕ) → AllByRecursion P xs → p < length xs → P (member_at xs p)
at_place P [] p all lt = absurd (omega (arith, lt))
at_place P (x ∷ xs) zero all lt = all.0
at_place P (x ∷ xs) (suc p) all lt = at_place P xs p all.1 (omega (arith, lt))

-- the place of the member at a place
pub place_of_member : (xs : List (List ℕ)) (p : ℕ) → IsStrictlySortedBy byte_order xs → p < length xs → place_in xs (member_at xs p) ≡ p
unfolding IsStrictlySortedBy
place_of_member [] p s lt = absurd (omega (arith, lt))
place_of_member (y ∷ ys) zero s lt = rw (tied_itself nat_list_cmp_total y) refl
place_of_member (y ∷ ys) (suc p) s lt =
    let far : byte_order y (member_at ys p) ≡ Less = at_place (λ z. byte_order y z ≡ Less) ys p s.0 (omega (arith, lt)) in
    rw far (ap suc (place_of_member ys p s.1 (omega (arith, lt))))

-- The same of the byte strings that members of a list have.

named_at : {A : Type 0} (f : A → List ℕ) (xs : List A) (i : ℕ) (y : A) → i < length xs → y ≡ get_or xs i y → f y ≡ get_or (map f xs) i (f y)
named_at f xs i y lt is = ap f is ∙ sym (get_or-map f xs i y (f y) lt)

pub below_named : {A : Type 0} (f : A → List ℕ) (xs : List A) (x : List ℕ) (i : ℕ) (y : A) → IsStrictlySortedBy byte_order (map f xs) → i < length xs → y ≡ get_or xs i y → is_lt (byte_order (f y) x) ≡ true → i + 1 ≤ place_in (map f xs) x
below_named f xs x i y s lt is e =
    let there : is_lt (byte_order (get_or (map f xs) i (f y)) x) ≡ true = ap (λ (z : List ℕ). is_lt (byte_order z x)) (sym (named_at f xs i y lt is)) ∙ e in
    place_below (map f xs) x i (f y) s (omega (arith, length-map xs f)) there

pub above_named : {A : Type 0} (f : A → List ℕ) (xs : List A) (x : List ℕ) (i : ℕ) (y : A) → i < length xs → y ≡ get_or xs i y → is_lt (byte_order (f y) x) ≡ false → place_in (map f xs) x ≤ i
above_named f xs x i y lt is e =
    let there : is_lt (byte_order (get_or (map f xs) i (f y)) x) ≡ false = ap (λ (z : List ℕ). is_lt (byte_order z x)) (sym (named_at f xs i y lt is)) ∙ e in
    place_above (map f xs) x i (f y) (omega (arith, length-map xs f)) there

pub within_named : {A : Type 0} (f : A → List ℕ) (xs : List A) (x : List ℕ) → place_in (map f xs) x ≤ length xs
within_named f xs x = omega (arith, place_within (map f xs) x, length-map xs f)

-- What a bisection finds.

default_same : {A : Type 0} (xs : List A) (i : ℕ) (d e : A) → i < length xs → get_or xs i d ≡ get_or xs i e
default_same [] i d e lt = absurd (omega (arith, lt))
default_same (x ∷ xs) zero d e lt = refl
default_same (x ∷ xs) (suc i) d e lt = default_same xs i d e (omega (arith, lt))

-- whether a member is below a byte string
abbrev pub is_under : {A : Type 0} → (A → List ℕ) → List ℕ → A → Bool
is_under f x y = is_lt (byte_order (f y) x)

under_place : {A : Type 0} (f : A → List ℕ) (xs : List A) (x : List ℕ) (i : ℕ) (d : A) → IsStrictlySortedBy byte_order (map f xs) → i < length xs → is_under f x (get_or xs i d) ≡ true → i + 1 ≤ place_in (map f xs) x
under_place f xs x i d s lt e = below_named f xs x i (get_or xs i d) s lt (default_same xs i d (get_or xs i d) lt) e

over_place : {A : Type 0} (f : A → List ℕ) (xs : List A) (x : List ℕ) (i : ℕ) (d : A) → i < length xs → is_under f x (get_or xs i d) ≡ false → place_in (map f xs) x ≤ i
over_place f xs x i d lt e = above_named f xs x i (get_or xs i d) lt (default_same xs i d (get_or xs i d) lt) e

parted_by : (b : Bool) → (b ≡ false → ⊥) → b ≡ true
parted_by true h = refl
parted_by false h = absurd (h refl)

-- the members below a byte string stand in front
pub parted : {A : Type 0} (f : A → List ℕ) (xs : List A) (x : List ℕ) → IsStrictlySortedBy byte_order (map f xs) → IsPartitionedBy (is_under f x) xs
parted f xs x s i j d le lt e =
    let far = under_place f xs x j d s lt e in
    parted_by (is_under f x (get_or xs i d)) (λ not_under. omega (arith, far, le, over_place f xs x i d (omega (arith, le, lt)) not_under))

-- the members before a point are below, so the place is not before it
point_below : {A : Type 0} (f : A → List ℕ) (xs : List A) (x : List ℕ) (i : ℕ) (d : A) → IsStrictlySortedBy byte_order (map f xs) → i ≤ length xs → ((k : ℕ) (e : A) → 0 ≤ k → k < i → is_under f x (get_or xs k e) ≡ true) → i ≤ place_in (map f xs) x
point_below f xs x zero d s within below = omega arith
point_below f xs x (suc i) d s within below = omega (arith, under_place f xs x i d s (omega (arith, within)) (below i d (omega arith) (omega arith)))

-- the member at a point is not below, so the place is not behind it
point_above : {A : Type 0} (f : A → List ℕ) (xs : List A) (x : List ℕ) (i : ℕ) (d : A) → ((k : ℕ) (e : A) → i ≤ k → k < length xs → is_under f x (get_or xs k e) ≡ false) → (b : Bool) → ltb i (length xs) ≡ b → place_in (map f xs) x ≤ i
point_above f xs x i d above true is = over_place f xs x i d (ltb-true i (length xs) is) (above i d (omega arith) (ltb-true i (length xs) is))
point_above f xs x i d above false is = omega (arith, within_named f xs x, ltb-false i (length xs) is)

point_there : {A : Type 0} (f : A → List ℕ) (xs : List A) (x : List ℕ) (i : ℕ) (d : A) → IsStrictlySortedBy byte_order (map f xs) → i ≤ length xs → IsPartitionPoint (λ y. is_under f x y ≡ true) (λ y. is_under f x y ≡ false) xs i → i ≡ place_in (map f xs) x
point_there f xs x i d s within point =
    let before : i ≤ place_in (map f xs) x = point_below f xs x i d s within point.0 in
    let behind : place_in (map f xs) x ≤ i = point_above f xs x i d point.1 (ltb i (length xs)) refl in
    omega (arith, before, behind)

-- the point between the members below and the others is the place
pub point_place : {A : Type 0} (f : A → List ℕ) (xs : List A) (x : List ℕ) (i : ℕ) → IsStrictlySortedBy byte_order (map f xs) → i ≤ length xs → IsPartitionPoint (λ y. is_under f x y ≡ true) (λ y. is_under f x y ≡ false) xs i → i ≡ place_in (map f xs) x
point_place f [] x i s within point = omega (arith, within)
point_place f (y ∷ ys) x i s within point = point_there f (y ∷ ys) x i y s within point

-- byte strings are named by themselves
pub named_alone : (xs : List (List ℕ)) → map (λ (x : List ℕ). x) xs ≡ xs
named_alone [] = refl
named_alone (x ∷ xs) = ap (λ (l : List (List ℕ)). x ∷ l) (named_alone xs)
