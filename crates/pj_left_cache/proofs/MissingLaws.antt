-- Which rules a run makes new results for.
use Rattle.std.proofs.Common.{◌≡◌, ◌↔◌, ℕ, zero, suc, ◌+◌, ◌-◌, ◌≤◌, ◌<◌, Bool, true, false, not, cond, ◌&&◌, ◌||◌, List, [], ◌∷◌, ◌++◌, length, map, drop, take, get_or, Some, refl, sym, ap, ◌∙◌, arith, add-one}
use Rattle.std.specs.Prelude.{min, slice_get}
use Rattle.std.specs.List.{All, AllByRecursion, IsDistinct, filter}
use Rattle.std.specs.List.Sorted.{IsStrictlySortedBy}
use Rattle.std.specs.declared.cmp.Ordering.TheVariants.{Less}
use Rattle.std.specs.Ordering.{nat_cmp}
use Rattle.std.specs.BTreeSet.{insert_key}
use Rattle.std.specs.BTreeMap.{is_at}
use Rattle.std.proofs.lemmas.Bool.{lt-ltb}
use Rattle.std.proofs.lemmas.List.{append_assoc}
use Rattle.std.proofs.lemmas.List.Concat.{flat_map-cons}
use Rattle.std.proofs.lemmas.List.Elements.{All-from_recursion}
use Rattle.pj_names.proofs.AskingLaws.{left_from}
use Rattle.pj_cache.specs.Places.{byte_order}
use Rattle.pj_cache.specs.declared.cache.CachedResult.{CachedResult}
use Rattle.pj_reuse.specs.Serving.{has_key, keys_of, with_keys}
use Rattle.pj_reuse.proofs.Standing.{has_all, has_put, same_has, tied}
use Rattle.pj_fitting.specs.Right.{Key, RulesAt}
use Rattle.pj_fitting.specs.Left.{active_keys, has_result, missing}
use Rattle.pj_fitting.proofs.Lists.{all_map}
use Rattle.pj_fitting.proofs.Named.{has_both, itself}
use Rattle.pj_left_cache.specs.Missing.{is_same_key, keys_of_all, keys_of_active, missing_from, missing_rules, with_results}

abbrev Rule : Type 0
Rule = ℕ × Key

abbrev pub number : Rule → ℕ
number m = m.0

abbrev pub key_of : Rule → Key
key_of m = m.1

-- ---- keys that are held

-- lists that have the same keys miss the same rules
same_missing : (h g : List Key) → ((q : Key) → has_key h q ≡ has_key g q) → (at : ℕ) (keys : List Key) (active : List Bool) → missing_from h at keys active ≡ missing_from g at keys active
same_missing h g same at [] active = refl
same_missing h g same at (k ∷ ks) [] = refl
same_missing h g same at (k ∷ ks) (a ∷ more) =
    λ i. cond (a && not (same k i)) ((at, k) ∷ same_missing (k ∷ h) (k ∷ g) (λ q. ap (λ (b : Bool). is_at (byte_order q) k || b) (same q)) (suc at) ks more i) (same_missing h g same (suc at) ks more i)

or_apart : (a b c : Bool) → ((a || b) || c) ≡ (a || (b || c))
or_apart true b c = refl
or_apart false b c = refl

has_results : (held : List Key) (rs : List CachedResult) (q : Key) → has_key (with_results held rs) q ≡ (has_key held q || has_key (keys_of_all rs) q)
has_results held [] q = none (has_key held q)
  where
    none : (b : Bool) → b ≡ (b || false)
    none true = refl
    none false = refl
has_results held (r ∷ rs) q =
    has_results (with_keys held (keys_of r)) rs q
    ∙ ap (λ (b : Bool). b || has_key (keys_of_all rs) q) (has_all held (keys_of r) q)
    ∙ or_apart (has_key held q) (has_key (keys_of r) q) (has_key (keys_of_all rs) q)
    ∙ ap (λ (b : Bool). has_key held q || b) (sym (has_both (keys_of r) (keys_of_all rs) q) ∙ ap (λ (l : List Key). has_key l q) (sym (flat_map-cons keys_of r rs)))

-- what is missing besides the keys of results
pub missing_besides : (stay : List CachedResult) (keys : List Key) (active : List Bool) → missing_from (with_results [] stay) 0 keys active ≡ missing_rules stay keys active
missing_besides stay keys active = same_missing (with_results [] stay) (keys_of_all stay) (has_results [] stay) 0 keys active

-- ---- a step of the loop

-- what is left at a place of a list
pub left_at : {A : Type 0} (xs : List A) (i : ℕ) (x : A) → i < length xs → x ≡ get_or xs i x → drop i xs ≡ x ∷ drop (i + 1) xs
left_at {A} xs i x small is = left_from xs i x small ∙ ap (λ (y : A). y ∷ drop (i + 1) xs) (sym is)

module _ (held : List Key) (at : ℕ) (k : Key) (ks : List Key) (more : List Bool) (numbers : List ℕ) where
  next_by : (b : Bool) (later : List Key) (after : List ℕ) → later ≡ cond b (insert_key byte_order held k) held → after ≡ cond b (numbers ++ at ∷ []) numbers
      → after ++ map number (missing_from later (suc at) ks more) ≡ numbers ++ map number (cond b ((at, k) ∷ missing_from (k ∷ held) (suc at) ks more) (missing_from held (suc at) ks more))
  next_by true later after e f =
      (λ i. f i ++ map number (missing_from (e i) (suc at) ks more))
      ∙ append_assoc numbers (at ∷ []) (map number (missing_from (insert_key byte_order held k) (suc at) ks more))
      ∙ ap (λ (l : List Rule). numbers ++ at ∷ map number l) (same_missing (insert_key byte_order held k) (k ∷ held) (has_put held k) (suc at) ks more)
  next_by false later after e f = λ i. f i ++ map number (missing_from (e i) (suc at) ks more)

pub next_rule : (keys : List Key) (active : List Bool) (at : ℕ) (k : Key) (a : Bool) (n : ℕ) (held later : List Key) (numbers after all : List ℕ) → n ≡ at → drop at keys ≡ k ∷ drop (at + 1) keys → drop at active ≡ a ∷ drop (at + 1) active
    → later ≡ cond (a && not (has_key held k)) (insert_key byte_order held k) held → after ≡ cond (a && not (has_key held k)) (numbers ++ n ∷ []) numbers
    → numbers ++ map number (missing_from held at (drop at keys) (drop at active)) ≡ all
    → after ++ map number (missing_from later (at + 1) (drop (at + 1) keys) (drop (at + 1) active)) ≡ all
next_rule keys active at k a n held later numbers after all same left still e f so_far =
    ap (λ (n : ℕ). after ++ map number (missing_from later n (drop (at + 1) keys) (drop (at + 1) active))) (add-one at)
    ∙ next_by held at k (drop (at + 1) keys) (drop (at + 1) active) numbers (a && not (has_key held k)) later after e (f ∙ ap (λ (m : ℕ). cond (a && not (has_key held k)) (numbers ++ m ∷ []) numbers) same)
    ∙ (λ i. numbers ++ map number (missing_from held at (sym left i) (sym still i)))
    ∙ so_far

none_active : (held : List Key) (at : ℕ) (keys : List Key) → missing_from held at keys [] ≡ []
none_active held at [] = refl
none_active held at (k ∷ ks) = refl

-- behind the end of one of both lists nothing is missing
pub ended : (held : List Key) (at n : ℕ) (keys : List Key) (active : List Bool) → min (length keys) (length active) ≤ n → missing_from held at (drop n keys) (drop n active) ≡ []
ended held at zero [] active past = refl
ended held at (suc n) [] active past = refl
ended held at zero (k ∷ ks) [] past = refl
ended held at (suc n) (k ∷ ks) [] past = none_active held at (drop n ks)
ended held at zero (k ∷ ks) (a ∷ more) past = absurd (omega (arith, past))
ended held at (suc n) (k ∷ ks) (a ∷ more) past = ended held at n ks more (omega (arith, past))

-- ---- places

-- A rule stands at its number, counted from a start, and is active there.
record IsPlaced (start : ℕ) (keys : List Key) (active : List Bool) (m : Rule) : Type 0 where
  behind : start ≤ m.0
  key_is : slice_get keys (m.0 - start) ≡ Some m.1
  is_active : slice_get active (m.0 - start) ≡ Some true

later_place : (start : ℕ) (k : Key) (ks : List Key) (a : Bool) (more : List Bool) (m : Rule) → IsPlaced (suc start) ks more m → IsPlaced start (k ∷ ks) (a ∷ more) m
later_place start k ks a more m is =
    let next : m.0 - start ≡ suc (m.0 - suc start) = omega (arith, is.behind) in
    record {
      behind = omega (arith, is.behind);
      key_is = ap (λ (i : ℕ). slice_get (k ∷ ks) i) next ∙ is.key_is;
      is_active = ap (λ (i : ℕ). slice_get (a ∷ more) i) next ∙ is.is_active;
    }

first_place : (start : ℕ) (k : Key) (ks : List Key) (more : List Bool) → IsPlaced start (k ∷ ks) (true ∷ more) (start, k)
first_place start k ks more =
    let first : start - start ≡ 0 = omega arith in
    record {
      behind = omega arith;
      key_is = ap (λ (i : ℕ). slice_get (k ∷ ks) i) first;
      is_active = ap (λ (i : ℕ). slice_get (true ∷ more) i) first;
    }

placed_by : (start : ℕ) (k : Key) (ks : List Key) (a h : Bool) (more : List Bool) (fresh others : List Rule) → AllByRecursion (IsPlaced (suc start) ks more) fresh → AllByRecursion (IsPlaced (suc start) ks more) others
    → AllByRecursion (IsPlaced start (k ∷ ks) (a ∷ more)) (cond (a && not h) ((start, k) ∷ fresh) others)
placed_by start k ks true false more fresh others all rest = (first_place start k ks more, all_map (IsPlaced (suc start) ks more) (IsPlaced start (k ∷ ks) (true ∷ more)) fresh (later_place start k ks true more) all)
placed_by start k ks true true more fresh others all rest = all_map (IsPlaced (suc start) ks more) (IsPlaced start (k ∷ ks) (true ∷ more)) others (later_place start k ks true more) rest
placed_by start k ks false h more fresh others all rest = all_map (IsPlaced (suc start) ks more) (IsPlaced start (k ∷ ks) (false ∷ more)) others (later_place start k ks false more) rest

placed : (held : List Key) (start : ℕ) (keys : List Key) (active : List Bool) → AllByRecursion (IsPlaced start keys active) (missing_from held start keys active)
placed held start [] active = tt
placed held start (k ∷ ks) [] = tt
placed held start (k ∷ ks) (a ∷ more) =
    placed_by start k ks a (has_key held k) more (missing_from (k ∷ held) (suc start) ks more) (missing_from held (suc start) ks more) (placed (k ∷ held) (suc start) ks more) (placed held (suc start) ks more)

abbrev pub StandsAt : List Key → List Bool → Rule → Type 0
StandsAt keys active m = (slice_get keys m.0 ≡ Some m.1) × (slice_get active m.0 ≡ Some true)

from_start : (keys : List Key) (active : List Bool) (m : Rule) → IsPlaced 0 keys active m → StandsAt keys active m
from_start keys active m is =
    let same : m.0 ≡ m.0 - 0 = omega arith in
    (ap (λ (i : ℕ). slice_get keys i) same ∙ is.key_is, ap (λ (i : ℕ). slice_get active i) same ∙ is.is_active)

pub each_stands : (stay : List CachedResult) (keys : List Key) (active : List Bool) → All (StandsAt keys active) (missing_rules stay keys active)
each_stands stay keys active =
    All-from_recursion (StandsAt keys active) (missing_rules stay keys active)
    (all_map (IsPlaced 0 keys active) (StandsAt keys active) (missing_rules stay keys active) (from_start keys active) (placed (keys_of_all stay) 0 keys active))

number_less : (m n : ℕ) → m < n → nat_cmp m n ≡ Less
number_less m n less = rw (lt-ltb m n less) refl

above_numbers : (start : ℕ) (keys : List Key) (active : List Bool) (ms : List Rule) → AllByRecursion (IsPlaced (suc start) keys active) ms → AllByRecursion (λ n. nat_cmp start n ≡ Less) (map number ms)
above_numbers start keys active [] all = tt
above_numbers start keys active (m ∷ ms) all = (number_less start m.0 (omega (arith, all.0.behind)), above_numbers start keys active ms all.1)

abbrev AreSorted : List Rule → Type 0
AreSorted ms = IsStrictlySortedBy nat_cmp (map number ms)

ascend_by : (start : ℕ) (k : Key) (b : Bool) (fresh others : List Rule) → AllByRecursion (λ n. nat_cmp start n ≡ Less) (map number fresh) → AreSorted fresh → AreSorted others → AreSorted (cond b ((start, k) ∷ fresh) others)
unfolding IsStrictlySortedBy
ascend_by start k true fresh others above s t = (above, s)
ascend_by start k false fresh others above s t = t

ascend : (held : List Key) (start : ℕ) (keys : List Key) (active : List Bool) → AreSorted (missing_from held start keys active)
unfolding IsStrictlySortedBy
ascend held start [] active = tt
ascend held start (k ∷ ks) [] = tt
ascend held start (k ∷ ks) (a ∷ more) =
    let fresh : List Rule = missing_from (k ∷ held) (suc start) ks more in
    ascend_by start k (a && not (has_key held k)) fresh (missing_from held (suc start) ks more) (above_numbers start ks more fresh (placed (k ∷ held) (suc start) ks more)) (ascend (k ∷ held) (suc start) ks more) (ascend held (suc start) ks more)

pub numbers_ascend : (stay : List CachedResult) (keys : List Key) (active : List Bool) → AreSorted (missing_rules stay keys active)
numbers_ascend stay keys active = ascend (keys_of_all stay) 0 keys active

-- ---- keys

and_false : (a : Bool) → (a && false) ≡ false
and_false true = refl
and_false false = refl

-- at one place lists that have a key have the one that ties with it
tied_has : (held : List Key) (k q : Key) → is_at (byte_order q) k ≡ true → has_key held q ≡ has_key held k
tied_has held k q at = same_has held q k (tied (byte_order q k) at)

held_by : (t x y : Bool) → (t ≡ true → y ≡ true) → (x && not y) ≡ ((t || x) && not y)
held_by true x y there = ap (λ (b : Bool). x && not b) (there refl) ∙ and_false x ∙ ap (λ (b : Bool). not b) (sym (there refl))
held_by false x y there = refl

fresh_by : (t x y : Bool) → (t ≡ true → y ≡ false) → (t || (x && not (t || y))) ≡ ((t || x) && not y)
fresh_by true x y away = ap (λ (b : Bool). not b) (sym (away refl))
fresh_by false x y away = refl

missing_by : (held : List Key) (at : ℕ) (k q : Key) (act : List Key) (fresh others : List Rule) (a h : Bool) → has_key held k ≡ h
    → has_key (map key_of fresh) q ≡ (has_key act q && not (is_at (byte_order q) k || has_key held q)) → has_key (map key_of others) q ≡ (has_key act q && not (has_key held q))
    → has_key (map key_of (cond (a && not h) ((at, k) ∷ fresh) others)) q ≡ (has_key (cond a (k ∷ act) act) q && not (has_key held q))
missing_by held at k q act fresh others false h is one rest = rest
missing_by held at k q act fresh others true true is one rest = rest ∙ held_by (is_at (byte_order q) k) (has_key act q) (has_key held q) (λ t. tied_has held k q t ∙ is)
missing_by held at k q act fresh others true false is one rest =
    ap (λ (b : Bool). is_at (byte_order q) k || b) one ∙ fresh_by (is_at (byte_order q) k) (has_key act q) (has_key held q) (λ t. tied_has held k q t ∙ is)

has_missing : (held : List Key) (at : ℕ) (keys : List Key) (active : List Bool) (q : Key) → has_key (map key_of (missing_from held at keys active)) q ≡ (has_key (keys_of_active keys active) q && not (has_key held q))
has_missing held at [] active q = refl
has_missing held at (k ∷ ks) [] q = refl
has_missing held at (k ∷ ks) (a ∷ more) q =
    missing_by held at k q (keys_of_active ks more) (missing_from (k ∷ held) (suc at) ks more) (missing_from held (suc at) ks more) a (has_key held k) refl (has_missing (k ∷ held) (suc at) ks more q) (has_missing held (suc at) ks more q)

filtered_by : (x q : Key) (xs : List Key) (p : Key → Bool) (b t : Bool) → p x ≡ b → (t ≡ true → p q ≡ p x) → is_at (byte_order q) x ≡ t → has_key (filter p xs) q ≡ (has_key xs q && p q)
    → has_key (cond b (x ∷ filter p xs) (filter p xs)) q ≡ ((t || has_key xs q) && p q)
filtered_by x q xs p true true is ties at rest = ap (λ (b : Bool). b || has_key (filter p xs) q) at ∙ sym (ties refl ∙ is)
filtered_by x q xs p true false is ties at rest = ap (λ (b : Bool). b || has_key (filter p xs) q) at ∙ rest
filtered_by x q xs p false true is ties at rest = rest ∙ ap (λ (b : Bool). has_key xs q && b) (ties refl ∙ is) ∙ and_false (has_key xs q) ∙ sym (ties refl ∙ is)
filtered_by x q xs p false false is ties at rest = rest

has_filter : (p : Key → Bool) → ((x q : Key) → is_at (byte_order q) x ≡ true → p q ≡ p x) → (xs : List Key) (q : Key) → has_key (filter p xs) q ≡ (has_key xs q && p q)
has_filter p ties [] q = refl
has_filter p ties (x ∷ xs) q = filtered_by x q xs p (p x) (is_at (byte_order q) x) refl (ties x q) refl (has_filter p ties xs q)

has_stay : (stay : List CachedResult) (q : Key) → has_result stay q ≡ has_key (keys_of_all stay) q
has_stay [] q = refl
has_stay (r ∷ rs) q =
    ap (λ (b : Bool). has_key (keys_of r) q || b) (has_stay rs q) ∙ sym (has_both (keys_of r) (keys_of_all rs) q) ∙ ap (λ (l : List Key). has_key l q) (sym (flat_map-cons keys_of r rs))

pub missing_keys : (stay : List CachedResult) (keys : List Key) (active : List Bool) (q : Key) → has_key (map key_of (missing_rules stay keys active)) q ≡ has_key (missing stay (keys_of_active keys active)) q
missing_keys stay keys active q =
    let test : Key → Bool = λ key. not (has_result stay key) in
    has_missing (keys_of_all stay) 0 keys active q
    ∙ ap (λ (b : Bool). has_key (keys_of_active keys active) q && not b) (sym (has_stay stay q))
    ∙ sym (has_filter test (λ x p at. ap not (has_stay stay p ∙ tied_has (keys_of_all stay) x p at ∙ sym (has_stay stay x))) (keys_of_active keys active) q)

-- ---- each once

or_parts : (a b : Bool) → (a || b) ≡ false → (a ≡ false) × (b ≡ false)
or_parts true b e = absurd cc
or_parts false b e = (refl, e)

abbrev IsAway : List Key → Key → Type 0
IsAway held q = has_key held q ≡ false

away_by : (held : List Key) (at : ℕ) (k : Key) (a h : Bool) (fresh others : List Rule) → has_key held k ≡ h → AllByRecursion (IsAway (k ∷ held)) (map key_of fresh) → AllByRecursion (IsAway held) (map key_of others) → AllByRecursion (IsAway held) (map key_of (cond (a && not h) ((at, k) ∷ fresh) others))
away_by held at k false h fresh others is one rest = rest
away_by held at k true true fresh others is one rest = rest
away_by held at k true false fresh others is one rest = (is, all_map (IsAway (k ∷ held)) (IsAway held) (map key_of fresh) (λ q e. (or_parts (is_at (byte_order q) k) (has_key held q) e).1) one)

away : (held : List Key) (at : ℕ) (keys : List Key) (active : List Bool) → AllByRecursion (IsAway held) (map key_of (missing_from held at keys active))
away held at [] active = tt
away held at (k ∷ ks) [] = tt
away held at (k ∷ ks) (a ∷ more) = away_by held at k a (has_key held k) (missing_from (k ∷ held) (suc at) ks more) (missing_from held (suc at) ks more) refl (away (k ∷ held) (suc at) ks more) (away held (suc at) ks more)

abbrev AreDistinct : List Rule → Type 0
AreDistinct ms = IsDistinct is_same_key (map key_of ms)

once_by : (held : List Key) (at : ℕ) (k : Key) (b : Bool) (fresh others : List Rule) → AllByRecursion (IsAway (k ∷ held)) (map key_of fresh) → AreDistinct fresh → AreDistinct others → AreDistinct (cond b ((at, k) ∷ fresh) others)
unfolding IsDistinct
once_by held at k true fresh others one d e = (all_map (IsAway (k ∷ held)) (λ q. is_same_key k q ≡ false) (map key_of fresh) (λ q x. (or_parts (is_at (byte_order q) k) (has_key held q) x).0) one, d)
once_by held at k false fresh others one d e = e

once : (held : List Key) (at : ℕ) (keys : List Key) (active : List Bool) → AreDistinct (missing_from held at keys active)
unfolding IsDistinct
once held at [] active = tt
once held at (k ∷ ks) [] = tt
once held at (k ∷ ks) (a ∷ more) =
    once_by held at k (a && not (has_key held k)) (missing_from (k ∷ held) (suc at) ks more) (missing_from held (suc at) ks more) (away (k ∷ held) (suc at) ks more) (once (k ∷ held) (suc at) ks more) (once held (suc at) ks more)

pub keys_once : (stay : List CachedResult) (keys : List Key) (active : List Bool) → AreDistinct (missing_rules stay keys active)
keys_once stay keys active = once (keys_of_all stay) 0 keys active

-- ---- the first of its key

-- No active rule before it, counted from a start, has its key, which is not held.
record IsFirst (held : List Key) (start : ℕ) (keys : List Key) (active : List Bool) (m : Rule) : Type 0 where
  behind : start ≤ m.0
  away : has_key held m.1 ≡ false
  first : has_key (keys_of_active (take (m.0 - start) keys) (take (m.0 - start) active)) m.1 ≡ false

with_first : (a : Bool) (k q : Key) (before : List Key) → (a ≡ true → is_at (byte_order q) k ≡ false) → has_key before q ≡ false → has_key (cond a (k ∷ before) before) q ≡ false
with_first true k q before apart none = ap (λ (b : Bool). b || has_key before q) (apart refl) ∙ none
with_first false k q before apart none = none

later_first : (held : List Key) (start : ℕ) (k : Key) (ks : List Key) (a : Bool) (more : List Bool) (m : Rule) → suc start ≤ m.0 → (a ≡ true → is_at (byte_order m.1) k ≡ false) → has_key held m.1 ≡ false
    → has_key (keys_of_active (take (m.0 - suc start) ks) (take (m.0 - suc start) more)) m.1 ≡ false → IsFirst held start (k ∷ ks) (a ∷ more) m
later_first held start k ks a more m behind apart away first =
    let next : m.0 - start ≡ suc (m.0 - suc start) = omega (arith, behind) in
    record {
      behind = omega (arith, behind);
      away = away;
      first = ap (λ (i : ℕ). has_key (keys_of_active (take i (k ∷ ks)) (take i (a ∷ more))) m.1) next
          ∙ with_first a k m.1 (keys_of_active (take (m.0 - suc start) ks) (take (m.0 - suc start) more)) apart first;
    }

own_first : (held : List Key) (start : ℕ) (k : Key) (ks : List Key) (more : List Bool) → has_key held k ≡ false → IsFirst held start (k ∷ ks) (true ∷ more) (start, k)
own_first held start k ks more away =
    let none : start - start ≡ 0 = omega arith in
    record {
      behind = omega arith;
      away = away;
      first = ap (λ (i : ℕ). has_key (keys_of_active (take i (k ∷ ks)) (take i (true ∷ more))) k) none;
    }

-- a key that is held ties with none that is not
no_tie : (held : List Key) (k q : Key) → has_key held k ≡ true → has_key held q ≡ false → (t : Bool) → is_at (byte_order q) k ≡ t → is_at (byte_order q) k ≡ false
no_tie held k q is away true at =
    let never : false ≡ true = sym away ∙ tied_has held k q at ∙ is in
    absurd cc
no_tie held k q is away false at = at

first_by : (held : List Key) (start : ℕ) (k : Key) (ks : List Key) (a h : Bool) (more : List Bool) (fresh others : List Rule) → has_key held k ≡ h
    → AllByRecursion (IsFirst (k ∷ held) (suc start) ks more) fresh → AllByRecursion (IsFirst held (suc start) ks more) others → AllByRecursion (IsFirst held start (k ∷ ks) (a ∷ more)) (cond (a && not h) ((start, k) ∷ fresh) others)
first_by held start k ks true false more fresh others is all rest = (
  own_first held start k ks more is,
  all_map (IsFirst (k ∷ held) (suc start) ks more) (IsFirst held start (k ∷ ks) (true ∷ more)) fresh
      (λ m f. let apart = or_parts (is_at (byte_order m.1) k) (has_key held m.1) f.away in later_first held start k ks true more m f.behind (λ e. apart.0) apart.1 f.first)
      all,
)
first_by held start k ks true true more fresh others is all rest =
    all_map (IsFirst held (suc start) ks more) (IsFirst held start (k ∷ ks) (true ∷ more)) others
    (λ m f. later_first held start k ks true more m f.behind (λ e. no_tie held k m.1 is f.away (is_at (byte_order m.1) k) refl) f.away f.first) rest
first_by held start k ks false h more fresh others is all rest =
    all_map (IsFirst held (suc start) ks more) (IsFirst held start (k ∷ ks) (false ∷ more)) others (λ m f. later_first held start k ks false more m f.behind (λ e. absurd cc) f.away f.first) rest

firsts : (held : List Key) (start : ℕ) (keys : List Key) (active : List Bool) → AllByRecursion (IsFirst held start keys active) (missing_from held start keys active)
firsts held start [] active = tt
firsts held start (k ∷ ks) [] = tt
firsts held start (k ∷ ks) (a ∷ more) =
    first_by held start k ks a (has_key held k) more (missing_from (k ∷ held) (suc start) ks more) (missing_from held (suc start) ks more) refl (firsts (k ∷ held) (suc start) ks more) (firsts held (suc start) ks more)

abbrev pub HasNoneBefore : List Key → List Bool → Rule → Type 0
HasNoneBefore keys active m = has_key (keys_of_active (take m.0 keys) (take m.0 active)) m.1 ≡ false

first_from_start : (held : List Key) (keys : List Key) (active : List Bool) (m : Rule) → IsFirst held 0 keys active m → HasNoneBefore keys active m
first_from_start held keys active m is =
    let same : m.0 ≡ m.0 - 0 = omega arith in
    ap (λ (i : ℕ). has_key (keys_of_active (take i keys) (take i active)) m.1) same ∙ is.first

pub each_is_first : (stay : List CachedResult) (keys : List Key) (active : List Bool) → All (HasNoneBefore keys active) (missing_rules stay keys active)
each_is_first stay keys active =
    All-from_recursion (HasNoneBefore keys active) (missing_rules stay keys active)
    (all_map (IsFirst (keys_of_all stay) 0 keys active) (HasNoneBefore keys active) (missing_rules stay keys active) (first_from_start (keys_of_all stay) keys active) (firsts (keys_of_all stay) 0 keys active))

-- ---- none

has_first : (x : Key) (xs : List Key) → has_key (x ∷ xs) x ≡ true
has_first x xs = ap (λ (b : Bool). b || has_key xs x) (itself x)

none_too : (xs ys : List Key) → ((q : Key) → has_key xs q ≡ has_key ys q) → xs ≡ [] → ys ≡ []
none_too xs [] same none = refl
none_too xs (y ∷ ys) same none =
    let never : false ≡ true = ap (λ (l : List Key). has_key l y) (sym none) ∙ same y ∙ has_first y ys in
    absurd cc

no_keys : (ms : List Rule) → map key_of ms ≡ [] → ms ≡ []
no_keys [] e = refl
no_keys (m ∷ ms) e = absurd cc

pub none_missing : (stay : List CachedResult) (keys : List Key) (active : List Bool) → (missing_rules stay keys active ≡ []) ↔ (missing stay (keys_of_active keys active) ≡ [])
none_missing stay keys active =
    let rules : List Rule = missing_rules stay keys active in
    let wanted : List Key = missing stay (keys_of_active keys active) in (
      λ none. none_too (map key_of rules) wanted (missing_keys stay keys active) (ap (λ (l : List Rule). map key_of l) none),
      λ none. no_keys rules (none_too wanted (map key_of rules) (λ q. sym (missing_keys stay keys active q)) none),
    )

-- ---- rules at a file

module _ {R : Type 0} (rules : RulesAt R) where
  active_by : (x : R) (xs : List R) (b : Bool) (keys : List Key) → keys ≡ map rules.key xs → cond b (rules.key x ∷ keys) keys ≡ map rules.key (cond b (x ∷ xs) xs)
  active_by x xs true keys e = ap (λ (l : List Key). rules.key x ∷ l) e
  active_by x xs false keys e = e

  pub active_are : (held : List R) → keys_of_active (map rules.key held) (map rules.is_active held) ≡ active_keys rules held
  active_are [] = refl
  active_are (x ∷ xs) = active_by x (filter rules.is_active xs) (rules.is_active x) (keys_of_active (map rules.key xs) (map rules.is_active xs)) (active_are xs)
