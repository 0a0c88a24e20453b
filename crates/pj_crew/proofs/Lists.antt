-- Lists of workers, and of what came of files.
use Rattle.std.proofs.Common.{◌≡◌, ◌≢◌, ◌∙◌, ℕ, zero, suc, ◌<◌, ◌==◌, List, [], ◌∷◌, ◌++◌, map, length, take, drop, replicate, Option, Some, None, Bool, true, false, cond, refl, sym, ap, subst, arith, inl, inr, get_or, set, get_or-set_other, eq-eqb, ne_eqb}
use Rattle.std.specs.Prelude.{◌⊎◌, slice_set, IsSome, nat_lt}
use Rattle.std.specs.Option.{unwrap_or}
use mathlib.Core.Logic.{dite}
use native.Mathlib.Decide.{ℕ_discrete}
use Rattle.std.specs.List.{AllByRecursion, Contains}
use Rattle.std.proofs.lemmas.List.{get_or-map, length-map, length-replicate, length-set, take-append-le}
use Rattle.std.proofs.Math.Seq.{take-length}
use Rattle.std.proofs.lemmas.Bool.{lt-ltb, ltb-true}
use Rattle.pj_seats.specs.declared.worker.Share.{Share}
use Rattle.pj_table.specs.Rule.{once_below, times}
use Rattle.pj_crew.specs.Placing.{AreBelow, AreOnceEach, ArePlaced, all_results, put_all}

-- ---- places

pub put_all_append : {M : Type 0} (places : List (Option M)) (first second : List (ℕ × M)) → put_all places (first ++ second) ≡ put_all (put_all places first) second
put_all_append places [] second = refl
put_all_append places (r ∷ first) second = put_all_append (slice_set places r.0 (Some r.1)) first second

abbrev Reads : {M : Type 0} (places : List (Option M)) (results : List (ℕ × M)) (i : ℕ) → Type 0
Reads {M} places results i = ((times i (map (λ (r : ℕ × M). r.0) results) ≡ 0) × (get_or (put_all places results) i None ≡ get_or places i None)) ⊎ ((one : M) × Contains results (i, one) × (get_or (put_all places results) i None ≡ Some one))

pub in_first : {A : Type 0} (x y : A) (xs : List A) → x ≡ y → Contains (x ∷ xs) y
in_first x y xs is = (0, omega arith, is)

pub in_later : {A : Type 0} (x y : A) (xs : List A) → Contains xs y → Contains (x ∷ xs) y
in_later x y xs at = (suc at.0, (let l = at.1 in omega arith), at.2)

set_there : {X : Type 0} (xs : List X) (i : ℕ) (y d : X) → i < length xs → get_or (set xs i y) i d ≡ y
set_there [] i y d below = absurd (omega (arith, below))
set_there (x ∷ xs) zero y d below = refl
set_there (x ∷ xs) (suc i) y d below = set_there xs i y d (omega (arith, below))

pub same_number : (n i : ℕ) → n ≡ i → (n == i) ≡ true
same_number n i same = eq-eqb n i same

other_number : (n i : ℕ) → n ≢ i → (n == i) ≡ false
other_number n i other = ne_eqb n i other

reads : {M : Type 0} (places : List (Option M)) (results : List (ℕ × M)) (i : ℕ) → i < length places → Reads places results i
reads places [] i below = inl (refl, refl)
reads {M} places (r ∷ results) i below =
    elim (reads (set places r.0 (Some r.1)) results i (omega (arith, below, length-set places r.0 (Some r.1)))) [
      | inr later ↦ inr (later.0, in_later r (i, later.0) results later.1, later.2)
      | inl not_later ↦ dite (ℕ_discrete i r.0)
          (λ same. inr (r.1, in_first r (i, r.1) results (λ k. (sym same k, r.1)), not_later.1 ∙ ap (λ (n : ℕ). get_or (set places r.0 (Some r.1)) n None) same ∙ set_there places r.0 (Some r.1) None (subst (λ (n : ℕ). n < length places) same below)))
          (λ other. inl (
            (let none = not_later.0 in let apart : ◌≡◌ {A = ℕ} (cond (r.0 == i) 1 0) 0 = ap (λ (b : Bool). cond b 1 0) (other_number r.0 i (λ e. other (sym e))) in omega (arith, none, apart)),
            not_later.1 ∙ get_or-set_other places r.0 i (Some r.1) None other,
          ))
    ]

-- a list of which each member has a property
all_members : {A : Type 0} (P : A → Type 0) (xs : List A) → ((x : A) → Contains xs x → P x) → AllByRecursion P xs
all_members P [] f = tt
all_members P (x ∷ xs) f = (f x (in_first x x xs refl), all_members P xs (λ y at. f y (in_later x y xs at)))

pub length_put : {M : Type 0} (places : List (Option M)) (results : List (ℕ × M)) → length (put_all places results) ≡ length places
length_put places [] = refl
length_put places (r ∷ results) = length_put (set places r.0 (Some r.1)) results ∙ length-set places r.0 (Some r.1)

-- what stands in a list is counted there
counted : {M : Type 0} (results : List (ℕ × M)) (r : ℕ × M) (k : ℕ) → k < length results → get_or results k r ≡ r → 0 < times r.0 (map (λ (s : ℕ × M). s.0) results)
counted [] r k below at = absurd (omega (arith, below))
counted {M} (s ∷ results) r zero below at = let same : (s.0 == r.0) ≡ true = same_number s.0 r.0 (ap (λ (t : ℕ × M). t.0) at) in rw same (omega arith)
counted {M} (s ∷ results) r (suc k) below at = let later = counted results r k (omega (arith, below)) at in omega (arith, later)

-- each number is below the bound
pub are_below : {M : Type 0} (files : ℕ) (results : List (ℕ × M)) → AreOnceEach files results → AreBelow files results
are_below {M} files results once = all_members (λ (r : ℕ × M). r.0 < files) results (λ r at.
    let some_time = counted results r at.0 at.1 at.2 in let is = once r.0 in
    elim (nat_lt r.0 files) as (λ b. nat_lt r.0 files ≡ b → r.0 < files) [
      | true ↦ (λ yes. ltb-true r.0 files yes)
      | false ↦ (λ no. let none : once_below r.0 files ≡ 0 = ap (λ (b : Bool). cond b 1 0) no in absurd (omega (arith, some_time, is, none)))
    ] refl)

-- at each place below the bound there is what came of the file
at_place : {M : Type 0} (files : ℕ) (results : List (ℕ × M)) → AreOnceEach files results → (i : ℕ) → i < files → (one : M) × Contains results (i, one) × (get_or (put_all (replicate files None) results) i None ≡ Some one)
at_place {M} files results once i below =
    let many : length (replicate {A = Option M} files None) ≡ files = length-replicate files None in
    elim (reads (replicate files None) results i (omega (arith, below, many))) [
      | inl none ↦ (let is = once i in let yes : once_below i files ≡ 1 = ap (λ (b : Bool). cond b 1 0) (lt-ltb i files below) in absurd (omega (arith, none.0, is, yes)))
      | inr there ↦ there
    ]

all_some : {M : Type 0} (places : List (Option M)) → ((i : ℕ) → i < length places → (one : M) × (get_or places i None ≡ Some one)) → AllByRecursion IsSome places
all_some [] f = tt
all_some (None ∷ places) f = let at = f 0 (omega arith) in absurd (cc)
all_some (Some m ∷ places) f = (refl, all_some places (λ i below. f (suc i) (omega (arith, below))))

pub are_there : {M : Type 0} (files : ℕ) (results : List (ℕ × M)) → AreOnceEach files results → AllByRecursion IsSome (put_all (replicate files None) results)
are_there {M} files results once =
    let many = length_put (replicate {A = Option M} files None) results ∙ length-replicate files None in
    all_some (put_all (replicate files None) results) (λ i below. let at = at_place files results once i (omega (arith, below, many)) in (at.0, at.2))

pub are_placed : {M : Type 0} (files : ℕ) (results : List (ℕ × M)) (made : List M) → AreOnceEach files results → map (λ (one : M). Some one) made ≡ put_all (replicate files None) results → ArePlaced files results made
are_placed {M} files results made once is =
    let many : length made ≡ files = sym (length-map made (λ (one : M). Some one)) ∙ ap length is ∙ length_put (replicate {A = Option M} files None) results ∙ length-replicate files None in
    record {
      many = many;
      each = λ n d below.
          let at = at_place files results once n below in
          let same : Some (get_or made n d) ≡ Some at.0 = sym (get_or-map (λ (one : M). Some one) made n d None (omega (arith, below, many))) ∙ ap (λ (l : List (Option M)). get_or l n None) is ∙ at.2 in
          subst (λ (one : M). Contains results (n, one)) (sym (ap (λ (o : Option M). unwrap_or o d) same)) at.1;
    }

split : {A : Type 0} (P : A → Type 0) (first second : List A) → AllByRecursion P (first ++ second) → AllByRecursion P first × AllByRecursion P second
split P [] second all = (tt, all)
split P (x ∷ first) second all = let more = split P first second all.1 in ((all.0, more.0), more.1)

-- the next share of those that are left

pub next_below : {M : Type 0} (files : ℕ) (rest later : List (Share M)) (share : Share M) → rest ≡ share ∷ later → AreBelow files (all_results rest) → AreBelow files share.results.items × AreBelow files (all_results later)
next_below {M} files rest later share is below =
    split (λ (r : ℕ × M). r.0 < files) share.results.items (all_results later) (subst (λ (l : List (Share M)). AreBelow files (all_results l)) is below)

pub next_put : {M : Type 0} (places more whole : List (Option M)) (rest later : List (Share M)) (share : Share M) → rest ≡ share ∷ later → more ≡ put_all places share.results.items → put_all places (all_results rest) ≡ whole → put_all more (all_results later) ≡ whole
next_put {M} places more whole rest later share is put so_far =
    ap (λ (l : List (Option M)). put_all l (all_results later)) put ∙ sym (put_all_append places share.results.items (all_results later)) ∙ sym (ap (λ (l : List (Share M)). put_all places (all_results l)) is) ∙ so_far

pub is_empty : {A : Type 0} (xs : List A) → length xs ≡ 0 → xs ≡ []
is_empty [] none = refl
is_empty (x ∷ xs) none = absurd (omega (arith, none))

-- what is left behind a slice that was lent whole
pub left_whole : {A : Type 0} (n : ℕ) (new old : List A) → n ≡ length old → length new ≡ length old → take n (new ++ drop (length new) old) ≡ new
left_whole n new old long same =
    let all : n ≡ length new = omega (arith, long, same) in
    ap (λ (k : ℕ). take k (new ++ drop (length new) old)) all ∙ take-append-le (length new) new (drop (length new) old) (omega arith) ∙ take-length new
