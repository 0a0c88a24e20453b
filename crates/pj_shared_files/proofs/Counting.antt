-- Counts of members of lists, and of looks in the history of a part.
use Rattle.std.proofs.Common.{◌≡◌, ◌∙◌, ℕ, zero, suc, ◌+◌, ◌<◌, ◌≤◌, ◌==◌, List, [], ◌∷◌, ◌++◌, map, length, filter, Bool, true, false, cond, refl, sym, ap, arith, eq-eqb, ne_eqb}
use Rattle.std.specs.Prelude.{◌||◌, nat_lt}
use Rattle.std.specs.Bool.{MatchBool}
use Rattle.std.specs.List.{AllByRecursion, list_any}
use Rattle.std.proofs.lemmas.Bool.{lt-ltb, ltb-false, ltb-true}
use mathlib.Core.Logic.{dite}
use native.Mathlib.Decide.{ℕ_discrete}
use Rattle.pj_crew.specs.Together.{AreNumbered, SeatWork}
use Rattle.pj_table.specs.Book.{IsLegal, fills, looks_of, next}
use Rattle.pj_table.specs.Rule.{total}
use Rattle.pj_table.specs.declared.view.Look.{Look}

-- ---- numbers

pub not_more : (m n : ℕ) → (n < m → ⊥) → m ≤ n
not_more m n f =
    elim (nat_lt n m) as (λ b. nat_lt n m ≡ b → m ≤ n) [
      | true ↦ (λ is. absurd (f (ltb-true n m is)))
      | false ↦ (λ is. ltb-false n m is)
    ] refl

pub not_none : (m : ℕ) → (m ≡ 0 → ⊥) → 0 < m
not_none zero f = absurd (f refl)
not_none (suc m) f = omega arith

-- ---- members

-- how many members pass a test
abbrev pub count : {A : Type 0} → (A → Bool) → List A → ℕ
count p xs = total (λ x. cond (p x) 1 0) xs

pub count_is : {A : Type 0} (p : A → Bool) (xs : List A) → length (filter p xs) ≡ count p xs
count_is p [] = refl
count_is p (x ∷ xs) =
    let rest = count_is p xs in
    elim (p x) as (λ b. length (cond b (x ∷ filter p xs) (filter p xs)) ≡ cond b 1 0 + count p xs) [
      | true ↦ omega (arith, rest)
      | false ↦ omega (arith, rest)
    ]

pub count_alike : {A : Type 0} (p q : A → Bool) (xs : List A) → AllByRecursion (λ x. p x ≡ q x) xs → count p xs ≡ count q xs
count_alike p q [] all = refl
count_alike p q (x ∷ xs) all = λ i. cond (all.0 i) 1 0 + count_alike p q xs all.1 i

pub count_none : {A : Type 0} (p : A → Bool) (xs : List A) → AllByRecursion (λ x. p x ≡ false) xs → count p xs ≡ 0
count_none p [] all = refl
count_none p (x ∷ xs) all = let first : ◌≡◌ {A = ℕ} (cond (p x) 1 0) 0 = ap (λ (b : Bool). cond b 1 0) all.0 in let rest = count_none p xs all.1 in omega (arith, first, rest)

pub count_map : {A B : Type 0} (f : A → B) (p : B → Bool) (xs : List A) → count p (map f xs) ≡ count (λ x. p (f x)) xs
count_map f p [] = refl
count_map f p (x ∷ xs) = ap (λ (n : ℕ). cond (p (f x)) 1 0 + n) (count_map f p xs)

pub count_filter : {A : Type 0} (p q : A → Bool) (xs : List A) → count q (filter p xs) ≡ count (λ x. cond (p x) (q x) false) xs
count_filter p q [] = refl
count_filter p q (x ∷ xs) =
    let rest = count_filter p q xs in
    elim (p x) as (λ b. count q (cond b (x ∷ filter p xs) (filter p xs)) ≡ cond (cond b (q x) false) 1 0 + count (λ y. cond (p y) (q y) false) xs) [
      | true ↦ omega (arith, rest)
      | false ↦ omega (arith, rest)
    ]

pub count_append : {A : Type 0} (p : A → Bool) (xs ys : List A) → count p (xs ++ ys) ≡ count p xs + count p ys
count_append p [] ys = omega arith
count_append p (x ∷ xs) ys = let rest = count_append p xs ys in omega (arith, rest)

-- whether one passes, by how many do
pub any_is : {A : Type 0} (p : A → Bool) (xs : List A) → list_any p xs ≡ nat_lt 0 (count p xs)
any_is p [] = refl
any_is p (x ∷ xs) =
    let rest = any_is p xs in
    elim (p x) as (λ b. (b || list_any p xs) ≡ nat_lt 0 (cond b 1 0 + count p xs)) [
      | true ↦ sym (lt-ltb 0 (1 + count p xs) (omega arith))
      | false ↦ rest ∙ ap (λ (n : ℕ). nat_lt 0 n) (omega arith)
    ]

pub all_two : {A : Type 0} (P Q R : A → Type 0) (xs : List A) → ((x : A) → P x → Q x → R x) → AllByRecursion P xs → AllByRecursion Q xs → AllByRecursion R xs
all_two P Q R [] f ps qs = tt
all_two P Q R (x ∷ xs) f ps qs = (f x ps.0 qs.0, all_two P Q R xs f ps.1 qs.1)

pub all_append : {A : Type 0} (P : A → Type 0) (xs ys : List A) → AllByRecursion P xs → AllByRecursion P ys → AllByRecursion P (xs ++ ys)
all_append P [] ys all more = more
all_append P (x ∷ xs) ys all more = (all.0, all_append P xs ys all.1 more)

pub all_parts : {A : Type 0} (P : A → Type 0) (xs ys : List A) → AllByRecursion P (xs ++ ys) → AllByRecursion P xs × AllByRecursion P ys
all_parts P [] ys all = (tt, all)
all_parts P (x ∷ xs) ys all = let more = all_parts P xs ys all.1 in ((all.0, more.0), more.1)

-- ---- totals

pub total_alike : {A : Type 0} (f g : A → ℕ) (xs : List A) → AllByRecursion (λ x. f x ≡ g x) xs → total f xs ≡ total g xs
total_alike f g [] all = refl
total_alike f g (x ∷ xs) all = λ i. all.0 i + total_alike f g xs all.1 i

pub total_none : {A : Type 0} (f : A → ℕ) (xs : List A) → AllByRecursion (λ x. f x ≡ 0) xs → total f xs ≡ 0
total_none f [] all = refl
total_none f (x ∷ xs) all = let first = all.0 in let rest = total_none f xs all.1 in omega (arith, first, rest)

total_add : {A : Type 0} (f g : A → ℕ) (xs : List A) → total (λ x. f x + g x) xs ≡ total f xs + total g xs
total_add f g [] = refl
total_add f g (x ∷ xs) = let rest = total_add f g xs in omega (arith, rest)

-- ---- the history of a part

-- a fill at this place
abbrev pub fills_at : ℕ → Look → Bool
fills_at k l = cond l.fill (l.place == k) false

next_least : (n : ℕ) (l : Look) → n ≤ next n l
next_least n l = elim l.fill as (λ b. n ≤ cond b (n + 1) n) [ true ↦ omega arith | false ↦ omega arith ]

none_step : (b : Bool) (place k n rest : ℕ) → MatchBool b (place ≡ n) (place < n) → k < n → rest ≡ 0 → cond (cond b (place == k) false) 1 0 + rest ≡ 0
none_step false place k n rest fits below none = omega (arith, none)
none_step true place k n rest fits below none =
    let other : (place == k) ≡ false = ne_eqb place k (λ same. omega (arith, same, fits, below)) in
    let first : ◌≡◌ {A = ℕ} (cond (place == k) 1 0) 0 = ap (λ (b : Bool). cond b 1 0) other in omega (arith, first, none)

-- no look behind fills a place that was filled
legal_none : (k n : ℕ) (ls : List Look) → IsLegal n ls → k < n → count (fills_at k) ls ≡ 0
legal_none k n [] legal below = refl
legal_none k n (l ∷ ls) legal below = let least = next_least n l in none_step l.fill l.place k n (count (fills_at k) ls) legal.0 below (legal_none k (next n l) ls legal.1 (omega (arith, below, least)))

one_step : (b : Bool) (place k n rest : ℕ) → MatchBool b (place ≡ n) (place < n) → n ≤ k → (cond b (n + 1) n ≤ k → rest ≡ 1) → (k < cond b (n + 1) n → rest ≡ 0) → cond (cond b (place == k) false) 1 0 + rest ≡ 1
one_step false place k n rest fits from later before = let one = later from in omega (arith, one)
one_step true place k n rest fits from later before =
    dite (ℕ_discrete place k)
    (λ same. let yes : ◌≡◌ {A = ℕ} (cond (place == k) 1 0) 1 = ap (λ (b : Bool). cond b 1 0) (eq-eqb place k same) in let none = before (omega (arith, same, fits)) in omega (arith, yes, none))
    (λ other.
    let no : ◌≡◌ {A = ℕ} (cond (place == k) 1 0) 0 = ap (λ (b : Bool). cond b 1 0) (ne_eqb place k other) in
    let one = later (not_more (n + 1) k (λ below. other (omega (arith, below, fits, from)))) in omega (arith, no, one))

-- each place below the number of fills is filled once
pub legal_one : (k n : ℕ) (ls : List Look) → IsLegal n ls → n ≤ k → k < fills n ls → count (fills_at k) ls ≡ 1
legal_one k n [] legal from to = absurd (omega (arith, from, to))
legal_one k n (l ∷ ls) legal from to =
    one_step l.fill l.place k n (count (fills_at k) ls) legal.0 from (λ later. legal_one k (next n l) ls legal.1 later to) (λ before. legal_none k (next n l) ls legal.1 before)

-- ---- looks by seat

no_seat : (m w : ℕ) (seats : List SeatWork) → AreNumbered seats → length seats < m → total (λ (seat : SeatWork). cond (m == seat.number) w 0) seats ≡ 0
no_seat m w [] numbered above = refl
no_seat m w (seat ∷ seats) numbered above =
    let number = numbered.0 in
    let no : ◌≡◌ {A = ℕ} (cond (m == seat.number) w 0) 0 = ap (λ (b : Bool). cond b w 0) (ne_eqb m seat.number (λ same. omega (arith, same, number, above))) in
    let rest = no_seat m w seats numbered.1 (omega (arith, above)) in omega (arith, no, rest)

one_seat : (m w : ℕ) (seats : List SeatWork) → AreNumbered seats → 0 < m → m ≤ length seats → total (λ (seat : SeatWork). cond (m == seat.number) w 0) seats ≡ w
one_seat m w [] numbered from to = absurd (omega (arith, from, to))
one_seat m w (seat ∷ seats) numbered from to =
    let number = numbered.0 in
    dite (ℕ_discrete m seat.number)
    (λ same.
    let yes : ◌≡◌ {A = ℕ} (cond (m == seat.number) w 0) w = ap (λ (b : Bool). cond b w 0) (eq-eqb m seat.number same) in
    let rest = no_seat m w seats numbered.1 (omega (arith, same, number)) in omega (arith, yes, rest))
    (λ other.
    let no : ◌≡◌ {A = ℕ} (cond (m == seat.number) w 0) 0 = ap (λ (b : Bool). cond b w 0) (ne_eqb m seat.number other) in
    let rest = one_seat m w seats numbered.1 from (not_more m (length seats) (λ above. other (omega (arith, above, to, number)))) in omega (arith, no, rest))

-- the number of a seat that there is
abbrev pub IsSeated : List SeatWork → Look → Type 0
IsSeated seats l = (0 < l.seat) × (l.seat ≤ length seats)

first_of : (q : Look → Bool) (n : ℕ) (l : Look) (ls : List Look) → count q (looks_of n (l ∷ ls)) ≡ cond (l.seat == n) (cond (q l) 1 0) 0 + count q (looks_of n ls)
first_of q n l ls =
    elim (l.seat == n) as (λ b. count q (cond b (l ∷ looks_of n ls) (looks_of n ls)) ≡ cond b (cond (q l) 1 0) 0 + count q (looks_of n ls)) [
      | true ↦ refl
      | false ↦ omega arith
    ]

-- the looks of all seats are those of the history
pub by_seat : (q : Look → Bool) (seats : List SeatWork) (ls : List Look) → AreNumbered seats → AllByRecursion (IsSeated seats) ls → total (λ (seat : SeatWork). count q (looks_of seat.number ls)) seats ≡ count q ls
by_seat q seats [] numbered seated = total_none (λ (seat : SeatWork). count q (looks_of seat.number [])) seats (each_none seats) where
  each_none : (seats : List SeatWork) → AllByRecursion (λ (seat : SeatWork). count q (looks_of seat.number []) ≡ 0) seats
  each_none [] = tt
  each_none (seat ∷ seats) = (refl, each_none seats)
by_seat q seats (l ∷ ls) numbered seated =
    let one : ℕ = cond (q l) 1 0 in
    let here : SeatWork → ℕ = λ seat. cond (l.seat == seat.number) one 0 in
    let rest : SeatWork → ℕ = λ seat. count q (looks_of seat.number ls) in
    total_alike (λ (seat : SeatWork). count q (looks_of seat.number (l ∷ ls))) (λ (seat : SeatWork). here seat + rest seat) seats (each seats)
    ∙ total_add here rest seats
    ∙ (λ i. one_seat l.seat one seats numbered seated.0.0 seated.0.1 i + by_seat q seats ls numbered seated.1 i) where
      each : (some_seats : List SeatWork) → AllByRecursion (λ (seat : SeatWork). count q (looks_of seat.number (l ∷ ls)) ≡ cond (l.seat == seat.number) (cond (q l) 1 0) 0 + count q (looks_of seat.number ls)) some_seats
      each [] = tt
      each (seat ∷ more) = (first_of q seat.number l ls, each more)
