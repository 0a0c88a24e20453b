-- Each class is found once, whoever asks for it: the fills at all seats are as many as the names that were asked.
use Rattle.std.proofs.Common.{◌≡◌, ◌∙◌, ℕ, zero, suc, ◌+◌, ◌-◌, ◌^◌, ◌<◌, ◌≤◌, ◌==◌, min, List, [], ◌∷◌, map, length, drop, filter, Some, None, Bool, true, false, cond, IsTrue, refl, sym, ap, subst, arith, get_or, eq-eqb, ne_eqb, inl, inr}
use Rattle.std.specs.Prelude.{◌||◌, is_some, nat_lt, slice_get}
use Rattle.std.specs.Cmp.Lexicographic.{nat_list_cmp_total, slice_cmp}
use Rattle.std.specs.FinSet as set
use Rattle.std.specs.FinSet.{contains-empty, contains-from_list, contains-union, len-empty, len-insert}
use Rattle.std.specs.List.{AllByRecursion, Contains, flat_map}
use Rattle.std.specs.Ordering.{eq_by_cmp, nat_cmp}
use Rattle.std.proofs.lemmas.Bool.{ltb-true}
use Rattle.std.proofs.lemmas.List.{length-append, length-map}
use mathlib.Core.Logic.{dite}
use mathlib.Core.Option.{some, some-injective}
use native.Mathlib.Decide.{ℕ_discrete}
use lib.ListN.{get_elem?}
use Rattle.pj_cache.specs.declared.cache.Cache.{Cache}
use Rattle.pj_cache_laws.specs.Written.{WrittenRule}
use Rattle.pj_cached_files.specs.declared.entry.LeftFile.{LeftFile}
use Rattle.pj_crew.specs.Opening.{with_finds}
use Rattle.pj_crew.specs.Together.{HasLooks, HaveFound, IsFilled, IsMadeByAll, IsWorkOf, AreRightParts, SeatWork, claimed_by, names_of}
use Rattle.pj_fitting.specs.Left.{File}
use Rattle.pj_fitting.specs.Looked.{Looked, LookedFile}
use Rattle.pj_fitting.specs.Right.{Files}
use Rattle.pj_names.proofs.NameLists.{is_in, itself, same_name, same_names}
use Rattle.pj_names.specs.ClassName.{Name, NameSet, name_set}
use Rattle.pj_names.specs.Held.{NeedThemselves}
use Rattle.pj_outside.specs.Doors.{count_and}
use Rattle.pj_rule_sets.specs.Rules.{EffectiveRules}
use Rattle.pj_seats.specs.Looks.{AreLooksOf, count_fills, lies_at, made_at}
use Rattle.pj_table.specs.Book.{Stands, look_of, looks_of}
use Rattle.pj_table.proofs.Books.{at_there}
use Rattle.pj_table.specs.ClassWorld.{worlds_of}
use Rattle.pj_table.specs.Names.{part_of}
use Rattle.pj_table.specs.Rule.{once_below, times, total}
use Rattle.pj_table.specs.Worlds as table
use Rattle.pj_table.specs.declared.part.Part.{Part}
use Rattle.pj_table.specs.declared.view.Asked.{Asked}
use Rattle.pj_table.specs.declared.view.Entry.{Entry}
use Rattle.pj_table.specs.declared.view.Look.{Look}
use Rattle.pj_workers.specs.Cold.{World}
use Rattle.pj_shared_files.proofs.AllLeft.{comes_of}
use Rattle.pj_shared_files.proofs.Answering.{all_of}
use Rattle.pj_shared_files.proofs.Counting.{IsSeated, all_append, all_parts, all_two, any_is, by_seat, count, count_alike, count_append, count_filter, count_map, count_none, fills_at, legal_one, not_more, not_none, total_alike, total_none}
use Rattle.pj_shared_files.specs.InWorlds.{CountTogether, FindInWorld}

-- ---- sets of names

-- two names are the same
abbrev is_same : Name → Name → Bool
is_same x n = eq_by_cmp (slice_cmp nat_cmp) x n

by_count : (names : List Name) (x : Name) (b : Bool) → count (is_same x) names ≡ cond b 1 0 → is_in names x ≡ b
by_count names x b is =
    any_is (is_same x) names ∙ ap (λ (n : ℕ). nat_lt 0 n) is ∙ elim b as (λ c. nat_lt 0 (cond c 1 0) ≡ c) [ true ↦ refl | false ↦ refl ]

-- a list with each of its names once has as many as their set
once_each : (names : List Name) → ((x : Name) → count (is_same x) names ≤ 1) → set.len (name_set names) ≡ length names
once_each [] once = len-empty (slice_cmp nat_cmp)
once_each (n ∷ names) once =
    let rest = once_each names (λ x. let more = once x in omega (arith, more)) in
    let here : ◌≡◌ {A = ℕ} (cond (is_same n n) 1 0) 1 = ap (λ (b : Bool). cond b 1 0) (itself n) in
    let none : count (is_same n) names ≡ 0 = (let most = once n in omega (arith, most, here)) in
    let absent : set.contains (name_set names) n ≡ false = contains-from_list nat_list_cmp_total names n ∙ by_count names n false none in
    let more = len-insert nat_list_cmp_total (name_set names) n ∙ ap (λ (b : Bool). cond b (set.len (name_set names)) (set.len (name_set names) + 1)) absent in omega (arith, more, rest)

at_most : (b : Bool) (n : ℕ) → n ≡ cond b 1 0 → n ≤ 1
at_most true n is = omega (arith, is)
at_most false n is = omega (arith, is)

-- where each name of a set stands in a list once, and no other, there are as many
pub as_many : (names : List Name) (own : NameSet) → ((x : Name) → count (is_same x) names ≡ cond (set.contains own x) 1 0) → length names ≡ set.len own
as_many names own is =
    sym (once_each names (λ x. at_most (set.contains own x) (count (is_same x) names) (is x)))
    ∙ ap (λ (s : NameSet). set.len s) (same_names (name_set names) own (λ x. contains-from_list nat_list_cmp_total names x ∙ by_count names x (set.contains own x) (is x)))

-- ---- members

in_filter : {A : Type 0} (p : A → Bool) (xs : List A) (x : A) (k : ℕ) → get_elem? xs k ≡ some x → p x ≡ true → (j : ℕ) × (get_elem? (filter p xs) j ≡ some x)
in_filter p [] x k is so = absurd (cc)
in_filter p (y ∷ xs) x zero is so = let same : y ≡ x = some-injective y x is in let pass : p y ≡ true = ap p same ∙ so in rw pass (0, is)
in_filter {A} p (y ∷ xs) x (suc k) is so =
    let later = in_filter p xs x k is so in
    elim (p y) as (λ b. (j : ℕ) × (get_elem? (cond b (y ∷ filter p xs) (filter p xs)) j ≡ some x)) [ true ↦ (suc later.0, later.1) | false ↦ later ]

in_none : {A : Type 0} (xs : List A) (x : A) (k : ℕ) → xs ≡ [] → get_elem? xs k ≡ some x → ⊥
in_none [] x k is at = absurd (cc)
in_none (y ∷ xs) x k is at = let long = ap length is in omega (arith, long)

from_or : (a b : Bool) {P : Type 0} → (IsTrue a → P) → (IsTrue b → P) → IsTrue (a || b) → P
from_or true b f g h = f refl
from_or false b f g h = g h

or_left : (a b : Bool) → IsTrue a → IsTrue (a || b)
or_left true b h = refl
or_left false b h = absurd (cc)

or_right : (a b : Bool) → IsTrue b → IsTrue (a || b)
or_right true b h = refl
or_right false b h = h

-- what holds of all names of a list
one_of_all : (P : Name → Type 0) (names : List Name) (x : Name) → AllByRecursion P names → IsTrue (is_in names x) → P x
one_of_all P [] x all here = absurd (cc)
one_of_all P (n ∷ names) x all here =
    from_or (is_same x n) (is_in names x) (λ same. subst P (sym (same_name x n same)) all.0) (λ later. one_of_all P names x all.1 later) here

each_in : (P : Name → Type 0) (names : List Name) → ((x : Name) → IsTrue (is_in names x) → P x) → AllByRecursion P names
each_in P [] f = tt
each_in P (n ∷ names) f = (f n (or_left (is_same n n) (is_in names n) (itself n)), each_in P names (λ x later. f x (or_right (is_same x n) (is_in names x) later)))

-- ---- claims

counted : (claims : List (ℕ × List Name)) (c : ℕ × List Name) (k : ℕ) → k < length claims → get_or claims k c ≡ c → 0 < times c.0 (map (λ (f : ℕ × List Name). f.0) claims)
counted [] c k below at = absurd (omega (arith, below))
counted (f ∷ claims) c zero below at = let same : ◌≡◌ {A = ℕ} (cond (f.0 == c.0) 1 0) 1 = ap (λ (b : Bool). cond b 1 0) (eq-eqb f.0 c.0 (ap (λ (t : ℕ × List Name). t.0) at)) in omega (arith, same)
counted (f ∷ claims) c (suc k) below at = let later = counted claims c k (omega (arith, below)) at in omega (arith, later)

one_here : (f : ℕ × List Name) (n : ℕ) → f.0 ≡ n → ◌≡◌ {A = ℕ} (cond (f.0 == n) 1 0) 1
one_here f n same = ap (λ (b : Bool). cond b 1 0) (eq-eqb f.0 n same)

-- a number that was claimed once was claimed with one list of names
claimed_once : (claims : List (ℕ × List Name)) (n : ℕ) (xs ys : List Name) (i j : ℕ) → times n (map (λ (f : ℕ × List Name). f.0) claims) ≤ 1 → i < length claims → get_or claims i (n, xs) ≡ (n, xs) → j < length claims → get_or claims j (n, ys) ≡ (n, ys)
    → xs ≡ ys
claimed_once [] n xs ys i j once below at under there = absurd (omega (arith, below))
claimed_once (f ∷ claims) n xs ys zero zero once below at under there = sym (ap (λ (t : ℕ × List Name). t.1) at) ∙ ap (λ (t : ℕ × List Name). t.1) there
claimed_once (f ∷ claims) n xs ys zero (suc j) once below at under there =
    let here = one_here f n (ap (λ (t : ℕ × List Name). t.0) at) in let later = counted claims (n, ys) j (omega (arith, under)) there in absurd (omega (arith, once, here, later))
claimed_once (f ∷ claims) n xs ys (suc i) zero once below at under there =
    let here = one_here f n (ap (λ (t : ℕ × List Name). t.0) there) in let later = counted claims (n, xs) i (omega (arith, below)) at in absurd (omega (arith, once, here, later))
claimed_once (f ∷ claims) n xs ys (suc i) (suc j) once below at under there = claimed_once claims n xs ys i j (omega (arith, once)) (omega (arith, below)) at (omega (arith, under)) there

each_member : {A : Type 0} (P : A → Type 0) (xs : List A) → ((x : A) → Contains xs x → P x) → AllByRecursion P xs
each_member P [] f = tt
each_member P (x ∷ xs) f = (f x (0, omega arith, refl), each_member P xs (λ y at. f y (suc at.0, (let l = at.1 in omega arith), at.2)))

most_once : (n files : ℕ) → once_below n files ≤ 1
most_once n files = elim (nat_lt n files) as (λ b. cond b 1 0 ≤ 1) [ true ↦ omega arith | false ↦ omega arith ]

below_files : (n files : ℕ) → 0 < once_below n files → n < files
below_files n files some_time =
    elim (nat_lt n files) as (λ b. nat_lt n files ≡ b → n < files) [
      | true ↦ (λ yes. ltb-true n files yes)
      | false ↦ (λ no. let none : once_below n files ≡ 0 = ap (λ (b : Bool). cond b 1 0) no in absurd (omega (arith, some_time, none)))
    ] refl

-- ---- the looks of a seat

-- a look for a name of a set, where the name lies
abbrev IsLookIn : NameSet → Asked → Type 0
IsLookIn own a = (a.part ≡ part_of a.name) × IsTrue (set.contains own a.name)

looks_in : (own : NameSet) (names : List Name) (looks : List Asked) → map made_at looks ≡ map lies_at names → AllByRecursion (λ n. IsTrue (set.contains own n)) names → AllByRecursion (IsLookIn own) looks
looks_in own [] [] is all = tt
looks_in own [] (a ∷ looks) is all = absurd (let long = ap length is in omega (arith, long))
looks_in own (n ∷ names) [] is all = absurd (let long = ap length is in omega (arith, long))
looks_in own (n ∷ names) (a ∷ looks) is all =
    let here : made_at a ≡ lies_at n = ap (λ (xs : List (ℕ × Name)). get_or xs 0 (0, [])) is in
    let name : a.name ≡ n = ap (λ (x : ℕ × Name). x.1) here in
    ((ap (λ (x : ℕ × Name). x.0) here ∙ ap part_of (sym name), subst (λ (m : Name). IsTrue (set.contains own m)) (sym name) all.0), looks_in own names looks (ap (drop 1) is) all.1)

-- a look at a part stands at the place of its name
abbrev IsPlaced : List Entry → ℕ → Asked → Type 0
IsPlaced es p a = a.part ≡ p → Stands es a.place a.name

placed_on : (es : List Entry) (p : ℕ) (a : Asked) (looks : List Asked) (b : Bool) → (a.part == p) ≡ b
    → ((k : ℕ) (x : Asked) → get_elem? (cond b (a ∷ filter (λ (y : Asked). y.part == p) looks) (filter (λ (y : Asked). y.part == p) looks)) k ≡ some x → Stands es x.place x.name)
    → (((k : ℕ) (x : Asked) → get_elem? (filter (λ (y : Asked). y.part == p) looks) k ≡ some x → Stands es x.place x.name) → AllByRecursion (IsPlaced es p) looks) → AllByRecursion (IsPlaced es p) (a ∷ looks)
placed_on es p a looks true is at on = ((λ same. at 0 a refl), on (λ k x there. at (suc k) x there))
placed_on es p a looks false is at on = ((λ same. let yes = eq-eqb a.part p same in absurd (cc)), on at)

placed : (es : List Entry) (p : ℕ) (looks : List Asked) → ((k : ℕ) (a : Asked) → get_elem? (filter (λ (b : Asked). b.part == p) looks) k ≡ some a → Stands es a.place a.name) → AllByRecursion (IsPlaced es p) looks
placed es p [] named = tt
placed es p (a ∷ looks) named = placed_on es p a looks (a.part == p) refl named (λ later. placed es p looks later)

-- a fill for this name
abbrev fills_name : Name → Asked → Bool
fills_name x a = cond a.fill (is_same x a.name) false

not_filled : (b : Bool) → cond b false false ≡ false
not_filled true = refl
not_filled false = refl

-- one look fills the name where it fills the name's place
fills_alike : (es : List Entry) (x : Name) (k : ℕ) (e : Entry) → get_elem? es k ≡ some e → e.name ≡ x → ((j i : ℕ) (d f : Entry) → get_elem? es j ≡ some d → get_elem? es i ≡ some f → d.name ≡ f.name → j ≡ i)
    → (a : Asked) → a.part ≡ part_of a.name → IsPlaced es (part_of x) a → fills_name x a ≡ cond (a.part == part_of x) (cond a.fill (a.place == k) false) false
fills_alike es x k e at is apart a part stands = go (is_same x a.name) refl where
  when_other : is_same x a.name ≡ false → cond (a.part == part_of x) (cond a.fill (a.place == k) false) false ≡ false
  when_other unlike =
      dite (ℕ_discrete a.part (part_of x))
      (λ same.
      let there = stands same in
      let other : (a.place == k) ≡ false = ne_eqb a.place k (λ is_k.
      let d : there.0 ≡ e = some-injective there.0 e (sym there.1 ∙ ap (λ (n : ℕ). get_elem? es n) is_k ∙ at) in
      let name : x ≡ a.name = sym is ∙ ap (λ (f : Entry). f.name) (sym d) ∙ there.2 in
      let yes : is_same x a.name ≡ true = subst (λ (n : Name). is_same x n ≡ true) name (itself x) in absurd (cc)) in
      (λ i. cond (a.part == part_of x) (cond a.fill (other i) false) false) ∙ (λ i. cond (a.part == part_of x) (not_filled a.fill i) false) ∙ not_filled (a.part == part_of x))
      (λ other. ap (λ (b : Bool). cond b (cond a.fill (a.place == k) false) false) (ne_eqb a.part (part_of x) other))

  go : (b : Bool) → is_same x a.name ≡ b → fills_name x a ≡ cond (a.part == part_of x) (cond a.fill (a.place == k) false) false
  go true alike =
      let name : x ≡ a.name = same_name x a.name alike in
      let same : a.part ≡ part_of x = part ∙ ap part_of (sym name) in
      let there = stands same in
      let here : (a.place == k) ≡ true = eq-eqb a.place k (apart a.place k there.0 e there.1 at (there.2 ∙ sym name ∙ sym is)) in
      ap (λ (b : Bool). cond a.fill b false) (alike ∙ sym here) ∙ sym (ap (λ (b : Bool). cond b (cond a.fill (a.place == k) false) false) (eq-eqb a.part (part_of x) same))
  go false unlike = ap (λ (b : Bool). cond a.fill b false) unlike ∙ not_filled a.fill ∙ sym (when_other unlike)

-- ---- all seats

-- the names of the fills at seats
abbrev fill_names : List SeatWork → List Name
fill_names seats = flat_map (λ (seat : SeatWork). map (λ (a : Asked). a.name) (filter (λ (a : Asked). a.fill) seat.looks)) seats

abbrev all_fills : List SeatWork → ℕ
all_fills seats = total (λ (seat : SeatWork). count_fills seat.looks) seats

many_fills : (seats : List SeatWork) → length (fill_names seats) ≡ all_fills seats
many_fills [] = refl
many_fills (seat ∷ seats) =
    let here = filter (λ (a : Asked). a.fill) seat.looks in let rest = many_fills seats in
    let first = length-map here (λ (a : Asked). a.name) in let both = length-append (map (λ (a : Asked). a.name) here) (fill_names seats) in omega (arith, first, both, rest)

count_fill_names : (x : Name) (seats : List SeatWork) → count (is_same x) (fill_names seats) ≡ total (λ (seat : SeatWork). count (fills_name x) seat.looks) seats
count_fill_names x [] = refl
count_fill_names x (seat ∷ seats) =
    let here = filter (λ (a : Asked). a.fill) seat.looks in let rest = count_fill_names x seats in
    let both = count_append (is_same x) (map (λ (a : Asked). a.name) here) (fill_names seats) in
    let first = count_map (λ (a : Asked). a.name) (is_same x) here ∙ count_filter (λ (a : Asked). a.fill) (λ (a : Asked). is_same x a.name) seat.looks in omega (arith, first, both, rest)

module _ (files : ℕ) (world : table.World) (parts : List Part) (seats : List SeatWork) (right : AreRightParts world parts) (work : IsWorkOf files parts seats) (own : NameSet)
    (filled : (x : Name) → IsTrue (set.contains own x) → IsFilled parts x) (asked : AllByRecursion (λ (seat : SeatWork). AllByRecursion (λ n. IsTrue (set.contains own n)) (names_of seat)) seats) where
  looks_are : AllByRecursion (λ (seat : SeatWork). AllByRecursion (IsLookIn own) seat.looks) seats
  looks_are =
      all_two (λ (seat : SeatWork). AreLooksOf (names_of seat) seat.looks) (λ (seat : SeatWork). AllByRecursion (λ n. IsTrue (set.contains own n)) (names_of seat)) (λ (seat : SeatWork). AllByRecursion (IsLookIn own) seat.looks) seats
      (λ seat are all. looks_in own (names_of seat) seat.looks are all) work.looks asked

  -- no look has a number that no seat has
  seated : (p : ℕ) (x : Part) → get_elem? parts p ≡ some x → AllByRecursion (IsSeated seats) x.looks.items
  seated p x at = all_of (IsSeated seats) x.looks.items (λ k l there.
      let not_there : looks_of l.seat x.looks.items ≡ [] → ⊥ = λ none. let still = in_filter (λ (m : Look). m.seat == l.seat) x.looks.items l k there (eq-eqb l.seat l.seat refl) in in_none (looks_of l.seat x.looks.items) l still.0 none still.1 in
      (not_none l.seat (λ zero_is. not_there (work.others p l.seat x at (inl zero_is))), not_more l.seat (length seats) (λ above. not_there (work.others p l.seat x at (inr above)))))

  -- a name of the set is filled once
  one_fill : (x : Name) → IsFilled parts x → total (λ (seat : SeatWork). count (fills_name x) seat.looks) seats ≡ 1
  one_fill x is_filled =
      let part = is_filled.0 in let k = is_filled.1 in let at = is_filled.2 in let stands = is_filled.3 in
      let p = part_of x in let es = part.entries.items in let ls = part.looks.items in
      let good = (right.each p part at).good in
      let each : AllByRecursion (λ (seat : SeatWork). count (fills_name x) seat.looks ≡ count (fills_at k) (looks_of seat.number ls)) seats =
      all_two (λ (seat : SeatWork). AllByRecursion (IsLookIn own) seat.looks) (HasLooks p part) (λ (seat : SeatWork). count (fills_name x) seat.looks ≡ count (fills_at k) (looks_of seat.number ls)) seats
      (λ seat looks told.
      count_alike (fills_name x) (λ (a : Asked). cond (a.part == p) (cond a.fill (a.place == k) false) false) seat.looks
      (all_two (IsLookIn own) (IsPlaced es p) (λ a. fills_name x a ≡ cond (a.part == p) (cond a.fill (a.place == k) false) false) seat.looks
      (λ a look place. fills_alike es x k stands.0 stands.1 stands.2 good.apart a look.0 place) looks (placed es p seat.looks told.named))
      ∙ sym (count_filter (λ (a : Asked). a.part == p) (λ (a : Asked). cond a.fill (a.place == k) false) seat.looks)
      ∙ sym (count_map (look_of seat.number) (fills_at k) (filter (λ (a : Asked). a.part == p) seat.looks))
      ∙ ap (count (fills_at k)) (sym told.same))
      looks_are (work.told p part at) in
      let below : k < length es = at_there es k stands.0 stands.1 in
      let full = good.filled in
      total_alike (λ (seat : SeatWork). count (fills_name x) seat.looks) (λ (seat : SeatWork). count (fills_at k) (looks_of seat.number ls)) seats each
      ∙ by_seat (fills_at k) seats ls work.numbered (seated p part at)
      ∙ legal_one k 0 ls good.legal (omega arith) (omega (arith, below, full))

  -- another name is not
  no_fill : (x : Name) → set.contains own x ≡ false → total (λ (seat : SeatWork). count (fills_name x) seat.looks) seats ≡ 0
  no_fill x absent =
      total_none (λ (seat : SeatWork). count (fills_name x) seat.looks) seats
      (all_two (λ (seat : SeatWork). AllByRecursion (IsLookIn own) seat.looks) (λ (seat : SeatWork). AllByRecursion (IsLookIn own) seat.looks) (λ (seat : SeatWork). count (fills_name x) seat.looks ≡ 0) seats
      (λ seat looks again. count_none (fills_name x) seat.looks
      (all_two (IsLookIn own) (IsLookIn own) (λ a. fills_name x a ≡ false) seat.looks (λ a look once_more. go a look.1 (is_same x a.name) refl) looks looks)) looks_are looks_are) where
        go : (a : Asked) → IsTrue (set.contains own a.name) → (b : Bool) → is_same x a.name ≡ b → fills_name x a ≡ false
        go a there true alike = let is = subst (λ (n : Name). IsTrue (set.contains own n)) (sym (same_name x a.name alike)) there in absurd (cc)
        go a there false unlike = ap (λ (b : Bool). cond a.fill b false) unlike ∙ not_filled a.fill

  pub fills_are : all_fills seats ≡ set.len own
  fills_are = sym (many_fills seats) ∙ as_many (fill_names seats) own (λ x. count_fill_names x seats ∙ go x (set.contains own x) refl) where
    go : (x : Name) (b : Bool) → set.contains own x ≡ b → total (λ (seat : SeatWork). count (fills_name x) seat.looks) seats ≡ cond (set.contains own x) 1 0
    go x true there = one_fill x (filled x there) ∙ sym (ap (λ (b : Bool). cond b 1 0) there)
    go x false absent = no_fill x absent ∙ sym (ap (λ (b : Bool). cond b 1 0) absent)

-- ---- the names of all files

none_union : (s : NameSet) → set.union set.empty s ≡ s
none_union s = same_names (set.union set.empty s) s (λ q. contains-union nat_list_cmp_total set.empty s q ∙ ap (λ (b : Bool). b || set.contains s q) (contains-empty (slice_cmp nat_cmp) q))

module _ (files : Files WrittenRule) (found : Cache) (classes : World) (held : List WrittenRule) (parts : List Part) (claims : List (ℕ × List Name)) where
  -- what was asked for the file of a number
  abbrev IsAsked : ℕ → File → Type 0
  IsAsked n file = (names : List Name) × Contains claims (n, names) × AllByRecursion (IsFilled parts) names × LookedFile files found classes held file (name_set names)

  -- The names of files from a number on, together.
  abbrev AreAsked : ℕ → ℕ → List File → NameSet → Type 0
  AreAsked k many list own =
      Looked files found classes held list own × ((x : Name) → IsTrue (set.contains own x) → IsFilled parts x)
      × ((n : ℕ) → k ≤ n → n < k + many → (names : List Name) × Contains claims (n, names) × ((x : Name) → IsTrue (is_in names x) → IsTrue (set.contains own x)))

  pub asked_together : (k : ℕ) (list : List File) (made : List LeftFile) → length made ≡ length list → ((n : ℕ) (d : LeftFile) (one : File) → n < length list → slice_get list n ≡ Some one → IsAsked (k + n) one)
      → (own : NameSet) × AreAsked k (length list) list own
  asked_together k [] [] long each = (set.empty, (refl, (λ x there. let none = contains-empty (slice_cmp nat_cmp) x in absurd (cc)), (λ n from to. absurd (omega (arith, from, to)))))
  asked_together k [] (left ∷ made) long each = absurd (omega (arith, long))
  asked_together k (file ∷ list) [] long each = absurd (omega (arith, long))
  asked_together k (file ∷ list) (left ∷ made) long each =
      let first : IsAsked k file = subst (λ (n : ℕ). IsAsked n file) (omega arith) (each 0 left file (omega arith) refl) in
      let later = asked_together (k + 1) list made (omega (arith, long)) (λ n d one below is. subst (λ (m : ℕ). IsAsked m one) (omega arith) (each (suc n) d one (omega (arith, below)) is)) in
      let mine = name_set first.0 in let others = later.0 in let own = set.union mine others in
      let either = λ (x : Name). contains-union nat_list_cmp_total mine others x in (
        own,
        (
          record { own = mine; others = others; first = first.3; rest = later.1.0; all = refl },
          (λ x there.
              from_or (set.contains mine x) (set.contains others x) (λ here. one_of_all (IsFilled parts) first.0 x first.2 (subst (λ (b : Bool). IsTrue b) (contains-from_list nat_list_cmp_total first.0 x) here)) (λ rest. later.1.1 x rest)
              (subst (λ (b : Bool). IsTrue b) (either x) there)),
          (λ n from to.
              dite (ℕ_discrete n k)
              (λ same. (
                first.0,
                subst (λ (m : ℕ). Contains claims (m, first.0)) (sym same) first.1,
                (λ x there. subst (λ (b : Bool). IsTrue b) (sym (either x)) (or_left (set.contains mine x) (set.contains others x) (subst (λ (b : Bool). IsTrue b) (sym (contains-from_list nat_list_cmp_total first.0 x)) there))),
              ))
              (λ other.
              let one = later.1.2 n (not_more (k + 1) n (λ below. other (omega (arith, below, from)))) (omega (arith, to)) in
              (one.0, one.1, (λ x there. subst (λ (b : Bool). IsTrue b) (sym (either x)) (or_right (set.contains mine x) (set.contains others x) (one.2 x there)))))),
        ),
      )

-- ---- counts of doors

-- the finds of doors, added to a count, rise by the fills
finds_rise : {D : Type 0} (finds : D → ℕ) (before after : List D) (seats : List SeatWork) (n : ℕ) → HaveFound finds before after seats
    → min (with_finds finds after n) (2 ^ 64 - 1) ≡ min (with_finds finds before n + all_fills seats) (2 ^ 64 - 1)
finds_rise finds [] [] [] n have = omega arith
finds_rise finds [] [] (seat ∷ seats) n have = absurd have
finds_rise finds [] (a ∷ after) seats n have = absurd have
finds_rise finds (b ∷ before) [] seats n have = absurd have
finds_rise finds (b ∷ before) (a ∷ after) [] n have = absurd have
finds_rise finds (b ∷ before) (a ∷ after) (seat ∷ seats) n have =
    let here : finds a ≡ count_and (finds b) (count_fills seat.looks) = have.0 in let rest = finds_rise finds before after seats n have.1 in omega (arith, here, rest)

pub count_together : {D : Type 0} (finds : D → ℕ) (before after : List D) (seats : List SeatWork) (own : NameSet) → 0 < length before → HaveFound finds before after seats → all_fills seats ≡ set.len own → CountTogether finds before after own
count_together finds [] after seats own any have fills n = absurd (omega (arith, any))
count_together finds (b ∷ before) [] seats own any have fills n = absurd have
count_together finds (b ∷ before) (a ∷ after) seats own any have fills n = let rise = finds_rise finds (b ∷ before) (a ∷ after) seats n have in omega (arith, rise, fills)

-- ---- together

own_needs : (world : table.World) → NeedThemselves (worlds_of world)
own_needs None depth far name = refl
own_needs (Some folders) depth far name = refl

module _ {D : Type 0} (finds : D → ℕ) (before after : List D) (world : table.World) (rules : EffectiveRules) (found : Cache) (list : List File) (files : ℕ) (made : List LeftFile) (parts : List Part) (told : IsTrue (is_some world)) (many : files ≡ length list)
    (any : 0 < length before) (together : IsMadeByAll world (comes_of rules found list) finds files before after made parts) where
  in_set : (own : NameSet) → ((n : ℕ) → 0 ≤ n → n < 0 + length list → (names : List Name) × Contains (claimed_by together.seats) (n, names) × ((x : Name) → IsTrue (is_in names x) → IsTrue (set.contains own x)))
      → AllByRecursion (λ (f : ℕ × List Name). AllByRecursion (λ n. IsTrue (set.contains own n)) f.1) (claimed_by together.seats)
  in_set own each = each_member (λ (f : ℕ × List Name). AllByRecursion (λ n. IsTrue (set.contains own n)) f.1) (claimed_by together.seats) (λ f at.
      let once = together.work.once f.0 in
      let some_time = counted (claimed_by together.seats) f at.0 at.1 at.2 in
      let below = below_files f.0 files (omega (arith, once, some_time)) in
      let most = most_once f.0 files in
      let one = each f.0 (omega arith) (omega (arith, below, many)) in
      let same = claimed_once (claimed_by together.seats) f.0 f.1 one.0 at.0 one.1.0 (omega (arith, once, most)) at.1 at.2 one.1.1 one.1.2 in
      subst (λ (names : List Name). AllByRecursion (λ n. IsTrue (set.contains own n)) names) (sym same) (each_in (λ n. IsTrue (set.contains own n)) one.0 one.2))

  names_in : (P : Name → Type 0) (claims : List (ℕ × List Name)) → AllByRecursion (λ (f : ℕ × List Name). AllByRecursion P f.1) claims → AllByRecursion P (flat_map (λ (f : ℕ × List Name). f.1) claims)
  names_in P [] all = tt
  names_in P (f ∷ claims) all = all_append P f.1 (flat_map (λ (g : ℕ × List Name). g.1) claims) all.0 (names_in P claims all.1)

  seats_in : (P : Name → Type 0) (seats : List SeatWork) → AllByRecursion (λ (f : ℕ × List Name). AllByRecursion P f.1) (claimed_by seats) → AllByRecursion (λ (seat : SeatWork). AllByRecursion P (names_of seat)) seats
  seats_in P [] all = tt
  seats_in P (seat ∷ seats) all = let both = all_parts (λ (f : ℕ × List Name). AllByRecursion P f.1) seat.files (claimed_by seats) all in (names_in P seat.files both.0, seats_in P seats both.1)

  pub find_in_world : FindInWorld finds world rules found list before after
  find_in_world sources classes meant held stands =
      let asked = asked_together sources found classes held parts (claimed_by together.seats) 0 list made (together.many ∙ many) (λ n d one below is.
      let over = together.each n d (omega (arith, below, many)) in
      let looked = (over.made_so.comes_so told one is).looks sources classes meant held stands (own_needs world) in
      (over.names, subst (λ (m : ℕ). Contains (claimed_by together.seats) (m, over.names)) (let e : n ≡ 0 + n = omega arith in e) over.claimed, over.filled, subst (λ (s : NameSet). LookedFile sources found classes held one s) (sym (looked.2 ∙ none_union looked.0)) looked.1)) in
      let own = asked.0 in (
        own,
        asked.1.0,
        count_together finds before after together.seats own any together.found
            (fills_are files world parts together.seats together.right together.work own asked.1.1 (seats_in (λ n. IsTrue (set.contains own n)) together.seats (in_set own asked.1.2))),
      )
