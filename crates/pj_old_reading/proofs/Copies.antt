-- Laws of what readers of the key put at the end of a copy.
use Rattle.std.proofs.Common.{◌≡◌, ℕ, zero, suc, ◌+◌, ◌-◌, ◌<◌, ◌≤◌, Bool, true, false, List, [], ◌∷◌, ◌++◌, length, map, drop, get_or, Result, Ok, Err, refl, sym, ap, subst, ◌∙◌, append_assoc, arith}
use Rattle.std.specs.Prelude.{MatchResult, if◌then◌else◌}
use Rattle.std.specs.List.{flat_map}
use Rattle.std.proofs.lemmas.List.{append-nil, drop_all, drop_more}
use Rattle.std.proofs.lemmas.List.Concat.{flat_map-cons}
use Rattle.pj_format.specs.declared.fault.Fault.{Fault}
use Rattle.pj_format.specs.declared.fault.Refused.{Refused}
use Rattle.pj_format.specs.declared.fault.Refused.TheVariants as refusals
use Rattle.pj_format.specs.Format.{Format, Done, ◌>>=◌, first, fault, judged, ◌and_then◌}
use Rattle.pj_format.specs.Fields.{sized, sized_as, several, Fails}
use Rattle.pj_format.proofs.Laws.{first_then, first_done, first_sized_as}
use Rattle.pj_cache_format.specs.Judges.{passing}
use Rattle.pj_cache_format.specs.Texts.{string}
use Rattle.pj_old_format.specs.ListKeys.{Text, is_number, value_of, tested, ◌followed_by◌, members, listed, all_tested}
use Rattle.pj_old_reading.specs.Copied.{behind_copy, Copies}

abbrev Read : Type 0
Read = Result (List ℕ × ℕ) Fault

abbrev good : List ℕ → ℕ → Read
good part end = Ok (part, end)

abbrev read_of : Read → List ℕ × ℕ
read_of (Ok x) = x
read_of (Err f) = ([], 0)

-- ---- copies

-- one copy behind another
joined : (copy front : List ℕ) (r : Read) → behind_copy copy (behind_copy front r) ≡ behind_copy (copy ++ front) r
joined copy front (Ok x) = ap (λ (l : List ℕ). good l x.1) (sym (append_assoc copy front x.0))
joined copy front (Err f) = refl

-- where both copies come to the same, the fault of one is that of the other
pub same_fault : (e : Refused) (copy other : List ℕ) (now all : Read) → behind_copy copy now ≡ behind_copy other all → Fails e now → Fails e all
same_fault refusals.Memory copy other now all same h = tt
same_fault (refusals.Fault f) copy other now (Ok x) same h = absurd cc
same_fault (refusals.Fault f) copy other now (Err g) same h = sym same ∙ ap (behind_copy copy) h

-- what comes behind a first part, which stands at the end of the copy
goes : (r : Read) (next : ℕ → Read) (old copy : List ℕ) (mid : ℕ) → behind_copy old r ≡ good copy mid → behind_copy old (r and_then λ x. behind_copy x.0 (next x.1)) ≡ behind_copy copy (next mid)
goes (Ok x) next old copy mid e =
    let front : old ++ x.0 ≡ copy = ap (λ (r : Read). (read_of r).0) e in
    let place : x.1 ≡ mid = ap (λ (r : Read). (read_of r).1) e in
    joined old x.0 (next x.1) ∙ (λ i. behind_copy (front i) (next (place i)))
goes (Err f) next old copy mid e = absurd cc

fails : (e : Refused) (r : Read) (next : ℕ → Read) (old copy : List ℕ) (mid : ℕ) → behind_copy old r ≡ good copy mid → Fails e (next mid) → Fails e (r and_then λ x. behind_copy x.0 (next x.1))
fails refusals.Memory r next old copy mid e h = tt
fails (refusals.Fault f) (Ok x) next old copy mid e h =
    let place : x.1 ≡ mid = ap (λ (r : Read). (read_of r).1) e in ap (behind_copy x.0) (ap next place ∙ h)
fails (refusals.Fault f) (Err g) next old copy mid e h = absurd cc

-- ---- one format behind another

followed_read : (m n : Format (List ℕ)) (bytes : List ℕ) (at : ℕ) → first (m followed_by n) bytes at ≡ (first m bytes at and_then λ x. behind_copy x.0 (first n bytes x.1))
unfolding ◌followed_by◌
followed_read m n bytes at =
    first_then m (λ front. n >>= λ more. Done (front ++ more)) bytes at
    ∙ ap (λ (f : List ℕ × ℕ → Read). first m bytes at and_then f) (λ i x. behind x.0 x.1 i)
  where
    ended : (front : List ℕ) → ◌≡◌ {A = List ℕ × ℕ → Read} (λ y. first (Done (front ++ y.0)) bytes y.1) (λ y. good (front ++ y.0) y.1)
    ended front = λ i y. first_done (front ++ y.0) bytes y.1 i

    behind : (front : List ℕ) (from : ℕ) → first (n >>= λ more. Done (front ++ more)) bytes from ≡ (first n bytes from and_then λ y. good (front ++ y.0) y.1)
    behind front from = first_then n (λ more. Done (front ++ more)) bytes from ∙ ap (λ (f : List ℕ × ℕ → Read). first n bytes from and_then f) (ended front)

pub followed_goes : (m n : Format (List ℕ)) (bytes : List ℕ) (at mid : ℕ) (old copy : List ℕ) → Copies m bytes at old copy (Ok mid) → behind_copy old (first (m followed_by n) bytes at) ≡ behind_copy copy (first n bytes mid)
followed_goes m n bytes at mid old copy h =
    ap (behind_copy old) (followed_read m n bytes at) ∙ goes (first m bytes at) (λ from. first n bytes from) old copy mid h

-- a fault of the first one
pub followed_fails : (e : Refused) (m n : Format (List ℕ)) (bytes : List ℕ) (at : ℕ) → Fails e (first m bytes at) → Fails e (first (m followed_by n) bytes at)
followed_fails refusals.Memory m n bytes at h = tt
followed_fails (refusals.Fault f) m n bytes at h = followed_read m n bytes at ∙ ap (λ (r : Read). r and_then λ x. behind_copy x.0 (first n bytes x.1)) h

-- the second one, behind the first
pub copies_then : (m n : Format (List ℕ)) (bytes : List ℕ) (at mid : ℕ) (old copy new : List ℕ) (r : Result ℕ Refused) → Copies m bytes at old copy (Ok mid) → Copies n bytes mid copy new r → Copies (m followed_by n) bytes at old new r
copies_then m n bytes at mid old copy new (Ok end) one two = followed_goes m n bytes at mid old copy one ∙ two
copies_then m n bytes at mid old copy new (Err e) one two = by_read e (fails e (first m bytes at) (λ from. first n bytes from) old copy mid one two) where
  by_read : (e : Refused) → Fails e (first m bytes at and_then λ x. behind_copy x.0 (first n bytes x.1)) → Fails e (first (m followed_by n) bytes at)
  by_read refusals.Memory h = tt
  by_read (refusals.Fault f) h = followed_read m n bytes at ∙ h

-- ---- lists of tests

pub no_tests : (bytes : List ℕ) (at : ℕ) → first (all_tested []) bytes at ≡ good [] at
unfolding all_tested
no_tests bytes at = first_done [] bytes at

pub more_tests : (test : Text → Bool) (tests : List (Text → Bool)) → all_tested (test ∷ tests) ≡ tested test followed_by all_tested tests
unfolding all_tested
more_tests test tests = refl

-- one test more
pub tests_left : {X : Type 0} (f : X → Text → Bool) (xs : List X) (i : ℕ) (d : X) → i < length xs → all_tested (map f (drop i xs)) ≡ tested (f (get_or xs i d)) followed_by all_tested (map f (drop (i + 1) xs))
tests_left {X} f xs i d lt = ap (λ (l : List X). all_tested (map f l)) (drop_more xs i d lt) ∙ more_tests (f (get_or xs i d)) (map f (drop (i + 1) xs))

pub tests_done : {X : Type 0} (f : X → Text → Bool) (xs : List X) (i : ℕ) (bytes : List ℕ) (at : ℕ) → length xs ≤ i → first (all_tested (map f (drop i xs))) bytes at ≡ good [] at
tests_done {X} f xs i bytes at le = ap (λ (l : List X). first (all_tested (map f l)) bytes at) (drop_all i xs le) ∙ no_tests bytes at

-- one text
pub one_test : (test : Text → Bool) (bytes : List ℕ) (at : ℕ) → first (tested test) bytes at ≡ (first sized bytes at and_then λ x. judged at (passing test x.0) and_then λ y. good (string y) x.1)
unfolding tested
one_test test bytes at =
    first_then (sized_as (passing test)) (λ words. Done (string words)) bytes at
    ∙ ap (λ (f : List ℕ × ℕ → Read). first (sized_as (passing test)) bytes at and_then f) (λ i x. first_done (string x.0) bytes x.1 i)
    ∙ ap (λ (r : Read). r and_then λ x. good (string x.0) x.1) (first_sized_as (passing test) bytes at)
    ∙ regroup (first sized bytes at)
  where
    inner : (at end : ℕ) (r : Result (List ℕ) ℕ) → ((judged at r and_then λ y. good y end) and_then λ x. good (string x.0) x.1) ≡ (judged at r and_then λ y. good (string y) end)
    inner at end (Ok x) = refl
    inner at end (Err k) = refl

    regroup : (r : Read) → ((r and_then λ x. judged at (passing test x.0) and_then λ y. good y x.1) and_then λ x. good (string x.0) x.1) ≡ (r and_then λ x. judged at (passing test x.0) and_then λ y. good (string y) x.1)
    regroup (Ok x) = inner at x.1 (passing test x.0)
    regroup (Err f) = refl

-- the number of bytes is cut short
pub test_fails : (e : Refused) (test : Text → Bool) (bytes : List ℕ) (at : ℕ) → Fails e (first sized bytes at) → Fails e (first (tested test) bytes at)
test_fails refusals.Memory test bytes at h = tt
test_fails (refusals.Fault f) test bytes at h =
    one_test test bytes at ∙ ap (λ (r : Read). r and_then λ x. judged at (passing test x.0) and_then λ y. good (string y) x.1) h

test_read : (test : Text → Bool) (bytes : List ℕ) (at end : ℕ) (words : List ℕ) (b : Bool) → first sized bytes at ≡ Ok (words, end) → test words ≡ b → first (tested test) bytes at ≡ (judged at (if b then Ok words else Err 1) and_then λ y. good (string y) end)
test_read test bytes at end words b read is =
    one_test test bytes at
    ∙ ap (λ (r : Read). r and_then λ x. judged at (passing test x.0) and_then λ y. good (string y) x.1) read
    ∙ ap (λ (c : Bool). judged at (if c then Ok words else Err 1) and_then λ y. good (string y) end) is

-- the text fails the test
pub test_wrong : (test : Text → Bool) (bytes : List ℕ) (at end : ℕ) (words : List ℕ) → first sized bytes at ≡ Ok (words, end) → test words ≡ false → first (tested test) bytes at ≡ Err (fault 1 at)
test_wrong test bytes at end words read is = test_read test bytes at end words false read is

-- it passes the test, and stands at the end of the copy
pub test_copies : (test : Text → Bool) (bytes : List ℕ) (at end : ℕ) (words old new : List ℕ) → first sized bytes at ≡ Ok (words, end) → test words ≡ true → new ≡ old ++ string words → Copies (tested test) bytes at old new (Ok end)
test_copies test bytes at end words old new read is put =
    ap (behind_copy old) (test_read test bytes at end words true read is) ∙ ap (λ (l : List ℕ). good l end) (sym put)

-- ---- an empty copy

pub nothing_before : (r : Read) (none copy made : List ℕ) (end : ℕ) → none ≡ [] → behind_copy none r ≡ good copy end → made ≡ copy → r ≡ good made end
nothing_before (Ok x) none copy made end is e same = ap (λ (front : List ℕ). good (front ++ x.0) x.1) (sym is) ∙ e ∙ ap (λ (l : List ℕ). good l end) (sym same)
nothing_before (Err f) none copy made end is e same = absurd cc

-- ---- members

abbrev flat : List (List ℕ) → List ℕ
flat parts = flat_map (λ (part : List ℕ). part) parts

abbrev Parts : Type 0
Parts = Result (List (List ℕ) × ℕ) Fault

abbrev flat_of : Parts → Read
flat_of r = r and_then λ x. good (flat x.0) x.1

members_read : (item : Format (List ℕ)) (count : ℕ) (bytes : List ℕ) (at : ℕ) → first (members item count) bytes at ≡ flat_of (first (several item count) bytes at)
unfolding members
members_read item count bytes at =
    first_then (several item count) (λ parts. Done (flat parts)) bytes at
    ∙ ap (λ (f : List (List ℕ) × ℕ → Read). first (several item count) bytes at and_then f) (λ i x. first_done (flat x.0) bytes x.1 i)

pub no_members : (item : Format (List ℕ)) (bytes : List ℕ) (at : ℕ) → first (members item 0) bytes at ≡ good [] at
unfolding several
no_members item bytes at = members_read item 0 bytes at ∙ ap flat_of (first_done [] bytes at)

abbrev one_more : List ℕ → Parts → Parts
one_more n read = read and_then λ x. Ok (n ∷ x.0, x.1)

several_is : (item : Format (List ℕ)) (bytes : List ℕ) (n at : ℕ) → first (several item (suc n)) bytes at ≡ (first item bytes at and_then λ x. one_more x.0 (first (several item n) bytes x.1))
unfolding several first
several_is item bytes n at =
    first_then item (λ one. several item n >>= λ others. Done (one ∷ others)) bytes at ∙ inner (first item bytes at) where
      inner : (r : Read) → (r and_then λ x. first (several item n >>= λ others. Done (x.0 ∷ others)) bytes x.1) ≡ (r and_then λ x. one_more x.0 (first (several item n) bytes x.1))
      inner (Ok x) = first_then (several item n) (λ others. Done (x.0 ∷ others)) bytes x.1
      inner (Err e) = refl

flat_more : (n : List ℕ) (r : Parts) → flat_of (one_more n r) ≡ behind_copy n (flat_of r)
flat_more n (Ok x) = ap (λ (l : List ℕ). good l x.1) (flat_map-cons (λ (part : List ℕ). part) n x.0)
flat_more n (Err f) = refl

pub members_is : (item : Format (List ℕ)) (n : ℕ) (bytes : List ℕ) (at : ℕ) → first (members item (suc n)) bytes at ≡ first (item followed_by members item n) bytes at
members_is item n bytes at =
    members_read item (suc n) bytes at ∙ ap flat_of (several_is item bytes n at) ∙ inner (first item bytes at) ∙ sym (followed_read item (members item n) bytes at) where
      inner : (r : Read) → flat_of (r and_then λ x. one_more x.0 (first (several item n) bytes x.1)) ≡ (r and_then λ x. behind_copy x.0 (first (members item n) bytes x.1))
      inner (Ok x) = flat_more x.0 (first (several item n) bytes x.1) ∙ ap (behind_copy x.0) (sym (members_read item n bytes x.1))
      inner (Err f) = refl

-- one more of so many
pub members_more : (item : Format (List ℕ)) (count i : ℕ) (bytes : List ℕ) (at : ℕ) → i < count → first (members item (count - i)) bytes at ≡ first (item followed_by members item (count - (i + 1))) bytes at
members_more item count i bytes at lt =
    let left : count - i ≡ suc (count - (i + 1)) = omega (arith, lt) in
    ap (λ (n : ℕ). first (members item n) bytes at) left ∙ members_is item (count - (i + 1)) bytes at

pub members_done : (item : Format (List ℕ)) (count i : ℕ) (bytes : List ℕ) (at : ℕ) → count ≤ i → first (members item (count - i)) bytes at ≡ good [] at
members_done item count i bytes at le =
    let left : count - i ≡ 0 = omega (arith, le) in ap (λ (n : ℕ). first (members item n) bytes at) left ∙ no_members item bytes at

-- ---- loops: what is still to be read behind the copy so far comes to the same

pub loop_goes : (m n : Format (List ℕ)) (left all : Read) (bytes : List ℕ) (place mid : ℕ) (start old copy : List ℕ) → left ≡ first (m followed_by n) bytes place → Copies m bytes place old copy (Ok mid) → behind_copy old left ≡ behind_copy start all → behind_copy copy (first n bytes mid) ≡ behind_copy start all
loop_goes m n left all bytes place mid start old copy is one so_far = sym (followed_goes m n bytes place mid old copy one) ∙ ap (behind_copy old) (sym is) ∙ so_far

pub loop_fails : (e : Refused) (m n : Format (List ℕ)) (left all : Read) (bytes : List ℕ) (place : ℕ) (start old : List ℕ) → left ≡ first (m followed_by n) bytes place → Fails e (first m bytes place) → behind_copy old left ≡ behind_copy start all → Fails e all
loop_fails refusals.Memory m n left all bytes place start old is h so_far = tt
loop_fails (refusals.Fault f) m n left all bytes place start old is h so_far =
    same_fault (refusals.Fault f) old start left all so_far (is ∙ followed_fails (refusals.Fault f) m n bytes place h)

pub loop_ends : (left all : Read) (place : ℕ) (start copy : List ℕ) → left ≡ good [] place → behind_copy copy left ≡ behind_copy start all → behind_copy start all ≡ good copy place
loop_ends left all place start copy is so_far = sym so_far ∙ ap (behind_copy copy) is ∙ ap (λ (l : List ℕ). good l place) (append-nil copy)

-- ---- as many members as a number tells

listed_read : (item : Format (List ℕ)) (bytes : List ℕ) (at : ℕ) → first (listed item) bytes at ≡ (first sized bytes at and_then λ x. judged at (passing is_number x.0) and_then λ y. behind_copy (string y) (first (members item (value_of y)) bytes x.1))
unfolding listed
listed_read item bytes at =
    first_then (sized_as (passing is_number)) (λ count. members item (value_of count) >>= λ all. Done (string count ++ all)) bytes at
    ∙ ap (λ (f : List ℕ × ℕ → Read). first (sized_as (passing is_number)) bytes at and_then f) (λ i x. behind x.0 x.1 i)
    ∙ ap (λ (r : Read). r and_then λ x. behind_copy (string x.0) (first (members item (value_of x.0)) bytes x.1)) (first_sized_as (passing is_number) bytes at)
    ∙ regroup (first sized bytes at)
  where
    ended : (front : List ℕ) → ◌≡◌ {A = List ℕ × ℕ → Read} (λ y. first (Done (front ++ y.0)) bytes y.1) (λ y. good (front ++ y.0) y.1)
    ended front = λ i y. first_done (front ++ y.0) bytes y.1 i

    behind : (count : List ℕ) (from : ℕ) → first (members item (value_of count) >>= λ all. Done (string count ++ all)) bytes from ≡ behind_copy (string count) (first (members item (value_of count)) bytes from)
    behind count from = first_then (members item (value_of count)) (λ all. Done (string count ++ all)) bytes from ∙ ap (λ (f : List ℕ × ℕ → Read). first (members item (value_of count)) bytes from and_then f) (ended (string count))

    inner : (at end : ℕ) (r : Result (List ℕ) ℕ) → ((judged at r and_then λ y. good y end) and_then λ x. behind_copy (string x.0) (first (members item (value_of x.0)) bytes x.1)) ≡ (judged at r and_then λ y. behind_copy (string y) (first (members item (value_of y)) bytes end))
    inner at end (Ok x) = refl
    inner at end (Err k) = refl

    regroup : (r : Read) → ((r and_then λ x. judged at (passing is_number x.0) and_then λ y. good y x.1) and_then λ x. behind_copy (string x.0) (first (members item (value_of x.0)) bytes x.1)) ≡ (r and_then λ x. judged at (passing is_number x.0) and_then λ y. behind_copy (string y) (first (members item (value_of y)) bytes x.1))
    regroup (Ok x) = inner at x.1 (passing is_number x.0)
    regroup (Err f) = refl

abbrev pub listed_behind : Format (List ℕ) → List ℕ → List ℕ → ℕ → Read
listed_behind item bytes digits from = behind_copy (string digits) (first (members item (value_of digits)) bytes from)

-- the number passes the test
listed_goes : (item : Format (List ℕ)) (bytes : List ℕ) (at from : ℕ) (digits : List ℕ) → first sized bytes at ≡ Ok (digits, from) → is_number digits ≡ true → first (listed item) bytes at ≡ listed_behind item bytes digits from
listed_goes item bytes at from digits read is =
    listed_read item bytes at
    ∙ ap (λ (r : Read). r and_then λ x. judged at (passing is_number x.0) and_then λ y. behind_copy (string y) (first (members item (value_of y)) bytes x.1)) read
    ∙ ap (λ (r : Result (List ℕ) ℕ). judged at r and_then λ y. behind_copy (string y) (first (members item (value_of y)) bytes from)) (passed is_number digits is)
  where
    passed : (test : Text → Bool) (x : Text) → test x ≡ true → passing test x ≡ Ok x
    passed test x e = ap (λ (b : Bool). (if b then Ok x else Err 1)) e

pub listed_wrong : (item : Format (List ℕ)) (bytes : List ℕ) (at from : ℕ) (digits : List ℕ) → first sized bytes at ≡ Ok (digits, from) → is_number digits ≡ false → first (listed item) bytes at ≡ Err (fault 1 at)
listed_wrong item bytes at from digits read is =
    listed_read item bytes at
    ∙ ap (λ (r : Read). r and_then λ x. judged at (passing is_number x.0) and_then λ y. behind_copy (string y) (first (members item (value_of y)) bytes x.1)) read
    ∙ ap (λ (r : Result (List ℕ) ℕ). judged at r and_then λ y. behind_copy (string y) (first (members item (value_of y)) bytes from)) (failed is_number digits is)
  where
    failed : (test : Text → Bool) (x : Text) → test x ≡ false → passing test x ≡ Err 1
    failed test x e = ap (λ (b : Bool). (if b then Ok x else Err 1)) e

pub listed_fails : (e : Refused) (item : Format (List ℕ)) (bytes : List ℕ) (at : ℕ) → Fails e (first sized bytes at) → Fails e (first (listed item) bytes at)
listed_fails refusals.Memory item bytes at h = tt
listed_fails (refusals.Fault f) item bytes at h =
    listed_read item bytes at ∙ ap (λ (r : Read). r and_then λ x. judged at (passing is_number x.0) and_then λ y. behind_copy (string y) (first (members item (value_of y)) bytes x.1)) h

behind_fails : (e : Refused) (copy : List ℕ) (r : Read) → Fails e r → Fails e (behind_copy copy r)
behind_fails refusals.Memory copy r h = tt
behind_fails (refusals.Fault f) copy r h = ap (behind_copy copy) h

-- a fault is one of all that begin so
back : (e : Refused) (x y : Read) → x ≡ y → Fails e y → Fails e x
back e x y is h = subst (λ (r : Read). Fails e r) (sym is) h

pub listed_copies : (item : Format (List ℕ)) (bytes : List ℕ) (at from n : ℕ) (digits old copy new : List ℕ) (r : Result ℕ Refused) → first sized bytes at ≡ Ok (digits, from) → is_number digits ≡ true → copy ≡ old ++ string digits → n ≡ value_of digits → Copies (members item n) bytes from copy new r → Copies (listed item) bytes at old new r
listed_copies item bytes at from n digits old copy new (Ok end) read is put value h =
    ap (behind_copy old) (listed_goes item bytes at from digits read is)
    ∙ joined old (string digits) (first (members item (value_of digits)) bytes from)
    ∙ (λ i. behind_copy (sym put i) (first (members item (sym value i)) bytes from))
    ∙ h
listed_copies item bytes at from n digits old copy new (Err e) read is put value h =
    back e (first (listed item) bytes at) (listed_behind item bytes digits from) (listed_goes item bytes at from digits read is)
    (behind_fails e (string digits) (first (members item (value_of digits)) bytes from) (subst (λ (k : ℕ). Fails e (first (members item k) bytes from)) value h))

-- ---- more members than are read up to a fault

step_fault : (r : Read) (next other : ℕ → Read) (f : Fault) → ((at : ℕ) → next at ≡ Err f → other at ≡ Err f) → (r and_then λ x. behind_copy x.0 (next x.1)) ≡ Err f → (r and_then λ x. behind_copy x.0 (other x.1)) ≡ Err f
step_fault (Ok x) next other f more h = ap (behind_copy x.0) (more x.1 (only x.0 (next x.1) h)) where
  only : (copy : List ℕ) (r : Read) → behind_copy copy r ≡ Err f → r ≡ Err f
  only copy (Ok y) e = absurd cc
  only copy (Err g) e = e
step_fault (Err g) next other f more h = h

longer : (item : Format (List ℕ)) (k more : ℕ) (bytes : List ℕ) (at : ℕ) (f : Fault) → first (members item k) bytes at ≡ Err f → first (members item (k + more)) bytes at ≡ Err f
longer item zero more bytes at f h = absurd (none (first (members item 0) bytes at) (no_members item bytes at) h) where
  none : (r : Read) → r ≡ good [] at → r ≡ Err f → ⊥
  none (Ok x) e h = absurd cc
  none (Err g) e h = absurd cc
longer item (suc k) more bytes at f h =
    let more_is : suc k + more ≡ suc (k + more) = omega arith in
    ap (λ (n : ℕ). first (members item n) bytes at) more_is
    ∙ members_is item (k + more) bytes at
    ∙ followed_read item (members item (k + more)) bytes at
    ∙ step_fault (first item bytes at) (λ from. first (members item k) bytes from) (λ from. first (members item (k + more)) bytes from) f
    (λ from e. longer item k more bytes from f e)
    (sym (followed_read item (members item k) bytes at) ∙ sym (members_is item k bytes at) ∙ h)

pub more_fail : (e : Refused) (item : Format (List ℕ)) (k n : ℕ) (bytes : List ℕ) (at : ℕ) → k ≤ n → Fails e (first (members item k) bytes at) → Fails e (first (members item n) bytes at)
more_fail refusals.Memory item k n bytes at le h = tt
more_fail (refusals.Fault f) item k n bytes at le h =
    let sum : k + (n - k) ≡ n = omega (arith, le) in
    subst (λ (m : ℕ). first (members item m) bytes at ≡ Err f) sum (longer item k (n - k) bytes at f h)

-- as many as a number tells, where fewer come to a fault
pub listed_long : (e : Refused) (item : Format (List ℕ)) (bytes : List ℕ) (at from k : ℕ) (digits : List ℕ) → first sized bytes at ≡ Ok (digits, from) → is_number digits ≡ true → k ≤ value_of digits → Fails e (first (members item k) bytes from) → Fails e (first (listed item) bytes at)
listed_long e item bytes at from k digits read is le h =
    back e (first (listed item) bytes at) (listed_behind item bytes digits from) (listed_goes item bytes at from digits read is)
    (behind_fails e (string digits) (first (members item (value_of digits)) bytes from) (more_fail e item k (value_of digits) bytes from le h))

-- so it is of a reader that ends by a fault
pub too_many_copy : (item : Format (List ℕ)) (k n : ℕ) (bytes : List ℕ) (at : ℕ) (old new : List ℕ) (r : Result ℕ Refused) → k ≤ n → MatchResult r (λ end. ⊥) (λ e. Fails e (first (members item k) bytes at)) → Copies (members item n) bytes at old new r
too_many_copy item k n bytes at old new (Ok end) le h = absurd h
too_many_copy item k n bytes at old new (Err e) le h = more_fail e item k n bytes at le h
