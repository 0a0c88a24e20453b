-- Members of lists by their numbers.
use Rattle.std.proofs.Common.{◌≡◌, ◌≤◌, ◌<◌, ◌+◌, ◌++◌, ◌∙◌, ℕ, zero, suc, List, [], ◌∷◌, Option, Some, None, Result, Ok, Err, ap, arith, get_or, length, refl, slice_get, subst, sym}
use Rattle.std.proofs.lemmas.List.Elements.{All-head, All-tail, All-from_get_or}
use Rattle.std.proofs.lemmas.List.FromFn.{get_or-range_with_len, length-range_with_len}
use Rattle.std.specs.List.{All, AllZip, cons_option, range_with_len}
use Rattle.pj_findings.specs.Merged.{merge}
use Rattle.pj_names.specs.Asking.{Return, bind, each}
use Rattle.pj_outside.specs.Files.{Bytes}
use Rattle.pj_parse.specs.JavaFile.{JavaFile}
use Rattle.pj_parse.specs.declared.file_fault.FileFault.{FileFault}
use Rattle.pj_workers.specs.Chosen.{chosen, chosen_at, numbers_to}
use Rattle.pj_workers.specs.FileMeaning.{Replies, file_at, head_of, rule_at}
use Rattle.pj_workers.specs.Rules.{Rule}
use Rattle.pj_workers.proofs.FileLaws.{one_error}
use Rattle.pj_workers.proofs.Running.{StandsAt, later, zip_length}

-- ---- a member by its number

-- beside each member of the first list there is one in the second
beside_at : {X Y : Type 0} (R : X → Y → Type 0) (xs : List X) (ys : List Y) (i : ℕ) (x : X) → AllZip R xs ys → i < length xs → x ≡ get_or xs i x → (y : Y) × R x y × (slice_get ys i ≡ Some y)
beside_at R [] ys i x h below is = absurd (omega (arith, below))
beside_at R (a ∷ xs) [] i x h below is = absurd h
beside_at R (a ∷ xs) (b ∷ ys) zero x h below is = (b, subst (λ z. R z b) (sym is) h.0, refl)
beside_at R (a ∷ xs) (b ∷ ys) (suc i) x h below is = beside_at R xs ys i x h.1 (omega (arith, below)) is

there_is : {X Y : Type 0} (R : X → Y → Type 0) (xs : List X) (ys : List Y) (i : ℕ) → AllZip R xs ys → i < length xs → (y : Y) × (slice_get ys i ≡ Some y)
there_is R [] ys i h below = absurd (omega (arith, below))
there_is R (a ∷ xs) [] i h below = absurd h
there_is R (a ∷ xs) (b ∷ ys) zero h below = (b, refl)
there_is R (a ∷ xs) (b ∷ ys) (suc i) h below = there_is R xs ys i h.1 (omega (arith, below))

begins : {Y : Type 0} (ys : List Y) (y : Y) (o : Option Y) → o ≡ Some y → StandsAt (cons_option o ys) 0 y
begins ys y o is = subst (λ p. StandsAt (cons_option p ys) 0 y) (sym is) (record { left = refl; taken = refl })

goes_on : {Y : Type 0} (ys : List Y) (i : ℕ) (y z : Y) (o : Option Y) → o ≡ Some z → StandsAt ys i y → StandsAt (cons_option o ys) (suc i) y
goes_on ys i y z o is at = subst (λ p. StandsAt (cons_option p ys) (suc i) y) (sym is) (later y z ys i at)

-- Lists stand side by side. Beside the member of the first one that a number of a list tells, the chosen members of the second one have one at the number's place.
pub chosen_beside : {X Y : Type 0} (R : X → Y → Type 0) (xs : List X) (ys : List Y) (numbers : List ℕ) (i n : ℕ) (x : X) → AllZip R xs ys → All (λ k. k < length xs) numbers
    → i < length numbers → n ≡ get_or numbers i 0 → x ≡ get_or xs n x → (y : Y) × R x y × StandsAt (chosen numbers ys) i y
chosen_beside R xs ys [] i n x h within below is at = absurd (omega (arith, below))
chosen_beside R xs ys (m ∷ numbers) zero n x h within below is at =
    let low : n < length xs = subst (λ k. k < length xs) (sym is) (All-head (λ k. k < length xs) m numbers within) in
    let next = beside_at R xs ys n x h low at in
    (next.0, next.1, begins (chosen numbers ys) next.0 (slice_get ys m) (ap (λ k. slice_get ys k) (sym is) ∙ next.2))
chosen_beside R xs ys (m ∷ numbers) (suc i) n x h within below is at =
    let first = there_is R xs ys m h (All-head (λ k. k < length xs) m numbers within) in
    let rest = chosen_beside R xs ys numbers i n x h (All-tail (λ k. k < length xs) m numbers within) (omega (arith, below)) is at in
    (rest.0, rest.1, goes_on (chosen numbers ys) i rest.0 first.0 (slice_get ys m) first.1 rest.2)

-- ---- how many are chosen

one_longer : {Y : Type 0} (o : Option Y) (ys : List Y) (count : ℕ) → length ys ≤ count → length (cons_option o ys) ≤ suc count
one_longer None ys count short = omega (arith, short)
one_longer (Some y) ys count short = omega (arith, short)

pub chosen_short : {Y : Type 0} (numbers : List ℕ) (ys : List Y) → length (chosen numbers ys) ≤ length numbers
chosen_short [] ys = omega arith
chosen_short (n ∷ numbers) ys = one_longer (slice_get ys n) (chosen numbers ys) (length numbers) (chosen_short numbers ys)

-- ---- all members

shifted : {Y : Type 0} (y : Y) (ys : List Y) (from count : ℕ) → chosen (range_with_len (from + 1) count) (y ∷ ys) ≡ chosen (range_with_len from count) ys
shifted y ys from zero = refl
shifted y ys from (suc count) =
    let next : from + 1 ≡ suc from = omega arith in
    let same : slice_get (y ∷ ys) (from + 1) ≡ slice_get ys from = ap (λ k. slice_get (y ∷ ys) k) next in
    λ i. cons_option (same i) (shifted y ys (from + 1) count i)

pub all_chosen : {Y : Type 0} (ys : List Y) → chosen (numbers_to (length ys)) ys ≡ ys
all_chosen [] = refl
all_chosen (y ∷ ys) = ap (λ l. y ∷ l) (shifted y ys 0 (length ys) ∙ all_chosen ys)

-- so it is by the length of the list beside
pub all_beside : {X Y : Type 0} (R : X → Y → Type 0) (xs : List X) (ys : List Y) → AllZip R xs ys → chosen (numbers_to (length xs)) ys ≡ ys
all_beside R xs ys h = ap (λ n. chosen (numbers_to n) ys) (sym (zip_length R xs ys h)) ∙ all_chosen ys

last_number : (from count number : ℕ) → from + count ≡ number → range_with_len from (suc count) ≡ range_with_len from count ++ number ∷ []
last_number from zero number is = let same : from ≡ number = omega (arith, is) in ap (λ n. n ∷ []) same
last_number from (suc count) number is = ap (λ l. from ∷ l) (last_number (from + 1) count number (omega (arith, is)))

-- the numbers of one member more
pub one_number_more : (count : ℕ) → numbers_to (count + 1) ≡ numbers_to count ++ count ∷ []
one_number_more count = let next : count + 1 ≡ suc count = omega arith in ap numbers_to next ∙ last_number 0 count count (omega arith)

-- the numbers of all members are numbers of members
pub all_within : (count : ℕ) (numbers : List ℕ) → numbers ≡ numbers_to count → All (λ n. n < count) numbers
all_within count numbers is = subst (λ l. All (λ n. n < count) l) (sym is) (All-from_get_or (λ n. n < count) (numbers_to count) 0 (λ i below.
    let low : i < count = omega (arith, below, length-range_with_len 0 count) in
    omega (arith, low, get_or-range_with_len 0 count i 0 low)))

-- ---- rules

-- what the rules of all numbers come to, and what they mean together at the file
pub chosen_are_file : (replies : Replies) (path : Bytes) (outcome : Result JavaFile FileFault) (rules : List Rule) (numbers : List ℕ) → chosen numbers rules ≡ rules
    → bind (chosen_at replies path outcome numbers rules) (λ results. Return (merge (head_of outcome) results)) ≡ file_at replies path outcome rules
chosen_are_file replies path (Ok file) rules numbers all = ap (λ (rs : List Rule). bind (each (rule_at replies path (Ok file)) rs) (λ results. Return (merge (head_of (Ok file)) results))) all
chosen_are_file replies path (Err fault) rules numbers all = sym (one_error replies path rules fault)
