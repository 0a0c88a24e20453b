-- Texts that pass the tests of the key of a list of rules spell one.
use Rattle.std.proofs.Common.{◌≡◌, ◌<◌, ◌^◌, ◌+◌, ◌==◌, ◌||◌, ℕ, zero, suc, Bool, true, not, List, [], ◌∷◌, ◌++◌, length, map, refl, sym, ap, subst, ◌∙◌, arith}
use Rattle.std.specs.Prelude.{nat_lt, slice_index}
use Rattle.std.specs.List.{AllByRecursion, flat_map}
use Rattle.std.specs.Fmt.{decimal}
use Rattle.std.specs.Str.{all_ascii_digits, is_utf8}
use Rattle.std.proofs.lemmas.Bool.{and_from, lt-ltb, ne_eqb, or_left, or_right}
use Rattle.std.proofs.lemmas.Fmt.{IsAscii-decimal, decimal_digit, decimal_is_IsNumeral, decimal_nonempty, digits_decimal, first_decimal, length-decimal-le}
use Rattle.std.proofs.lemmas.List.{append-nil}
use Rattle.std.proofs.lemmas.List.Concat.{flat_map-cons}
use Rattle.std.proofs.lemmas.Str.{IsUtf8-from_ascii, is_utf8-from_IsUtf8}
use Rattle.std.proofs.lemmas.Str.Parse.{numerals_by_value, tells_all_ascii_digits}
use Rattle.pj_format.specs.Format.{Format, Done, ◌>>=◌, Spells}
use Rattle.pj_format.specs.Fields.{Along, several, sized_as}
use Rattle.pj_format.proofs.Parts.{IsOpen, several_open, several_text, then_spells}
use Rattle.pj_cache_format.specs.Fitting.{HasRoom}
use Rattle.pj_cache_format.specs.Judges.{passing}
use Rattle.pj_cache_format.specs.Texts.{string}
use Rattle.pj_cache_format.proofs.AnswerLaws.{string_text}
use Rattle.pj_old_format.specs.ListKeys.{Text, is_number, is_priority, is_top, value_of, tested, ◌followed_by◌, members, listed, all_tested, word_tests, property_tests, rule_tests, rule, list_key, IsListKey}
use Rattle.pj_old_format.proofs.KeyLaws.{IsVerbatim, all_tested_law, followed_law, joined, listed_law, members_law, property, rule_law, tested_law, word}

-- ---- numbers

pub number_room : (n : ℕ) → n < 2 ^ 64 → HasRoom (decimal n)
number_room n small = omega (arith, length-decimal-le 20 n (omega arith) (omega (arith, small)) small)

are_digits : (n : ℕ) → n < 2 ^ 64 → all_ascii_digits (decimal n) ≡ true
are_digits n small = digits_decimal (numerals_by_value (λ (ds : List ℕ). all_ascii_digits ds ≡ true) tells_all_ascii_digits) n small

no_zero_before : (n : ℕ) → n < 2 ^ 64 → (length (decimal n) == 1 || not (slice_index (decimal n) 0 == 48)) ≡ true
no_zero_before zero small = or_left (length (decimal 0) == 1) (not (slice_index (decimal 0) 0 == 48)) (ap (λ (ds : List ℕ). length ds == 1) (decimal_digit 0 (omega arith)))
no_zero_before (suc n) small =
    let first : 48 < slice_index (decimal (suc n)) 0 = first_decimal (suc n) (omega arith) small in
    or_right (length (decimal (suc n)) == 1) (not (slice_index (decimal (suc n)) 0 == 48)) (ap not (ne_eqb (slice_index (decimal (suc n)) 0) 48 (λ e. omega (arith, first, e))))

pub is_number_of : (n : ℕ) → n < 2 ^ 64 → is_number (decimal n) ≡ true
is_number_of n small =
    let text : is_utf8 (decimal n) ≡ true = is_utf8-from_IsUtf8 (decimal n) (IsUtf8-from_ascii (decimal n) (IsAscii-decimal n small)) in
    let some : nat_lt 0 (length (decimal n)) ≡ true = lt-ltb 0 (length (decimal n)) (decimal_nonempty n small) in
    and_from (is_utf8 (decimal n)) _ text (and_from (all_ascii_digits (decimal n)) _ (are_digits n small) (and_from (nat_lt 0 (length (decimal n))) _ some (no_zero_before n small)))

value_is : (n : ℕ) → n < 2 ^ 64 → value_of (decimal n) ≡ n
value_is n small = (decimal_is_IsNumeral n small).1

pub is_top_of : (n : ℕ) → n < 2 ^ 32 → is_top (decimal n) ≡ true
is_top_of n small =
    let wide : n < 2 ^ 64 = omega (arith, small) in
    and_from (is_number (decimal n)) _ (is_number_of n wide) (lt-ltb (value_of (decimal n)) (2 ^ 32) (subst (λ (m : ℕ). m < 2 ^ 32) (sym (value_is n wide)) small))

pub is_priority_of : (n : ℕ) → 0 < n → n < 6 → is_priority (decimal n) ≡ true
is_priority_of n low high =
    ap is_priority (decimal_digit n (omega (arith, high)))
    ∙ and_from (nat_lt 48 (48 + n)) (nat_lt (48 + n) 54) (lt-ltb 48 (48 + n) (omega (arith, low))) (lt-ltb (48 + n) 54 (omega (arith, high)))

-- ---- texts that pass tests

-- bytes that spell themselves
abbrev pub Itself : Format (List ℕ) → List ℕ → Type 0
Itself m bytes = Spells m bytes bytes

abbrev pub Passes : (Text → Bool) → Text → Type 0
Passes test text = HasRoom text × (test text ≡ true)

-- each its own test
abbrev pub Pass : List (Text → Bool) → List Text → Type 0
Pass tests texts = Along Passes tests texts

abbrev spelled : Text → Format (List ℕ)
spelled words = Done (string words)

tested_itself : (test : Text → Bool) (text : Text) → Passes test text → Itself (tested test) (string text)
unfolding tested Spells
tested_itself test text passes =
    subst (λ (l : List ℕ). Spells (sized_as (passing test) >>= spelled) l (string text)) (append-nil (string text))
    (then_spells (sized_as (passing test)) spelled (string text) [] text (string text) (string_text test).is_open ((string_text test).again text passes) (refl, refl))

followed_itself : (m n : Format (List ℕ)) (front back : List ℕ) → IsOpen m → IsOpen n → Itself m front → Itself n back → Itself (m followed_by n) (front ++ back)
unfolding ◌followed_by◌ Spells
followed_itself m n front back first second x y =
    then_spells m (λ one. n >>= λ more. Done (one ++ more)) front back front (front ++ back) first x
    (subst (λ (l : List ℕ). Spells (n >>= λ more. Done (front ++ more)) l (front ++ back)) (append-nil back)
    (then_spells n (λ more. Done (front ++ more)) back [] back (front ++ back) second y (refl, refl)))

pub all_tested_itself : (tests : List (Text → Bool)) (texts : List Text) → Pass tests texts → Itself (all_tested tests) (flat_map string texts)
unfolding all_tested Spells
all_tested_itself [] [] passes = (refl, refl)
all_tested_itself [] (text ∷ texts) passes = absurd passes
all_tested_itself (test ∷ tests) [] passes = absurd passes
all_tested_itself (test ∷ tests) (text ∷ texts) passes =
    subst (λ (l : List ℕ). Itself (tested test followed_by all_tested tests) l) (sym (flat_map-cons string text texts))
    (followed_itself (tested test) (all_tested tests) (string text) (flat_map string texts) (tested_law test).is_open (all_tested_law tests).is_open (tested_itself test text passes.0) (all_tested_itself tests texts passes.1))

-- ---- lists

-- a number, and members behind it
abbrev pub list_bytes : {A : Type 0} → (A → List ℕ) → List A → List ℕ
list_bytes item xs = string (decimal (length xs)) ++ joined (map item xs)

all_mapped : {A : Type 0} (P : List ℕ → Type 0) (f : A → List ℕ) (xs : List A) → AllByRecursion (λ x. P (f x)) xs → AllByRecursion P (map f xs)
all_mapped P f [] all = tt
all_mapped P f (x ∷ xs) all = (all.0, all_mapped P f xs all.1)

same_count : {A : Type 0} (f : A → List ℕ) (xs : List A) → length (map f xs) ≡ length xs
same_count f [] = refl
same_count f (x ∷ xs) = ap suc (same_count f xs)

abbrev joint : List (List ℕ) → Format (List ℕ)
joint parts = Done (joined parts)

module _ (item : Format (List ℕ)) (law : IsVerbatim item) where
  members_itself : (count : ℕ) (parts : List (List ℕ)) → length parts ≡ count → AllByRecursion (Itself item) parts → Itself (members item count) (joined parts)
  unfolding members Spells
  members_itself count parts long all =
      let them = (several_text item (λ (bytes : List ℕ). bytes) (λ (bytes : List ℕ). Spells item bytes bytes) law count).again parts (long, all) in
      subst (λ (l : List ℕ). Spells (several item count >>= joint) l (joined parts)) (append-nil (joined parts))
      (then_spells (several item count) joint (joined parts) [] parts (joined parts) (several_open item count law.is_open) them (refl, refl))

  abbrev behind_count : Text → Format (List ℕ)
  behind_count count = members item (value_of count) >>= λ all. Done (string count ++ all)

  listed_itself : {A : Type 0} (bytes_of : A → List ℕ) (xs : List A) → length xs < 2 ^ 64 → AllByRecursion (λ x. Itself item (bytes_of x)) xs → Itself (listed item) (list_bytes bytes_of xs)
  unfolding listed Spells
  listed_itself bytes_of xs small all =
      let count : Text = decimal (length xs) in
      let parts : List (List ℕ) = map bytes_of xs in
      let long : length parts ≡ value_of count = same_count bytes_of xs ∙ sym (value_is (length xs) small) in
      let them = members_itself (value_of count) parts long (all_mapped (Itself item) bytes_of xs all) in
      then_spells (sized_as (passing is_number)) behind_count (string count) (joined parts) count (string count ++ joined parts)
      (string_text is_number).is_open ((string_text is_number).again count (number_room (length xs) small, is_number_of (length xs) small))
      (subst (λ (l : List ℕ). Spells (members item (value_of count) >>= λ all. Done (string count ++ all)) l (string count ++ joined parts)) (append-nil (joined parts))
      (then_spells (members item (value_of count)) (λ all. Done (string count ++ all)) (joined parts) [] (joined parts) (string count ++ joined parts) (members_law item law (value_of count)).is_open them (refl, refl)))

-- ---- rules and keys

abbrev pub word_bytes : Text → List ℕ
word_bytes text = flat_map string (text ∷ [])

words_itself : (texts : List Text) → AllByRecursion (Passes is_utf8) texts → AllByRecursion (λ text. Itself word (word_bytes text)) texts
words_itself [] all = tt
words_itself (text ∷ texts) all = (all_tested_itself word_tests (text ∷ []) (all.0, tt), words_itself texts all.1)

abbrev pub lists_bytes : {P : Type 0} → (P → List Text) → List P → List Text → List Text → List ℕ
lists_bytes texts_of properties exclude include = list_bytes (λ p. flat_map string (texts_of p)) properties ++ (list_bytes word_bytes exclude ++ list_bytes word_bytes include)

module _ {P : Type 0} (texts_of : P → List Text) where
  properties_itself : (ps : List P) → AllByRecursion (λ p. Pass property_tests (texts_of p)) ps → AllByRecursion (λ p. Itself property (flat_map string (texts_of p))) ps
  properties_itself [] all = tt
  properties_itself (p ∷ ps) all = (all_tested_itself property_tests (texts_of p) all.0, properties_itself ps all.1)

  -- the first texts of a rule, its properties, and its patterns
  pub rule_itself : (heads : List Text) (properties : List P) (exclude include : List Text) → Pass rule_tests heads
      → (length properties < 2 ^ 64) × AllByRecursion (λ p. Pass property_tests (texts_of p)) properties
      → (length exclude < 2 ^ 64) × AllByRecursion (Passes is_utf8) exclude → (length include < 2 ^ 64) × AllByRecursion (Passes is_utf8) include
      → Itself rule (flat_map string heads ++ lists_bytes texts_of properties exclude include)
  unfolding rule
  rule_itself heads properties exclude include passes ps ex inc =
      let word_law = all_tested_law word_tests in
      let words = listed_law word word_law in
      let both = followed_law (listed word) (listed word) words words in
      let of_properties = listed_law property (all_tested_law property_tests) in
      let lists = followed_law (listed property) (listed word followed_by listed word) of_properties both in
      followed_itself (all_tested rule_tests) (listed property followed_by (listed word followed_by listed word)) (flat_map string heads) (lists_bytes texts_of properties exclude include)
      (all_tested_law rule_tests).is_open lists.is_open (all_tested_itself rule_tests heads passes)
      (followed_itself (listed property) (listed word followed_by listed word) (list_bytes (λ p. flat_map string (texts_of p)) properties) (list_bytes word_bytes exclude ++ list_bytes word_bytes include)
      of_properties.is_open both.is_open
      (listed_itself property (all_tested_law property_tests) (λ p. flat_map string (texts_of p)) properties ps.0 (properties_itself properties ps.1))
      (followed_itself (listed word) (listed word) (list_bytes word_bytes exclude) (list_bytes word_bytes include) words.is_open words.is_open
      (listed_itself word word_law word_bytes exclude ex.0 (words_itself exclude ex.1))
      (listed_itself word word_law word_bytes include inc.0 (words_itself include inc.1))))

pub list_key_itself : {R : Type 0} (bytes_of : R → List ℕ) (marker : Text) (rules : List R) → Passes is_utf8 marker → length rules < 2 ^ 64 → AllByRecursion (λ r. Itself rule (bytes_of r)) rules
    → IsListKey (word_bytes marker ++ list_bytes bytes_of rules)
unfolding list_key
list_key_itself bytes_of marker rules passes small all =
    followed_itself word (listed rule) (word_bytes marker) (list_bytes bytes_of rules) (all_tested_law word_tests).is_open (listed_law rule rule_law).is_open
    (all_tested_itself word_tests (marker ∷ []) (passes, tt)) (listed_itself rule rule_law bytes_of rules small all)
