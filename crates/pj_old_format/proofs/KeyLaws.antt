-- Laws of the keys of lists of rules: the bytes that spell a key are the key.
use Rattle.std.proofs.Common.{◌≡◌, ℕ, Bool, List, [], ◌∷◌, ◌++◌, sym, ap, subst, ◌∙◌}
use Rattle.std.specs.List.{flat_map}
use Rattle.std.proofs.lemmas.List.{append-nil}
use Rattle.pj_format.specs.Format.{Format, Done, ◌>>=◌, Spells}
use Rattle.pj_format.specs.Fields.{sized_as, several}
use Rattle.pj_format.proofs.Parts.{IsBytes, bytes_left, bytes_right, IsText, IsOpen, spells_then, open_then, made_open, several_open, several_text}
use Rattle.pj_cache_format.specs.Judges.{passing}
use Rattle.pj_cache_format.specs.Texts.{string}
use Rattle.pj_cache_format.proofs.AnswerLaws.{string_text}
use Rattle.pj_old_format.specs.ListKeys.{Text, is_number, value_of, tested, ◌followed_by◌, members, listed, all_tested, word_tests, property_tests, rule_tests, rule, list_key, IsListKey}

-- ---- formats whose values are the bytes themselves

abbrev pub IsVerbatim : Format (List ℕ) → Type 0
IsVerbatim m = IsText m (λ (bytes : List ℕ). bytes) (λ (bytes : List ℕ). Spells m bytes bytes)

verbatim : (m : Format (List ℕ)) → IsOpen m → ((part y : List ℕ) → IsBytes part → Spells m part y → part ≡ y) → IsVerbatim m
verbatim m o same = record {
  is_open = o;
  takes = λ part y fits h. (subst (λ (l : List ℕ). Spells m l y) (same part y fits h) h, same part y fits h);
  again = λ y h. h;
}

abbrev spelled : Text → Format (List ℕ)
spelled words = Done (string words)

tested_same : (test : Text → Bool) (part y : List ℕ) → IsBytes part → Spells (sized_as (passing test) >>= spelled) part y → part ≡ y
unfolding Spells
tested_same test part y fits h =
    let both = spells_then (sized_as (passing test)) spelled part y h in
    let whole : IsBytes (both.part ++ both.rest) = subst IsBytes both.joined fits in
    let one = (string_text test).takes both.part both.value (bytes_left both.part both.rest whole) both.first_is in
    both.joined ∙ ap (λ (l : List ℕ). both.part ++ l) both.second_is.0 ∙ append-nil both.part ∙ one.1 ∙ sym both.second_is.1

pub tested_law : (test : Text → Bool) → IsVerbatim (tested test)
unfolding tested
tested_law test = verbatim (sized_as (passing test) >>= spelled) (made_open (sized_as (passing test)) string (string_text test).is_open) (tested_same test)

module _ (m n : Format (List ℕ)) (first : IsVerbatim m) (second : IsVerbatim n) where
  abbrev after : List ℕ → Format (List ℕ)
  after front = n >>= λ more. Done (front ++ more)

  followed_same : (part y : List ℕ) → IsBytes part → Spells (m >>= after) part y → part ≡ y
  unfolding Spells
  followed_same part y fits h =
      let a = spells_then m after part y h in
      let b = spells_then n (λ more. Done (a.value ++ more)) a.rest y a.second_is in
      let whole : IsBytes (a.part ++ a.rest) = subst IsBytes a.joined fits in
      let rest : IsBytes (b.part ++ b.rest) = subst IsBytes b.joined (bytes_right a.part a.rest whole) in
      let one = first.takes a.part a.value (bytes_left a.part a.rest whole) a.first_is in
      let two = second.takes b.part b.value (bytes_left b.part b.rest rest) b.first_is in
      let behind : a.rest ≡ b.value = b.joined ∙ ap (λ (l : List ℕ). b.part ++ l) b.second_is.0 ∙ append-nil b.part ∙ two.1 in
      a.joined ∙ (λ i. one.1 i ++ behind i) ∙ sym b.second_is.1

  pub followed_law : IsVerbatim (m followed_by n)
  unfolding ◌followed_by◌
  followed_law = verbatim (m >>= after) (open_then m after first.is_open (λ front. made_open n (λ more. front ++ more) second.is_open)) followed_same

abbrev pub joined : List (List ℕ) → List ℕ
joined parts = flat_map (λ (part : List ℕ). part) parts

abbrev joint : List (List ℕ) → Format (List ℕ)
joint parts = Done (joined parts)

module _ (item : Format (List ℕ)) (law : IsVerbatim item) where
  members_same : (count : ℕ) (part y : List ℕ) → IsBytes part → Spells (several item count >>= joint) part y → part ≡ y
  unfolding Spells
  members_same count part y fits h =
      let both = spells_then (several item count) joint part y h in
      let whole : IsBytes (both.part ++ both.rest) = subst IsBytes both.joined fits in
      let one = (several_text item (λ (bytes : List ℕ). bytes) (λ (bytes : List ℕ). Spells item bytes bytes) law count).takes both.part both.value (bytes_left both.part both.rest whole) both.first_is in
      both.joined ∙ ap (λ (l : List ℕ). both.part ++ l) both.second_is.0 ∙ append-nil both.part ∙ one.1 ∙ sym both.second_is.1

  pub members_law : (count : ℕ) → IsVerbatim (members item count)
  unfolding members
  members_law count = verbatim (several item count >>= joint) (made_open (several item count) joined (several_open item count law.is_open)) (members_same count)

  abbrev behind_count : Text → Format (List ℕ)
  behind_count count = members item (value_of count) >>= λ all. Done (string count ++ all)

  listed_same : (part y : List ℕ) → IsBytes part → Spells (sized_as (passing is_number) >>= behind_count) part y → part ≡ y
  unfolding Spells
  listed_same part y fits h =
      let a = spells_then (sized_as (passing is_number)) behind_count part y h in
      let b = spells_then (members item (value_of a.value)) (λ all. Done (string a.value ++ all)) a.rest y a.second_is in
      let whole : IsBytes (a.part ++ a.rest) = subst IsBytes a.joined fits in
      let rest : IsBytes (b.part ++ b.rest) = subst IsBytes b.joined (bytes_right a.part a.rest whole) in
      let one = (string_text is_number).takes a.part a.value (bytes_left a.part a.rest whole) a.first_is in
      let two = (members_law (value_of a.value)).takes b.part b.value (bytes_left b.part b.rest rest) b.first_is in
      let behind : a.rest ≡ b.value = b.joined ∙ ap (λ (l : List ℕ). b.part ++ l) b.second_is.0 ∙ append-nil b.part ∙ two.1 in
      a.joined ∙ (λ i. one.1 i ++ behind i) ∙ sym b.second_is.1

  pub listed_law : IsVerbatim (listed item)
  unfolding listed
  listed_law =
      verbatim (sized_as (passing is_number) >>= behind_count)
      (open_then (sized_as (passing is_number)) behind_count (string_text is_number).is_open (λ count. made_open (members item (value_of count)) (λ all. string count ++ all) (members_law (value_of count)).is_open))
      listed_same

abbrev nothing : Format (List ℕ)
nothing = Done []

nothing_same : (part y : List ℕ) → IsBytes part → Spells nothing part y → part ≡ y
unfolding Spells
nothing_same part y fits h = h.0 ∙ sym h.1

nothing_open : IsOpen nothing
unfolding IsOpen
nothing_open = tt

pub all_tested_law : (tests : List (Text → Bool)) → IsVerbatim (all_tested tests)
unfolding all_tested
all_tested_law [] = verbatim nothing nothing_open nothing_same
all_tested_law (test ∷ tests) = followed_law (tested test) (all_tested tests) (tested_law test) (all_tested_law tests)

-- ---- rules and keys

abbrev pub word : Format (List ℕ)
word = all_tested word_tests

abbrev pub property : Format (List ℕ)
property = all_tested property_tests

pub rule_law : IsVerbatim rule
unfolding rule
rule_law =
    followed_law (all_tested rule_tests) (listed property followed_by (listed word followed_by listed word)) (all_tested_law rule_tests)
    (followed_law (listed property) (listed word followed_by listed word) (listed_law property (all_tested_law property_tests))
    (followed_law (listed word) (listed word) (listed_law word (all_tested_law word_tests)) (listed_law word (all_tested_law word_tests))))

pub list_key_law : IsText list_key (λ (bytes : List ℕ). bytes) IsListKey
unfolding list_key
list_key_law = followed_law word (listed rule) (all_tested_law word_tests) (listed_law rule rule_law)
