-- The candidates of a name come to an end: each has one dot less than the one before.
use Rattle.std.proofs.Common.{◌≡◌, ℕ, zero, suc, ◌+◌, ◌<◌, ◌≤◌, ◌==◌, Bool, true, false, cond, List, [], ◌∷◌, ◌++◌, length, get_or, take, drop, Option, None, Some, inl, inr, refl, sym, ap, ◌∙◌, arith, ltb-true}
use Rattle.std.specs.Option.{option_map, option_map_or}
use Rattle.std.specs.Path.{rfind_below, rsplit_once}
use Rattle.std.proofs.lemmas.Bool.{cases_Bool, cases_eq, eq-eqb, eqb-true, ne_eqb}
use Rattle.pj_written.specs.Names.{around_last_dot, begins_as_class, last_part, nested, next_candidate}
use Rattle.pj_outer_names.specs.Candidates.{CandidatesEnd, candidates, candidates_from}

-- ---- how many dots a text has

abbrev one_dot : Bool → ℕ → ℕ
one_dot true n = suc n
one_dot false n = n

abbrev dots : List ℕ → ℕ
dots [] = 0
dots (b ∷ bs) = one_dot (b == 46) (dots bs)

few_with : (c : Bool) (n l : ℕ) → n ≤ l → one_dot c n ≤ suc l
few_with true n l few = omega (arith, few)
few_with false n l few = omega (arith, few)

few_dots : (text : List ℕ) → dots text ≤ length text
few_dots [] = omega arith
few_dots (b ∷ bs) = few_with (b == 46) (dots bs) (length bs) (few_dots bs)

-- a dot that is made `$` is one less
less_with : (c : Bool) (n l : ℕ) → suc n ≡ l → suc (one_dot c n) ≡ one_dot c l
less_with true n l is = ap suc is
less_with false n l is = is

one_less : (text : List ℕ) (k : ℕ) → k < length text → get_or text k 0 ≡ 46 → suc (dots (take k text ++ 36 ∷ drop (k + 1) text)) ≡ dots text
one_less [] k low at = absurd (omega (arith, low))
one_less (b ∷ bs) zero low at = sym (ap (λ c. one_dot c (dots bs)) (eq-eqb b 46 at))
one_less (b ∷ bs) (suc k) low at =
    let next : suc k + 1 ≡ suc (k + 1) = omega arith in
    ap (λ (i : ℕ). suc (dots (take (suc k) (b ∷ bs) ++ 36 ∷ drop i (b ∷ bs)))) next
    ∙ less_with (b == 46) (dots (take k bs ++ 36 ∷ drop (k + 1) bs)) (dots bs) (one_less bs k (omega (arith, low)) at)

-- ---- the last dot

is_there : (c : ℕ) (text : List ℕ) (n k : ℕ) → rfind_below c text n ≡ Some k → (k < n) × (get_or text k 0 ≡ c)
is_there c text zero k found = absurd (cc)
is_there c text (suc n) k found = elim (cases_eq (get_or text n 0) c) [
  | inl here ↦ (let same : Some n ≡ Some k = sym (ap (λ b. cond b (Some n) (rfind_below c text n)) (eq-eqb (get_or text n 0) c here)) ∙ found in
      let same_place : n ≡ k = cc in
      (omega (arith, same_place), ap (λ i. get_or text i 0) (sym same_place) ∙ here))
  | inr other ↦ (let further = is_there c text n k (sym (ap (λ b. cond b (Some n) (rfind_below c text n)) (ne_eqb (get_or text n 0) c other)) ∙ found) in
      (omega (arith, further.0), further.1))
]

nested_at : (parts : List ℕ × List ℕ) (next : List ℕ) (b : Bool) → cond b (Some (parts.0 ++ 36 ∷ parts.1)) None ≡ Some next → parts.0 ++ 36 ∷ parts.1 ≡ next
nested_at parts next true is = cc
nested_at parts next false is = absurd (cc)

next_at : (text next : List ℕ) (found : Option ℕ) → rfind_below 46 text (length text) ≡ found
    → option_map_or nested (option_map (λ i. (take i text, drop (i + 1) text)) found) None ≡ Some next → suc (dots next) ≡ dots text
next_at text next None is some = absurd (cc)
next_at text next (Some k) is some =
    let there = is_there 46 text (length text) k is in
    let same : take k text ++ 36 ∷ drop (k + 1) text ≡ next = nested_at (take k text, drop (k + 1) text) next (begins_as_class (last_part (take k text))) some in
    ap (λ t. suc (dots t)) (sym same) ∙ one_less text k there.0 there.1

fewer : (text next : List ℕ) → next_candidate text ≡ Some next → suc (dots next) ≡ dots text
unfolding rsplit_once
fewer text next some = next_at text next (rfind_below 46 text (length text)) refl some

-- ---- candidates

rest_from : (fuel more : ℕ) (text : List ℕ) (next : Option (List ℕ)) → next_candidate text ≡ next
    → ((further : List ℕ) → suc (dots further) ≡ dots text → candidates_from fuel further ≡ candidates_from more further)
    → option_map_or (candidates_from fuel) next [] ≡ option_map_or (candidates_from more) next []
rest_from fuel more text None is same = refl
rest_from fuel more text (Some next) is same = same next (fewer text next is)

same_from : (fuel more : ℕ) (text : List ℕ) → dots text < fuel → dots text < more → candidates_from fuel text ≡ candidates_from more text
same_from zero more text few less = absurd (omega (arith, few))
same_from (suc fuel) zero text few less = absurd (omega (arith, less))
same_from (suc fuel) (suc more) text few less =
    ap (λ rest. text ∷ rest)
    (rest_from fuel more text (next_candidate text) refl (λ further one. same_from fuel more further (omega (arith, one, few)) (omega (arith, one, less))))

pub candidates-end : (text : List ℕ) → CandidatesEnd text
candidates-end text = λ more far. let few = few_dots text in same_from more (length text + 1) text (omega (arith, few, far)) (omega (arith, few))
