-- The errors of a file are those of its rules, in order.
use Rattle.std.proofs.Common.{◌≡◌, ◌∙◌, ◌+◌, ◌≤◌, ◌==◌, ℕ, zero, suc, false, List, [], ◌∷◌, Some, ap, arith, eq-eqb, ne_eqb, refl, subst, sym, inl, inr}
use Rattle.std.specs.Prelude.{filter, slice_get}
use Rattle.std.specs.List.{AllByRecursion}
use Rattle.std.specs.List.Sorted.{IsStrictlySortedBy}
use Rattle.std.specs.Option.{option_map_or}
use Rattle.std.specs.declared.cmp.Ordering.TheVariants.{Less}
use Rattle.pj_reports.specs.declared.rows.FileError.{FileError}
use Rattle.pj_reports.specs.declared.ruled.Ruled.{Ruled}
use Rattle.pj_reports.specs.declared.ruled.Ruled.TheVariants.{Spots, Message}
use Rattle.pj_findings.specs.Laws.{NoneHasBoth, error_order, is_of}
use Rattle.pj_findings.specs.Merged.{error_by, errors_from, found_by}
use Rattle.pj_findings.proofs.FindingLaws.{less, one_result}

-- the place of an error
abbrev place : FileError → ℕ
place error = option_map_or (λ rule. rule + 1) error.rule 0

weaker : (n : ℕ) (xs : List FileError) → AllByRecursion (λ x. (n + 1) + 1 ≤ place x) xs → AllByRecursion (λ x. n + 1 ≤ place x) xs
weaker n [] h = tt
weaker n (x ∷ xs) h = (omega (arith, h.0), weaker n xs h.1)

from_place : (n : ℕ) (results : List Ruled) → AllByRecursion (λ x. n + 1 ≤ place x) (errors_from n results)
from_place n [] = tt
from_place n (Spots found ∷ rs) = weaker n (errors_from (n + 1) rs) (from_place (n + 1) rs)
from_place n (Message message ∷ rs) = (omega arith, weaker n (errors_from (n + 1) rs) (from_place (n + 1) rs))

behind : (n : ℕ) (x : FileError) (xs : List FileError) → place x ≡ n + 1 → AllByRecursion (λ y. (n + 1) + 1 ≤ place y) xs → AllByRecursion (λ y. error_order x y ≡ Less) xs
behind n x [] is h = tt
behind n x (y ∷ ys) is h = (less (place x) (place y) (omega (arith, is, h.0)), behind n x ys is h.1)

pub errors_ascend : (n : ℕ) (results : List Ruled) → IsStrictlySortedBy error_order (errors_from n results)
unfolding IsStrictlySortedBy
errors_ascend n [] = tt
errors_ascend n (Spots found ∷ rs) = errors_ascend (n + 1) rs
errors_ascend n (Message message ∷ rs) = (behind n (record { rule = Some n; message = message }) (errors_from (n + 1) rs) refl (from_place (n + 1) rs), errors_ascend (n + 1) rs)

-- ---- each rule's own

no_error : (rule n : ℕ) (results : List Ruled) → rule + 1 ≤ n → filter (is_of rule) (errors_from n results) ≡ []
no_error rule n [] far = refl
no_error rule n (Spots found ∷ rs) far = no_error rule (n + 1) rs (omega (arith, far))
no_error rule n (Message message ∷ rs) far = rw (ne_eqb n rule (λ e. absurd (omega (arith, e, far)))) (no_error rule (n + 1) rs (omega (arith, far)))

here : (rule first : ℕ) (rs : List Ruled) (r : Ruled) → first ≡ rule → filter (is_of rule) (errors_from first (r ∷ rs)) ≡ error_by rule r
here rule first rs (Spots found) same = no_error rule (first + 1) rs (omega (arith, same))
here rule first rs (Message message) same =
    rw (eq-eqb first rule same) (λ i. record { rule = Some (same i); message = message } ∷ no_error rule (first + 1) rs (omega (arith, same)) i)

skipped : (rule first : ℕ) (rs : List Ruled) (r : Ruled) → (first ≡ rule → ⊥) → filter (is_of rule) (errors_from first (r ∷ rs)) ≡ filter (is_of rule) (errors_from (first + 1) rs)
skipped rule first rs (Spots found) differs = refl
skipped rule first rs (Message message) differs = rw (ne_eqb first rule differs) refl

own_error : (rule first at : ℕ) (results : List Ruled) (result : Ruled) → rule ≡ first + at → slice_get results at ≡ Some result → filter (is_of rule) (errors_from first results) ≡ error_by rule result
own_error rule first at [] result is there = absurd (cc)
own_error rule first zero (r ∷ rs) result is there =
    here rule first rs r (omega (arith, is)) ∙ ap (λ (x : Ruled). error_by rule x) (one_result r result there)
own_error rule first (suc at) (r ∷ rs) result is there =
    skipped rule first rs r (λ e. absurd (omega (arith, is, e))) ∙ own_error rule (first + 1) at rs result (omega (arith, is)) there

pub errors_kept : (results : List Ruled) (rule : ℕ) (result : Ruled) → slice_get results rule ≡ Some result → filter (is_of rule) (errors_from 0 results) ≡ error_by rule result
errors_kept results rule result there = own_error rule 0 rule results result (omega arith) there

pub none_has_both : NoneHasBoth
none_has_both rule (Spots found) = inr refl
none_has_both rule (Message message) = inl refl
