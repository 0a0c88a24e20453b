-- Counting and gathering rules.
use Rattle.std.proofs.Common.{◌≡◌, ◌∙◌, ℕ, ◌+◌, ◌<◌, Bool, true, false, cond, nat_le, List, [], ◌∷◌, ◌++◌, length, map, drop, get_or, Option, Some, None, refl, sym, ap, arith, append_assoc, length-append}
use Rattle.std.specs.Prelude.{count_by}
use Rattle.std.specs.List.{filter_map, flat_map}
use Rattle.std.specs.Option.{option_to_list}
use Rattle.std.proofs.lemmas.List.{at_drop_more}
use Rattle.std.proofs.lemmas.List.Recursion.{is_count_by}
use Rattle.pj_rule_sets.specs.Lists.{Taken}
use Rattle.pj_rule_sets.specs.declared.entry.Entry.TheVariants as entry
use Rattle.pj_rule_texts.specs.Values.{Text}
use Rattle.pj_rules.specs.Gathering.{counted, is_kept}
use Rattle.pj_rules.specs.Load.{TopRules, count_of, effective, error_of, errors_of_top, kept_rule, rules_from, rules_of_top}
use Rattle.pj_rules.specs.States.{top_rules}
use Rattle.pj_rules.specs.declared.top.Top.{Top}

-- the rules that are kept, and the configuration errors
module _ (m n : ℕ) (ex inc : List Text) where
  abbrev both : List Taken → ℕ
  both list = length (filter_map (kept_rule m n ex inc) list) + length (filter_map error_of list)

  one_more : (taken : Taken) (list : List Taken) → both (taken ∷ list) ≡ cond (is_kept m taken) (1 + both list) (both list)
  one_more (origin, entry.Unusable unusable) list = omega arith
  one_more (origin, entry.Rule texts) list = at (nat_le texts.row.priority m) refl
    where
      at : (b : Bool) → nat_le texts.row.priority m ≡ b → both ((origin, entry.Rule texts) ∷ list) ≡ cond b (1 + both list) (both list)
      at true e = rw e (omega arith)
      at false e = rw e refl

  counted_list : (list : List Taken) → count_by (is_kept m) list ≡ length (filter_map (kept_rule m n ex inc) list) + length (filter_map error_of list)
  counted_list list = sym (is_count_by both (is_kept m) refl one_more list)

pub counted_tops : (m n : ℕ) (tops : List TopRules) → counted m tops ≡ length (rules_from m n tops) + length (flat_map errors_of_top tops)
counted_tops m n [] = refl
counted_tops m n (top ∷ tops) =
    let first = counted_list m n top.exclude top.include top.list in
    let rest = counted_tops m (n + 1) tops in
    let rules = length-append (rules_of_top m n top) (rules_from m (n + 1) tops) in
    let errors = length-append (errors_of_top top) (flat_map errors_of_top tops) in omega (arith, first, rest, rules, errors)

pub counts : (m : ℕ) (marker : Text) (tops : List TopRules) → counted m tops ≡ count_of (effective m marker tops)
counts m marker tops = counted_tops m 0 tops

-- one list further
pub count_more : (m : ℕ) (tops : List Top) (i : ℕ) (top : Top) (count : ℕ) → i < length tops → top ≡ get_or tops i top →
    count + counted m (map top_rules (drop i tops)) ≡ (count + count_by (is_kept m) top.list) + counted m (map top_rules (drop (i + 1) tops))
count_more m tops i top count lt is =
    let more = at_drop_more (λ (ts : List Top). counted m (map top_rules ts)) tops i top lt in
    let here : counted m (map top_rules (drop i tops)) ≡ count_by (is_kept m) top.list + counted m (map top_rules (drop (i + 1) tops)) =
    more ∙ ap (λ (t : Top). counted m (map top_rules (t ∷ drop (i + 1) tops))) (sym is) in
    omega (arith, here)

-- one member further
pub filtered_first : {A B : Type 0} (f : A → Option B) (x : A) (xs : List A) → filter_map f (x ∷ xs) ≡ option_to_list (f x) ++ filter_map f xs
filtered_first {A} {B} f x xs = at (f x) refl
  where
    at : (o : Option B) → f x ≡ o → filter_map f (x ∷ xs) ≡ option_to_list (f x) ++ filter_map f xs
    at None e = rw e refl
    at (Some y) e = rw e refl

pub gathered_one : {A B : Type 0} (f : A → Option B) (before after : List B) (x : A) (xs : List A) → after ≡ before ++ option_to_list (f x) →
    after ++ filter_map f xs ≡ before ++ filter_map f (x ∷ xs)
gathered_one f before after x xs e =
    ap (λ (b : List _). b ++ filter_map f xs) e ∙ append_assoc before (option_to_list (f x)) (filter_map f xs) ∙ ap (λ (b : List _). before ++ b) (sym (filtered_first f x xs))
