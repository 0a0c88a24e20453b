-- What is served in a world is what rules come to there.
use Rattle.std.proofs.Common.{◌≡◌, ℕ, suc, ◌-◌, ◌≤◌, Bool, true, false, cond, List, [], ◌∷◌, Some, refl, sym, ap, subst, ◌∙◌, arith}
use Rattle.std.specs.Prelude.{slice_get}
use Rattle.std.specs.List.{All, AllByRecursion, Contains, filter, flat_map}
use Rattle.std.proofs.lemmas.List.Elements.{All-from_recursion, recursion_from_All, All-contains}
use Rattle.pj_names.specs.declared.answer.Answer.{Answer}
use Rattle.pj_names.specs.ClassName.{Name}
use Rattle.pj_names.specs.Asking.{value_of}
use Rattle.pj_cache.specs.declared.cache.CachedResult.{CachedResult}
use Rattle.pj_reuse.specs.Serving.{has_key, is_served, keys_of, places_from, served, stands}
use Rattle.pj_reuse.proofs.Standing.{places_served}
use Rattle.pj_fitting.specs.Right.{Key, RulesAt, IsRight}
use Rattle.pj_fitting.specs.Left.{IsServedBy}
use Rattle.pj_fitting.proofs.Lists.{all_map, any_filter}
use Rattle.pj_fitting.proofs.Left.{stand_now}
use Rattle.pj_fitting.proofs.Merged.{FoundNow, row_now, rule_now}

-- A place that is given is that of a key that passes.
record IsPassing (test : Key → Bool) (start : ℕ) (keys : List Key) (place : ℕ) : Type 0 where
  behind : start ≤ place
  passes : (key : Key) → slice_get keys (place - start) ≡ Some key → test key ≡ true

some_same : (a b : Key) → Some a ≡ Some b → a ≡ b
some_same a b e = cc

later : (test : Key → Bool) (start : ℕ) (k : Key) (keys : List Key) (place : ℕ) → IsPassing test (suc start) keys place → IsPassing test start (k ∷ keys) place
later test start k keys place is = record {
  behind = omega (arith, is.behind);
  passes = λ key e.
      let next : place - start ≡ suc (place - suc start) = omega (arith, is.behind) in
      is.passes key (ap (λ (i : ℕ). slice_get (k ∷ keys) i) (sym next) ∙ e);
}

here : (test : Key → Bool) (start : ℕ) (k : Key) (keys : List Key) → test k ≡ true → IsPassing test start (k ∷ keys) start
here test start k keys is = record {
  behind = omega arith;
  passes = λ key e.
      let first : start - start ≡ 0 = omega arith in
      let same : k ≡ key = some_same k key (ap (λ (i : ℕ). slice_get (k ∷ keys) i) (sym first) ∙ e) in
      ap test (sym same) ∙ is;
}

places_by : (test : Key → Bool) (start : ℕ) (k : Key) (keys : List Key) (b : Bool) → test k ≡ b → AllByRecursion (IsPassing test start (k ∷ keys)) (places_from test (suc start) keys)
    → AllByRecursion (IsPassing test start (k ∷ keys)) (cond b (start ∷ places_from test (suc start) keys) (places_from test (suc start) keys))
places_by test start k keys true is rest = (here test start k keys is, rest)
places_by test start k keys false is rest = rest

places_pass : (test : Key → Bool) (start : ℕ) (keys : List Key) → AllByRecursion (IsPassing test start keys) (places_from test start keys)
places_pass test start [] = tt
places_pass test start (k ∷ keys) =
    places_by test start k keys (test k) refl
    (all_map (IsPassing test (suc start) keys) (IsPassing test start (k ∷ keys)) (places_from test (suc start) keys) (later test start k keys) (places_pass test (suc start) keys))

module _ {R : Type 0} (rules : RulesAt R) (answers : List (Name × Answer)) (world : Name → Answer) (results : List CachedResult) where
  is_there : (depth : ℕ) (keys : List Key) (place : ℕ) (key : Key) → Contains (value_of depth world (served answers results keys)) place → slice_get keys place ≡ Some key → is_served answers world results key ≡ true
  is_there depth keys place key there e =
      let test : Key → Bool = is_served answers world results in
      let among : Contains (places_from test 0 keys) place = subst (λ (l : List ℕ). Contains l place) (places_served depth world answers results keys) there in
      let passing = All-contains (IsPassing test 0 keys) (places_from test 0 keys) place (All-from_recursion (IsPassing test 0 keys) (places_from test 0 keys) (places_pass test 0 keys)) among in
      let first : place - 0 ≡ place = omega arith in
      passing.passes key (ap (λ (i : ℕ). slice_get keys i) first ∙ e)

  -- at a place that is served, the results that stand have rows of the key, and its rules come to them
  pub served_now : (depth : ℕ) (keys : List Key) (place : ℕ) (key : Key) → All (IsRight rules answers) results → Contains (value_of depth world (served answers results keys)) place → slice_get keys place ≡ Some key
      → FoundNow rules world (flat_map (λ (r : CachedResult). r.group) (filter (stands answers world) results)) key
  served_now depth keys place key right there e =
      row_now rules world (filter (stands answers world) results) key
      (stand_now rules world answers (stands answers world) results (λ r passed. passed) (recursion_from_All (IsRight rules answers) results right))
      (any_filter (λ (r : CachedResult). has_key (keys_of r) key) (stands answers world) results (is_there depth keys place key there e))

  pub served_found : (depth : ℕ) (keys : List Key) (place : ℕ) (rule : R) → All (IsRight rules answers) results → Contains (value_of depth world (served answers results keys)) place → slice_get keys place ≡ Some (rules.key rule)
      → IsServedBy rules answers world results rule
  served_found depth keys place rule right there e =
      let found = served_now depth keys place (rules.key rule) right there e in
      let comes = rule_now rules world (filter (stands answers world) results) rule found in
      record { row = found.row; is = found.is; names = comes.0; comes = comes.1 }
