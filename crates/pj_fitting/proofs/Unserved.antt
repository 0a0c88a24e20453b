-- New results are made for just the rules that are not served.
use Rattle.std.proofs.Common.{◌≡◌, Bool, true, false, not, cond, ◌&&◌, ◌||◌, List, [], ◌∷◌, refl, ap, ◌∙◌}
use Rattle.std.specs.List.{AllByRecursion, filter, list_all, list_any}
use Rattle.pj_names.specs.declared.answer.Answer.{Answer}
use Rattle.pj_names.specs.ClassName.{Name}
use Rattle.pj_cache.specs.declared.cache.CachedResult.{CachedResult}
use Rattle.pj_reuse.specs.Serving.{has_key, has_one, is_served, keys_of, stands}
use Rattle.pj_reuse.proofs.Standing.{has_itself, meets}
use Rattle.pj_fitting.specs.Right.{Key}
use Rattle.pj_fitting.specs.Left.{has_result, kept, missing, serves}
use Rattle.pj_fitting.proofs.Among.{both_true}

module _ {A : Type 0} (p test : A → Bool) where
  filtered_by : (x : A) (xs : List A) (b : Bool) → test x ≡ b → list_any p (filter test xs) ≡ list_any (λ (y : A). test y && p y) xs → list_any p (cond b (x ∷ filter test xs) (filter test xs)) ≡ ((b && p x) || list_any (λ (y : A). test y && p y) xs)
  filtered_by x xs true is rest = ap (λ (b : Bool). p x || b) rest
  filtered_by x xs false is rest = rest

  -- some of those that pass the first test pass the second one, if and only if some member passes both
  any_filtered : (xs : List A) → list_any p (filter test xs) ≡ list_any (λ (y : A). test y && p y) xs
  any_filtered [] = refl
  any_filtered (x ∷ xs) = filtered_by x xs (test x) refl (any_filtered xs)

next_same : {A : Type 0} (x : A) (xs ys : List A) (b c : Bool) → b ≡ c → xs ≡ ys → cond b (x ∷ xs) xs ≡ cond c (x ∷ ys) ys
next_same x xs ys b c e h = λ i. cond (e i) (x ∷ h i) (h i)

filter_same : {A : Type 0} (p q : A → Bool) (xs : List A) → AllByRecursion (λ (x : A). p x ≡ q x) xs → filter p xs ≡ filter q xs
filter_same p q [] all = refl
filter_same p q (x ∷ xs) all = next_same x (filter p xs) (filter q xs) (p x) (q x) all.0 (filter_same p q xs all.1)

module _ (answers : List (Name × Answer)) (world : Name → Answer) (keys : List Key) (old : List CachedResult) where
  -- a result that has one of the keys is for one of them
  one_by : (o s h : Bool) → (h ≡ true → o ≡ true) → ((o && s) && h) ≡ (s && h)
  one_by o s true there = ap (λ (b : Bool). (b && s) && true) (there refl)
  one_by true true false there = refl
  one_by true false false there = refl
  one_by false true false there = refl
  one_by false false false there = refl

  pub kept_serves : (key : Key) → has_key keys key ≡ true → has_result (kept answers world keys old) key ≡ is_served answers world old key
  kept_serves key there =
      any_filtered (λ (r : CachedResult). has_key (keys_of r) key) (serves answers world keys) old
      ∙ (λ i. list_any (λ (r : CachedResult). one_by (has_one keys r) (stands answers world r) (has_key (keys_of r) key) (λ has. meets keys (keys_of r) key has there) i) old)

  each_same : (ks : List Key) → AllByRecursion (λ (key : Key). has_key keys key ≡ true) ks → AllByRecursion (λ (key : Key). not (has_result (kept answers world keys old) key) ≡ not (is_served answers world old key)) ks
  each_same [] all = tt
  each_same (k ∷ ks) all = (ap not (kept_serves k all.0), each_same ks all.1)

  pub made_is_unserved : missing (kept answers world keys old) keys ≡ filter (λ (key : Key). not (is_served answers world old key)) keys
  made_is_unserved = filter_same (λ (key : Key). not (has_result (kept answers world keys old) key)) (λ (key : Key). not (is_served answers world old key)) keys (each_same keys (has_itself keys))

none_left : {A : Type 0} (p : A → Bool) (xs : List A) → list_all p xs ≡ true → filter (λ (x : A). not (p x)) xs ≡ []
none_left p [] all = refl
none_left p (x ∷ xs) all =
    let both = both_true (p x) (list_all p xs) all in
    rw both.0 (none_left p xs both.1)

pub none_made : (answers : List (Name × Answer)) (world : Name → Answer) (keys : List Key) (old : List CachedResult) → list_all (is_served answers world old) keys ≡ true → missing (kept answers world keys old) keys ≡ []
none_made answers world keys old all = made_is_unserved answers world keys old ∙ none_left (is_served answers world old) keys all
