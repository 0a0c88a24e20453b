-- What holds of each member of a list, and members that pass a test.
use Rattle.std.proofs.Common.{◌≡◌, ℕ, zero, suc, ◌<◌, Bool, true, false, cond, ◌&&◌, ◌||◌, List, [], ◌∷◌, ◌++◌, length, get_or, refl, sym, ap, subst, ◌∙◌, arith}
use Rattle.std.specs.List.{AllByRecursion, Contains, filter, flat_map, list_any}
use Rattle.std.proofs.lemmas.List.Concat.{flat_map-cons}
use Rattle.pj_fitting.proofs.Sets.{or_true}

pub all_map : {A : Type 0} (P Q : A → Type 0) (xs : List A) → ((x : A) → P x → Q x) → AllByRecursion P xs → AllByRecursion Q xs
all_map P Q [] f all = tt
all_map P Q (x ∷ xs) f all = (f x all.0, all_map P Q xs f all.1)

pub all_both : {A : Type 0} (P Q S : A → Type 0) (xs : List A) → ((x : A) → P x → Q x → S x) → AllByRecursion P xs → AllByRecursion Q xs → AllByRecursion S xs
all_both P Q S [] f ps qs = tt
all_both P Q S (x ∷ xs) f ps qs = (f x ps.0 qs.0, all_both P Q S xs f ps.1 qs.1)

module _ {B : Type 0} (P : B → Type 0) where
  all_append : (xs ys : List B) → AllByRecursion P xs → AllByRecursion P ys → AllByRecursion P (xs ++ ys)
  all_append [] ys first rest = rest
  all_append (x ∷ xs) ys first rest = (first.0, all_append xs ys first.1 rest)

  -- what holds of each member of each list holds of those of all lists together
  pub all_joined : {A : Type 0} (f : A → List B) (xs : List A) → AllByRecursion (λ (x : A). AllByRecursion P (f x)) xs → AllByRecursion P (flat_map f xs)
  all_joined f [] all = tt
  all_joined f (x ∷ xs) all = subst (λ (l : List B). AllByRecursion P l) (sym (flat_map-cons f x xs)) (all_append (f x) (flat_map f xs) all.0 (all_joined f xs all.1))

module _ {A : Type 0} (test : A → Bool) (P Q : A → Type 0) (passed : (x : A) → P x → test x ≡ true → Q x) where
  filter_by : (x : A) (xs : List A) (b : Bool) → test x ≡ b → P x → AllByRecursion Q (filter test xs) → AllByRecursion Q (cond b (x ∷ filter test xs) (filter test xs))
  filter_by x xs true is here rest = (passed x here is, rest)
  filter_by x xs false is here rest = rest

  -- what follows of each member that passes holds of those that are left
  pub all_filter : (xs : List A) → AllByRecursion P xs → AllByRecursion Q (filter test xs)
  all_filter [] all = tt
  all_filter (x ∷ xs) all = filter_by x xs (test x) refl all.0 (all_filter xs all.1)

module _ {A : Type 0} (p : A → Bool) where
  -- a member that passes
  pub one_passes : (xs : List A) (x : A) (k : ℕ) → k < length xs → get_or xs k x ≡ x → p x ≡ true → list_any p xs ≡ true
  one_passes [] x k lt is e = absurd (omega (arith, lt))
  one_passes (y ∷ ys) x zero lt is e = ap (λ (b : Bool). b || list_any p ys) (ap p is ∙ e)
  one_passes (y ∷ ys) x (suc k) lt is e = ap (λ (b : Bool). p y || b) (one_passes ys x k (omega (arith, lt)) is e) ∙ or_true (p y)

  pub member_passes : (xs : List A) (x : A) → Contains xs x → p x ≡ true → list_any p xs ≡ true
  member_passes xs x there e = one_passes xs x there.0 there.1 there.2 e

  any_by : (x : A) (xs ys : List A) (b : Bool) → p x ≡ b → Contains ys x → (b || list_any p xs) ≡ true → (list_any p xs ≡ true → list_any p ys ≡ true) → list_any p ys ≡ true
  any_by x xs ys true is there e rest = member_passes ys x there is
  any_by x xs ys false is there e rest = rest e

  -- where some member of a list passes, so does some of one that has its members
  pub any_among : (xs ys : List A) → AllByRecursion (Contains ys) xs → list_any p xs ≡ true → list_any p ys ≡ true
  any_among [] ys all e = absurd cc
  any_among (x ∷ xs) ys all e = any_by x xs ys (p x) refl all.0 e (λ rest. any_among xs ys all.1 rest)

  both_by : (test : A → Bool) (x : A) (xs : List A) (b : Bool) → test x ≡ b → ((b && p x) || list_any (λ (y : A). test y && p y) xs) ≡ true → (list_any (λ (y : A). test y && p y) xs ≡ true → list_any p (filter test xs) ≡ true)
      → list_any p (cond b (x ∷ filter test xs) (filter test xs)) ≡ true
  both_by test x xs true is e rest = first (p x) e
    where
      first : (b : Bool) → (b || list_any (λ (y : A). test y && p y) xs) ≡ true → (b || list_any p (filter test xs)) ≡ true
      first true e = refl
      first false e = rest e
  both_by test x xs false is e rest = rest e

  -- where some member passes both tests, some of those that pass the first one passes the second one
  pub any_filter : (test : A → Bool) (xs : List A) → list_any (λ (y : A). test y && p y) xs ≡ true → list_any p (filter test xs) ≡ true
  any_filter test [] e = absurd cc
  any_filter test (x ∷ xs) e = both_by test x xs (test x) refl e (λ rest. any_filter test xs rest)
