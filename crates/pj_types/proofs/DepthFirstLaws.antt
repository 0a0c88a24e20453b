-- The recursion is the walk that keeps the items to visit in one list, and the depth is no part of it.
use Rattle.std.specs.Prelude.{◌≡◌, ℕ, zero, suc, ◌-◌, ◌≤◌, Bool, true, false, ◌||◌, List, [], ◌∷◌, ◌++◌, length, map, Option, Some, None, nat_le, if◌then◌else◌, refl}
use Rattle.std.proofs.Common.{sym, ◌∙◌, ap, arith, append-nil, append_assoc, length-append}
use Rattle.std.proofs.lemmas.Bool.Decides.{nat_tests}
use Rattle.pj_names.specs.declared.answer.Answer.{Answer}
use Rattle.pj_names.specs.ClassName.{Name}
use Rattle.pj_names.specs.Asking.{Asking, Return, Ask, Unbounded, bind, has_name, unvisited, hit_or, walk}
use Rattle.pj_names.specs.Asking as asking
use Rattle.pj_names.proofs.MeaningLaws.{bind-bind}
use Rattle.pj_types.specs.DepthFirst.{in_turn, visit}

-- A fact of each value that a meaning may have, whatever is answered.

abbrev pub AllValues : {A : Type 0} → (A → Type 0) → Asking A → Type 0
AllValues P (Return v) = P v
AllValues P (Ask n f) = (a : Answer) → AllValues P (f a)
AllValues P (Unbounded f) = (d : ℕ) → AllValues P (f d)

all-bind : {A B : Type 0} (P : B → Type 0) (m : Asking A) (k : A → Asking B) → ((v : A) → AllValues P (k v)) → AllValues P (bind m k)
all-bind P (Return v) k all = all v
all-bind P (Ask n f) k all = λ a. all-bind P (f a) k all
all-bind P (Unbounded f) k all = λ d. all-bind P (f d) k all

all-weaken : {A : Type 0} (P Q : A → Type 0) (m : Asking A) → ((v : A) → P v → Q v) → AllValues P m → AllValues Q m
all-weaken P Q (Return v) weaken p = weaken v p
all-weaken P Q (Ask n f) weaken p = λ a. all-weaken P Q (f a) weaken (p a)
all-weaken P Q (Unbounded f) weaken p = λ d. all-weaken P Q (f d) weaken (p d)

bind-alike : {A B : Type 0} (P : A → Type 0) (m : Asking A) (k h : A → Asking B) → AllValues P m → ((v : A) → P v → k v ≡ h v) → bind m k ≡ bind m h
bind-alike P (Return v) k h p same = same v p
bind-alike P (Ask n f) k h p same = λ i. Ask n (λ a. bind-alike P (f a) k h (p a) same i)
bind-alike P (Unbounded f) k h p same = λ i. Unbounded (λ d. bind-alike P (f d) k h (p d) same i)

module _ {A B : Type 0} (name_of : A → Name) (test : A → Asking (Option B)) (next : A → Asking (List A)) where
  abbrev goes : ℕ → List A → List A → Asking (Option B × List A)
  goes = walk name_of test next

  abbrev on_hit : Option B → List A → Asking (Option B × List A) → Asking (Option B × List A)
  on_hit = hit_or name_of test next

  abbrev left : List A → List A → List A
  left found xs = unvisited name_of (has_name (map name_of found)) xs

  -- where nothing is to visit, nothing is visited
  goes-none : (n : ℕ) (found : List A) → goes n found [] ≡ Return (None, found)
  goes-none zero found = refl
  goes-none (suc n) found = refl

  -- what is left of two lists, one behind the other
  abbrev or_left : (Name → Bool) → List A → List A → List A
  or_left is_visited [] ys = unvisited name_of is_visited ys
  or_left is_visited (x ∷ xs) ys = x ∷ (xs ++ ys)

  left-append : (is_visited : Name → Bool) (xs ys : List A) → unvisited name_of is_visited (xs ++ ys) ≡ or_left is_visited (unvisited name_of is_visited xs) ys
  left-append is_visited [] ys = refl
  left-append is_visited (x ∷ xs) ys =
      elim (is_visited (name_of x)) as (λ b. (if b then unvisited name_of is_visited (xs ++ ys) else x ∷ (xs ++ ys)) ≡ or_left is_visited (if b then unvisited name_of is_visited xs else x ∷ xs) ys) [
        | true ↦ left-append is_visited xs ys
        | false ↦ refl
      ]

  -- the walk, where it goes on with an item that was not visited, or where there is none
  abbrev goes_on : ℕ → List A → List A → Asking (Option B × List A)
  goes_on n found xs = asking.visit name_of test next (λ more_found still. goes n more_found still) found xs

  -- a walk forgets nothing that was found
  longer : (n : ℕ) (found xs : List A) → AllValues (λ (o : Option B × List A). length found ≤ length o.1) (goes n found xs)
  longer zero found xs = omega arith
  longer (suc n) found xs =
      elim (left found xs) as (λ u. AllValues (λ (o : Option B × List A). length found ≤ length o.1) (goes_on n found u)) [
        | [] ↦ omega arith
        | x ∷ rest ↦ all-bind (λ (o : Option B × List A). length found ≤ length o.1) (test x) _ (λ hit. at x rest (λ more. longer n (found ++ x ∷ []) (more ++ rest)) hit)
      ]
    where
      at : (x : A) (rest : List A) → ((more : List A) → AllValues (λ (o : Option B × List A). length (found ++ x ∷ []) ≤ length o.1) (goes n (found ++ x ∷ []) (more ++ rest)))
          → (hit : Option B) → AllValues (λ (o : Option B × List A). length found ≤ length o.1) (on_hit hit (found ++ x ∷ []) (bind (next x) (λ more. goes n (found ++ x ∷ []) (more ++ rest))))
      at x rest onward (Some h) = omega (arith, length-append found (x ∷ []))
      at x rest onward None =
          all-bind (λ (o : Option B × List A). length found ≤ length o.1) (next x) _ (λ more.
          all-weaken (λ (o : Option B × List A). length (found ++ x ∷ []) ≤ length o.1) (λ (o : Option B × List A). length found ≤ length o.1) (goes n (found ++ x ∷ []) (more ++ rest))
          (λ o h. omega (arith, length-append found (x ∷ []), h)) (onward more))

  -- Lists of at most so many members.
  module _ (most : ℕ) where
    abbrev fills : List A → List A → Asking (Option B × List A)
    fills found xs = goes (most - length found) found xs

    -- what is to visit in two lists is visited in the first and then in the second
    append : (n : ℕ) (found xs ys : List A) → n ≡ most - length found → goes n found (xs ++ ys) ≡ bind (goes n found xs) (λ o. on_hit o.0 o.1 (fills o.1 ys))
    append zero found xs ys is = λ i. goes (is i) found ys
    append (suc n) found xs ys is =
        ap (λ u. goes_on n found u) (left-append (has_name (map name_of found)) xs ys)
        ∙ (elim (left found xs) as (λ u. goes_on n found (or_left (has_name (map name_of found)) u ys) ≡ bind (goes_on n found u) (λ o. on_hit o.0 o.1 (fills o.1 ys))) [
          | [] ↦ λ i. goes (is i) found ys
          | x ∷ rest ↦ (λ i. bind (test x) (λ hit. at x rest (λ more. append n (found ++ x ∷ []) (more ++ rest) ys (omega (arith, is, length-append found (x ∷ [])))) hit i)) ∙ sym (bind-bind (test x) (λ hit. on_hit hit (found ++ x ∷ []) (bind (next x) (λ more. goes n (found ++ x ∷ []) (more ++ rest)))) (λ o. on_hit o.0 o.1 (fills o.1 ys)))
        ])
      where
        at : (x : A) (rest : List A) → ((more : List A) → goes n (found ++ x ∷ []) ((more ++ rest) ++ ys) ≡ bind (goes n (found ++ x ∷ []) (more ++ rest)) (λ o. on_hit o.0 o.1 (fills o.1 ys)))
            → (hit : Option B) → on_hit hit (found ++ x ∷ []) (bind (next x) (λ more. goes n (found ++ x ∷ []) (more ++ (rest ++ ys))))
            ≡ bind (on_hit hit (found ++ x ∷ []) (bind (next x) (λ more. goes n (found ++ x ∷ []) (more ++ rest)))) (λ o. on_hit o.0 o.1 (fills o.1 ys))
        at x rest onward (Some h) = refl
        at x rest onward None =
            (λ i. bind (next x) (λ more. (ap (λ l. goes n (found ++ x ∷ []) l) (sym (append_assoc more rest ys)) ∙ onward more) i))
            ∙ sym (bind-bind (next x) (λ more. goes n (found ++ x ∷ []) (more ++ rest)) (λ o. on_hit o.0 o.1 (fills o.1 ys)))

    abbrev visits : ℕ → List A → A → Asking (Option B × List A)
    visits = visit name_of test next most

    abbrev turns : ℕ → List A → List A → Asking (Option B × List A)
    turns d found xs = in_turn name_of test next most (visits d) found xs

    -- where one item is visited as the walk visits it, so are the items of a list
    turns-walk : (d : ℕ) → ((found : List A) (x : A) → most - length found ≤ d → visits d found x ≡ fills found (x ∷ []))
        → (xs found : List A) → most - length found ≤ d → turns d found xs ≡ fills found xs
    turns-walk d one [] found deep = sym (goes-none (most - length found) found)
    turns-walk d one (x ∷ xs) found deep =
        ap (λ m. bind m (λ o. on_hit o.0 o.1 (turns d o.1 xs))) (one found x deep)
        ∙ bind-alike (λ (o : Option B × List A). length found ≤ length o.1) (fills found (x ∷ [])) (λ o. on_hit o.0 o.1 (turns d o.1 xs)) (λ o. on_hit o.0 o.1 (fills o.1 xs))
        (longer (most - length found) found (x ∷ []))
        (λ o more. ap (λ m. on_hit o.0 o.1 m) (turns-walk d one xs o.1 (omega (arith, deep, more))))
        ∙ sym (append (most - length found) found (x ∷ []) xs refl)

    full : (found : List A) (b : Bool) → 0 ≡ most - length found → (b || nat_le most (length found)) ≡ true
    full found true is = refl
    full found false is = grind (arith, nat_tests, is)

    not_full : (n : ℕ) (found : List A) (b : Bool) → suc n ≡ most - length found → (b || nat_le most (length found)) ≡ b
    not_full n found true is = refl
    not_full n found false is = grind (arith, nat_tests, is)

    -- One item is visited as the walk visits it, where the depth is no less than the members that a list may still have.
    pub visits-walk : (d : ℕ) (found : List A) (x : A) → most - length found ≤ d → visits d found x ≡ fills found (x ∷ [])
    visits-walk zero found x deep = let none : 0 ≡ most - length found = omega (arith, deep) in λ i. goes (none i) found (x ∷ [])
    visits-walk (suc d) found x deep = at (λ xs more_found shallow. turns-walk d (λ f y h. visits-walk d f y h) xs more_found shallow) (most - length found) refl
      where
        here : Bool
        here = has_name (map name_of found) (name_of x)

        new : Asking (Option B × List A)
        new = bind (test x) (λ hit. on_hit hit (found ++ x ∷ []) (bind (next x) (λ more. turns d (found ++ x ∷ []) more)))

        either : (n : ℕ) → ((more : List A) → turns d (found ++ x ∷ []) more ≡ goes n (found ++ x ∷ []) (more ++ [])) → (b : Bool)
            → (if b then Return (None, found) else new) ≡ goes_on n found (if b then [] else x ∷ [])
        either n onward true = refl
        either n onward false = λ i. bind (test x) (λ hit. on_hit hit (found ++ x ∷ []) (bind (next x) (λ more. onward more i)))

        at : ((xs more_found : List A) → most - length more_found ≤ d → turns d more_found xs ≡ fills more_found xs) → (n : ℕ) → n ≡ most - length found
            → (if here || nat_le most (length found) then Return (None, found) else new) ≡ fills found (x ∷ [])
        at deeper zero is = ap (λ b. if b then Return (None, found) else new) (full found here is) ∙ (λ i. goes (is i) found (x ∷ []))
        at deeper (suc n) is =
            let left_over : most - length (found ++ x ∷ []) ≡ n = omega (arith, is, length-append found (x ∷ [])) in
            ap (λ b. if b then Return (None, found) else new) (not_full n found here is)
            ∙ either n (λ more. deeper more (found ++ x ∷ []) (omega (arith, left_over, is, deep)) ∙ (λ i. goes (left_over i) (found ++ x ∷ []) (sym (append-nil more) i))) here
            ∙ (λ i. goes (is i) found (x ∷ []))
