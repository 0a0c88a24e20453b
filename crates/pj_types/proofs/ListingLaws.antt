-- What the list of supertypes means is what the recursion without a number leads to, and that leads to one list.
use Rattle.std.specs.Prelude.{◌≡◌, ℕ, zero, suc, ◌+◌, ◌-◌, ◌<◌, ◌≤◌, Bool, true, false, if◌then◌else◌, List, [], ◌∷◌, ◌++◌, length, map, Option, Some, None, refl}
use Rattle.std.proofs.Common.{sym, ◌∙◌, ap, subst, arith, length-append, append-nil}
use Rattle.std.specs.Prelude.{nat_eq}
use Rattle.std.specs.List.{IsDistinct, list_any}
use Rattle.std.specs.Cmp.Lexicographic.{pointwise, nat_list_eq_equiv}
use Rattle.std.proofs.lemmas.List.{length-map, map-append}
use Rattle.std.proofs.lemmas.Map.Keys.{IsDistinct-push}
use Rattle.pj_names.specs.declared.answer.Answer.{Answer}
use Rattle.pj_names.specs.ClassName.{Name, NameSet, is_object, name_set}
use Rattle.pj_names.specs.JavaType.{JavaType}
use Rattle.pj_names.specs.Asking.{Asking, Return, bind, walk, value_of, names_of, has_name, unvisited}
use Rattle.pj_names.specs.Asking as asking
use Rattle.pj_names.specs.Meaning.{Meaning, Done, Gives, over, outcome_of, Means, whole, also, in_front, after}
use Rattle.pj_names.proofs.MeaningLaws.{value_of-bind, over-bind, over-whole, over-whole-bind}
use Rattle.pj_types.specs.Supertypes.{Listed, first_listed, given_type, name_of, on_listed, direct, search_within, no_hit, supertypes_within, supertype_list, class_name, begin, of_known}
use Rattle.pj_types.proofs.WalkLaws.{onward, as_types, search-onward}
use Rattle.pj_types.specs.Listing.{LeadTo, none, skipped, visited_now, AreSupertypes, direct_in, asked_names}

module _ (w : Name → Answer) where
  -- what two lists lead to, the first one leads to a part of
  pub split : (visited xs ys list : List Listed) → LeadTo w visited (xs ++ ys) list → (below : List Listed) × LeadTo w visited xs below × LeadTo w below ys list
  split visited [] ys list leads = (visited, none, leads)
  split visited (x ∷ xs) ys list (skipped was leads) = let rest = split visited xs ys list leads in (rest.0, skipped was rest.1, rest.2)
  split visited (x ∷ xs) ys list (visited_now {below = below} new first leads) = let rest = split below xs ys list leads in (rest.0, visited_now new first rest.1, rest.2)

  -- There is one list.
  pub leads-once : (visited xs first second : List Listed) → LeadTo w visited xs first → LeadTo w visited xs second → first ≡ second
  leads-once visited xs first second none none = refl
  leads-once visited xs first second (skipped was leads) (skipped was' leads') = leads-once visited _ first second leads leads'
  leads-once visited xs first second (skipped was leads) (visited_now new below leads') = absurd (cc (was, new))
  leads-once visited xs first second (visited_now new below leads) (skipped was leads') = absurd (cc (was, new))
  leads-once visited (class ∷ rest) first second (visited_now {below = below} new here leads) (visited_now {below = below'} new' here' leads') =
      leads-once below rest first second leads (subst (λ v. LeadTo w v rest second) (sym (leads-once (visited ++ class ∷ []) (direct_in w class) below below' here here')) leads')

  not_seen : (names : List Name) (name : Name) → has_name names name ≡ false → list_any (pointwise nat_eq name) names ≡ false
  not_seen names name new = (λ i. list_any (λ member. nat_list_eq_equiv.symm name member i) names) ∙ new

  -- Each name stands once.
  pub leads-distinct : (visited xs list : List Listed) → LeadTo w visited xs list → IsDistinct (pointwise nat_eq) (map name_of visited) → IsDistinct (pointwise nat_eq) (map name_of list)
  leads-distinct visited xs list none distinct = distinct
  leads-distinct visited (class ∷ rest) list (skipped was leads) distinct = leads-distinct visited rest list leads distinct
  leads-distinct visited (class ∷ rest) list (visited_now {below = below} new here leads) distinct =
      let more : IsDistinct (pointwise nat_eq) (map name_of (visited ++ class ∷ []))
      = subst (λ l. IsDistinct (pointwise nat_eq) l) (sym (map-append name_of visited (class ∷ []))) (IsDistinct-push nat_list_eq_equiv (map name_of visited) class.name distinct (not_seen (map name_of visited) class.name new)) in
      leads-distinct below rest list leads (leads-distinct (visited ++ class ∷ []) (direct_in w class) below here more)

  -- a list only grows
  leads-longer : (visited xs list : List Listed) → LeadTo w visited xs list → length visited ≤ length list
  leads-longer visited xs list none = omega arith
  leads-longer visited (class ∷ rest) list (skipped was leads) = leads-longer visited rest list leads
  leads-longer visited (class ∷ rest) list (visited_now {below = below} new here leads) =
      omega (arith, length-append visited (class ∷ []), leads-longer (visited ++ class ∷ []) (direct_in w class) below here, leads-longer below rest list leads)

pub names-given : (list : List Listed) → map class_name (map given_type list) ≡ map name_of list
names-given [] = refl
names-given (x ∷ xs) = ap (λ l. x.name ∷ l) (names-given xs)

none_twice : IsDistinct (pointwise nat_eq) (map name_of [])
unfolding IsDistinct
none_twice = tt

pub names-once : (w : Name → Answer) (name : Name) (types : List JavaType) → AreSupertypes w name types → IsDistinct (pointwise nat_eq) (map class_name types)
names-once w name types are =
    subst (λ l. IsDistinct (pointwise nat_eq) l) (sym (names-given are.0) ∙ ap (λ l. map class_name l) are.2) (leads-distinct w [] (first_listed name ∷ []) are.0 are.1 none_twice)

pub one-list : (w : Name → Answer) (name : Name) (first second : List JavaType) → AreSupertypes w name first → AreSupertypes w name second → first ≡ second
one-list w name first second here there =
    sym here.2 ∙ ap (λ l. map given_type l) (leads-once w [] (first_listed name ∷ []) here.0 there.0 here.1 there.1) ∙ there.2

-- The walk that visits at most so many classes.
module _ (d : ℕ) (w : Name → Answer) where
  direct-known : (class : Listed) (b : Bool)
      → value_of d w (bind (let m : Asking (Option Answer) = (if b then Return None else bind (asking.ask class.name) (λ answer. Return (Some answer))) in m) (λ known. Return (of_known class.arguments known)))
      ≡ of_known class.arguments (if b then None else Some (w class.name))
  direct-known class true = refl
  direct-known class false = refl

  pub direct-value : (class : Listed) → value_of d w (direct class) ≡ direct_in w class
  unfolding direct
  direct-value class = direct-known class (is_object class.name)

  abbrev list_of : ℕ → List Listed → List Listed → List Listed
  list_of n found xs = (value_of d w (walk name_of (on_listed no_hit) direct n found xs)).1

  abbrev list_on : ℕ → List Listed → List Listed → List Listed
  list_on n found xs = (value_of d w (asking.visit name_of (on_listed no_hit) direct (λ more_found still. walk name_of (on_listed no_hit) direct n more_found still) found xs)).1

  abbrev left : List Listed → List Listed → List Listed
  left found xs = unvisited name_of (has_name (map name_of found)) xs

  -- where the walk comes to its end within one class more
  turn : (n : ℕ) → ((found xs : List Listed) → length (list_of n found xs) < n + length found → LeadTo w found xs (list_of n found xs))
      → (xs found : List Listed) → length (list_on n found (left found xs)) < suc n + length found → LeadTo w found xs (list_on n found (left found xs))
  turn n below [] found short = none
  turn n below (x ∷ xs) found short = at (has_name (map name_of found) x.name) refl (λ h. turn n below xs found h) short
    where
      more_is : list_on n found (x ∷ xs) ≡ list_of n (found ++ x ∷ []) (direct_in w x ++ xs)
      more_is =
          ap (λ (o : Option (Unit {0}) × List Listed). o.1) (value_of-bind d w (direct x) (λ more. walk name_of (on_listed no_hit) direct n (found ++ x ∷ []) (more ++ xs)))
          ∙ ap (λ l. list_of n (found ++ x ∷ []) (l ++ xs)) (direct-value x)

      at : (b : Bool) → has_name (map name_of found) x.name ≡ b
          → (length (list_on n found (left found xs)) < suc n + length found → LeadTo w found xs (list_on n found (left found xs)))
          → length (list_on n found (if b then left found xs else x ∷ xs)) < suc n + length found → LeadTo w found (x ∷ xs) (list_on n found (if b then left found xs else x ∷ xs))
      at true is rest few = skipped is (rest few)
      at false is rest few =
          let fewer : length (list_of n (found ++ x ∷ []) (direct_in w x ++ xs)) < n + length (found ++ x ∷ [])
          = (let l : length (list_of n (found ++ x ∷ []) (direct_in w x ++ xs)) < suc n + length found = subst (λ l. length l < suc n + length found) more_is few in omega (arith, l, length-append found (x ∷ []))) in
          let parts = split w (found ++ x ∷ []) (direct_in w x) xs (list_of n (found ++ x ∷ []) (direct_in w x ++ xs)) (below (found ++ x ∷ []) (direct_in w x ++ xs) fewer) in
          subst (λ l. LeadTo w found (x ∷ xs) l) (sym more_is) (visited_now is parts.1 parts.2)

  walk-leads : (n : ℕ) (found xs : List Listed) → length (list_of n found xs) < n + length found → LeadTo w found xs (list_of n found xs)
  walk-leads zero found xs short = absurd (omega (arith, short))
  walk-leads (suc n) found xs short = turn n (λ f ys h. walk-leads n f ys h) xs found short

  -- A list that is shorter than the most classes that are visited is that of the recursion.
  pub supertypes-are : (name : Name) (most : ℕ) → length (value_of d w (supertypes_within most name)) < most → AreSupertypes w name (value_of d w (supertypes_within most name))
  unfolding onward
  supertypes-are name most short =
      let is : value_of d w (supertypes_within most name) ≡ map given_type (list_of most [] (first_listed name ∷ []))
      = value_of-bind d w (search_within most no_hit name) (λ outcome. Return outcome.1)
      ∙ ap (λ (m : Asking (Option (Unit {0}) × List JavaType)). (value_of d w m).1) (search-onward most no_hit name)
      ∙ ap (λ (o : Option (Unit {0}) × List JavaType). o.1) (value_of-bind d w (onward no_hit most (begin name)) (λ o. Return (as_types o))) in
      let shorter : length (list_of most [] (first_listed name ∷ [])) < most
      = subst (λ l. l < most) (ap (λ (l : List JavaType). length l) is ∙ length-map (list_of most [] (first_listed name ∷ [])) given_type) short in
      (list_of most [] (first_listed name ∷ []), walk-leads most [] (first_listed name ∷ []) (omega (arith, shorter)), sym is)

-- What is meant is the list of the recursion.
pub meant-are : (w : Name → Answer) (name : Name) (types : List JavaType) (names : NameSet) → Means (whole w) (supertype_list name) (Gives types names) → AreSupertypes w name types
meant-are w name types names means =
    let most : ℕ = suc (length types) + means.least in
    let gives : Gives (value_of most w (supertypes_within most name)) (name_set (names_of most w (supertypes_within most name))) ≡ Gives types names
    = ap (λ r. outcome_of r) (sym (over-whole most w (supertypes_within most name))) ∙ means.is most (omega arith) in
    let is : value_of most w (supertypes_within most name) ≡ types = cc in
    subst (λ l. AreSupertypes w name l) is (supertypes-are most w name most (subst (λ (l : List JavaType). length l < most) (sym is) (omega arith)))

-- The other way: where the recursion leads to a list, a walk that may visit so many classes comes to it, and asks its names.

in_front-append : {A : Type 0} (xs ys : List Name) (r : Meaning A) → in_front (xs ++ ys) r ≡ in_front xs (in_front ys r)
in_front-append [] ys r = refl
in_front-append (x ∷ xs) ys r = ap (λ m. also x m) (in_front-append xs ys r)

in_front-done : {A : Type 0} (xs : List Name) (v : A) (names : List Name) → in_front xs (Done v names) ≡ Done v (xs ++ names)
in_front-done [] v names = refl
in_front-done (x ∷ xs) v names = ap (λ m. also x m) (in_front-done xs v names)

one_asked : (b : Bool) (name : Name) (xs ys : List Name) → (if b then xs ++ ys else name ∷ (xs ++ ys)) ≡ (if b then xs else name ∷ xs) ++ ys
one_asked true name xs ys = refl
one_asked false name xs ys = refl

asked-append : (xs ys : List Name) → asked_names (xs ++ ys) ≡ asked_names xs ++ asked_names ys
asked-append [] ys = refl
asked-append (x ∷ xs) ys =
    (λ i. if is_object x then asked-append xs ys i else x ∷ asked-append xs ys i) ∙ one_asked (is_object x) x (asked_names xs) (asked_names ys)

abbrev asked_of : List Listed → List Name
asked_of list = asked_names (map name_of list)

module _ (d : ℕ) (w : Name → Answer) where
  abbrev goes : ℕ → List Listed → List Listed → Meaning (Option (Unit {0}) × List Listed)
  goes n found xs = over d (whole w) (walk name_of (on_listed no_hit) direct n found xs)

  abbrev goes_on : ℕ → List Listed → List Listed → Meaning (Option (Unit {0}) × List Listed)
  goes_on n found xs = over d (whole w) (asking.visit name_of (on_listed no_hit) direct (λ more_found still. walk name_of (on_listed no_hit) direct n more_found still) found xs)

  direct-names : (class : Listed) → names_of d w (direct class) ≡ asked_names (class.name ∷ [])
  unfolding direct
  direct-names class = at (is_object class.name)
    where
      at : (b : Bool)
          → names_of d w (bind (let m : Asking (Option Answer) = (if b then Return None else bind (asking.ask class.name) (λ answer. Return (Some answer))) in m) (λ known. Return (of_known class.arguments known)))
          ≡ (if b then [] else class.name ∷ [])
      at true = refl
      at false = refl

  -- a visited class is skipped
  goes-skip : (n : ℕ) (found xs : List Listed) (x : Listed) → has_name (map name_of found) x.name ≡ true → goes n found (x ∷ xs) ≡ goes n found xs
  goes-skip zero found xs x was = refl
  goes-skip (suc n) found xs x was = ap (λ b. goes_on n found (if b then left d w found xs else x ∷ xs)) was

  -- a new class is visited, and then those that it leads to
  goes-new : (n : ℕ) (found xs : List Listed) (x : Listed) → has_name (map name_of found) x.name ≡ false
      → goes (suc n) found (x ∷ xs) ≡ in_front (asked_names (x.name ∷ [])) (goes n (found ++ x ∷ []) (direct_in w x ++ xs))
  goes-new n found xs x new =
      ap (λ b. goes_on n found (if b then left d w found xs else x ∷ xs)) new
      ∙ over-whole-bind d w (direct x) (λ more. walk name_of (on_listed no_hit) direct n (found ++ x ∷ []) (more ++ xs))
      ∙ ap (λ l. in_front (names_of d w (direct x)) (goes n (found ++ x ∷ []) (l ++ xs))) (direct-value d w x)
      ∙ ap (λ l. in_front l (goes n (found ++ x ∷ []) (direct_in w x ++ xs))) (direct-names x)

  leads-goes : (visited xs list : List Listed) → LeadTo w visited xs list → (rest : List Listed) (n m : ℕ) → n + length visited ≡ m + length list
      → in_front (asked_of visited) (goes n visited (xs ++ rest)) ≡ in_front (asked_of list) (goes m list rest)
  leads-goes visited xs list none rest n m is = let same : n ≡ m = omega (arith, is) in ap (λ k. in_front (asked_of visited) (goes k visited rest)) same
  leads-goes visited (class ∷ xs) list (skipped was leads) rest n m is =
      ap (λ r. in_front (asked_of visited) r) (goes-skip n visited (xs ++ rest) class was) ∙ leads-goes visited xs list leads rest n m is
  leads-goes visited (class ∷ xs) list (visited_now {below = below} new here leads) rest n m is =
      at n is (λ k between h. leads-goes (visited ++ class ∷ []) (direct_in w class) below here (xs ++ rest) k between h) (λ between h. leads-goes below xs list leads rest between m h)
    where
      longer : length visited + 1 ≤ length below
      longer = omega (arith, length-append visited (class ∷ []), leads-longer w (visited ++ class ∷ []) (direct_in w class) below here)

      grows : length below ≤ length list
      grows = leads-longer w below xs list leads

      at : (n : ℕ) → n + length visited ≡ m + length list
          → ((k between : ℕ) → k + length (visited ++ class ∷ []) ≡ between + length below
          → in_front (asked_of (visited ++ class ∷ [])) (goes k (visited ++ class ∷ []) (direct_in w class ++ (xs ++ rest))) ≡ in_front (asked_of below) (goes between below (xs ++ rest)))
          → ((between : ℕ) → between + length below ≡ m + length list → in_front (asked_of below) (goes between below (xs ++ rest)) ≡ in_front (asked_of list) (goes m list rest))
          → in_front (asked_of visited) (goes n visited ((class ∷ xs) ++ rest)) ≡ in_front (asked_of list) (goes m list rest)
      at zero is first second = absurd (omega (arith, is, longer, grows))
      at (suc n) is first second =
          let between : ℕ = m + (length list - length below) in
          ap (λ r. in_front (asked_of visited) r) (goes-new n visited (xs ++ rest) class new)
          ∙ sym (in_front-append (asked_of visited) (asked_names (class.name ∷ [])) (goes n (visited ++ class ∷ []) (direct_in w class ++ (xs ++ rest))))
          ∙ ap (λ l. in_front l (goes n (visited ++ class ∷ []) (direct_in w class ++ (xs ++ rest))))
          (sym (asked-append (map name_of visited) (class.name ∷ [])) ∙ ap (λ l. asked_names l) (sym (map-append name_of visited (class ∷ []))))
          ∙ first n between (omega (arith, is, grows, length-append visited (class ∷ [])))
          ∙ second between (omega (arith, grows))

  goes-none : (n : ℕ) (found : List Listed) → goes n found [] ≡ Done (None, found) []
  goes-none zero found = refl
  goes-none (suc n) found = refl

  -- where a walk may visit as many classes as the list has
  list-goes : (xs list : List Listed) (n : ℕ) → LeadTo w [] xs list → length list ≤ n → goes n [] xs ≡ Done (None, list) (asked_of list)
  list-goes xs list n leads enough =
      let left_over : ℕ = n - length list in
      ap (λ l. goes n [] l) (sym (append-nil xs))
      ∙ leads-goes [] xs list leads [] n left_over (omega (arith, enough))
      ∙ ap (λ r. in_front (asked_of list) r) (goes-none left_over list)
      ∙ in_front-done (asked_of list) (None, list) []
      ∙ ap (λ l. Done (None, list) l) (append-nil (asked_of list))

  list-within : (name : Name) (list : List Listed) (n : ℕ) → LeadTo w [] (first_listed name ∷ []) list → length list ≤ n
      → over d (whole w) (supertypes_within n name) ≡ Done (map given_type list) (asked_of list)
  unfolding onward
  list-within name list n leads enough =
      over-bind d (whole w) (search_within n no_hit name) (λ outcome. Return outcome.1)
      ∙ ap (λ (m : Asking (Option (Unit {0}) × List JavaType)). after (over d (whole w) m) (λ outcome. over d (whole w) (Return outcome.1))) (search-onward n no_hit name)
      ∙ ap (λ r. after r (λ (outcome : Option (Unit {0}) × List JavaType). over d (whole w) (Return outcome.1)))
      (over-bind d (whole w) (onward no_hit n (begin name)) (λ o. Return (as_types o))
      ∙ ap (λ r. after r (λ o. over d (whole w) (Return (as_types o)))) (list-goes (first_listed name ∷ []) list n leads enough)
      ∙ in_front-done (asked_of list) (None, map given_type list) [])
      ∙ in_front-done (asked_of list ++ []) (map given_type list) []
      ∙ ap (λ l. Done (map given_type list) l) (append-nil (asked_of list ++ []) ∙ append-nil (asked_of list))

-- The list means that, and its classes but `java.lang.Object` are asked.
pub list-order : (w : Name → Answer) (name : Name) (types : List JavaType) (depth : ℕ) → AreSupertypes w name types → length types ≤ depth → over depth (whole w) (supertype_list name) ≡ Done types (asked_names (map class_name types))
list-order w name types depth are enough =
    list-within depth w name are.0 depth are.1 (omega (arith, enough, length-map are.0 given_type, ap (λ (l : List JavaType). length l) are.2))
    ∙ (λ i. Done (are.2 i) (asked_names (sym (names-given are.0) i)))
    ∙ ap (λ (l : List JavaType). Done types (asked_names (map class_name l))) are.2

pub list-meant : (w : Name → Answer) (name : Name) (types : List JavaType) → AreSupertypes w name types → Means (whole w) (supertype_list name) (Gives types (name_set (asked_names (map class_name types))))
list-meant w name types are = record { least = length types; is = λ depth enough. ap (λ r. outcome_of r) (list-order w name types depth are enough) }
