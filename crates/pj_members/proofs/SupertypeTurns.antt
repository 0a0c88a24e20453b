-- The turns of a loop along the supertypes of a class with type arguments.
use Rattle.std.proofs.Common.{◌≡◌, ℕ, zero, suc, ◌+◌, ◌-◌, ◌<◌, Bool, true, false, ◌||◌, List, [], ◌∷◌, ◌++◌, map, Option, Some, None, nat_eq, refl, ap, sym, ◌∙◌, arith}
use Rattle.std.specs.Cmp.Lexicographic.{pointwise, slice_cmp, nat_list_cmp_total, nat_list_eq_equiv, texts_ties}
use Rattle.std.specs.Ordering.{nat_cmp}
use Rattle.std.specs.FinSet.{contains-empty, contains-insert}
use Rattle.std.specs.FinSet as set
use Rattle.std.proofs.lemmas.List.{map-append}
use Rattle.pj_names.specs.ClassName.{Name, NameSet}
use Rattle.pj_names.specs.Asking.{Asking, Return, Unbounded, bind, has_name, hit_or, unvisited, walk}
use Rattle.pj_names.specs.Asking as asking
use Rattle.pj_names.proofs.AskingLaws.{ComesTo, comes-deeper}
use Rattle.pj_names.proofs.MeaningLaws.{bind-bind}
use Rattle.pj_names.specs.Told.{Told, longest}
use Rattle.pj_types.specs.DepthFirst.{visit}
use Rattle.pj_types.specs.Supertypes.{Listed, direct, name_of}
use Rattle.pj_types.proofs.DepthFirstLaws.{visits-walk}
use Rattle.pj_members.specs.Receivers.{search_from}
use Rattle.pj_members.specs.SupertypeWalks.{Gives, Standing, left}

-- ---- sets of visited names

or_swap : (a b : Bool) → (a || b) ≡ (b || a)
or_swap true true = refl
or_swap true false = refl
or_swap false true = refl
or_swap false false = refl

or_assoc : (a b c : Bool) → (a || (b || c)) ≡ ((a || b) || c)
or_assoc true b c = refl
or_assoc false b c = refl

has_name-push : (names : List Name) (name q : Name) → has_name (names ++ name ∷ []) q ≡ (has_name names q || pointwise nat_eq name q)
has_name-push [] name q = or_swap (pointwise nat_eq name q) false
has_name-push (x ∷ xs) name q = ap (λ b. pointwise nat_eq x q || b) (has_name-push xs name q) ∙ or_assoc (pointwise nat_eq x q) (has_name xs q) (pointwise nat_eq name q)

-- the visited names are those of a list
abbrev AreVisited : NameSet → List Listed → Type 0
AreVisited visited given = (q : Name) → set.contains visited q ≡ has_name (map name_of given) q

visited-one : (visited : NameSet) (given : List Listed) (class : Listed) → AreVisited visited given → AreVisited (set.insert visited class.name) (given ++ class ∷ [])
visited-one visited given class before = λ q.
    contains-insert nat_list_cmp_total visited class.name q
    ∙ ap (λ b. b || set.contains visited q) (sym (texts_ties q class.name) ∙ nat_list_eq_equiv.symm q class.name)
    ∙ or_swap (pointwise nat_eq class.name q) (set.contains visited q)
    ∙ ap (λ b. b || pointwise nat_eq class.name q) (before q)
    ∙ sym (ap (λ l. has_name l q) (map-append name_of given (class ∷ [])) ∙ has_name-push (map name_of given) class.name q)

-- ---- what is to come

module _ {B C : Type 0} (test : Listed → Asking (Option B)) (view : Option B × List Listed → C) where
  abbrev on_hit : Option B → List Listed → Asking (Option B × List Listed) → Asking (Option B × List Listed)
  on_hit = hit_or name_of test direct

  -- of the classes that are left: the first is tested, and what it leads to is to be visited before the others
  abbrev pub onward_by : (NameSet → List Listed → List Listed → Asking (Option B × List Listed)) → NameSet → List Listed → List Listed → Asking (Option B × List Listed)
  onward_by deeper visited given [] = Return (None, given)
  onward_by deeper visited given (class ∷ rest) =
      bind (test class) (λ hit. on_hit hit (given ++ class ∷ []) (bind (direct class) (λ more. deeper (set.insert visited class.name) (given ++ class ∷ []) (more ++ rest))))

  -- what is to come from where a walk stands that gave some classes, where at most so many more classes are visited
  abbrev pub onward : ℕ → NameSet → List Listed → List Listed → Asking (Option B × List Listed)
  onward zero visited given to_visit = Return (None, given)
  onward (suc n) visited given to_visit = onward_by (onward n) visited given (left visited to_visit)

  abbrev pub viewed : Asking (Option B × List Listed) → Asking C
  viewed outcome = bind outcome (λ o. Return (view o))

  -- the same after some steps, where nothing bounds them
  abbrev pub to_come : ℕ → List Listed → Standing → Asking C
  to_come steps given standing = Unbounded (λ most. viewed (onward (most - steps) standing.0 given standing.1))

  -- it is the walk of the definition
  onward-walk : (n : ℕ) (visited : NameSet) (given to_visit : List Listed) → AreVisited visited given → onward n visited given to_visit ≡ walk name_of test direct n given to_visit
  onward-walk zero visited given to_visit are = refl
  onward-walk (suc n) visited given to_visit are =
      (λ i. onward_by (onward n) visited given (unvisited name_of (λ q. are q i) to_visit))
      ∙ at (λ class names. onward-walk n (set.insert visited class.name) (given ++ class ∷ []) names (visited-one visited given class are)) (unvisited name_of (has_name (map name_of given)) to_visit)
    where
      hits : (class : Listed) (rest : List Listed) → ((names : List Listed) → onward n (set.insert visited class.name) (given ++ class ∷ []) names ≡ walk name_of test direct n (given ++ class ∷ []) names) → (hit : Option B)
          → on_hit hit (given ++ class ∷ []) (bind (direct class) (λ more. onward n (set.insert visited class.name) (given ++ class ∷ []) (more ++ rest)))
          ≡ on_hit hit (given ++ class ∷ []) (bind (direct class) (λ more. walk name_of test direct n (given ++ class ∷ []) (more ++ rest)))
      hits class rest deeper (Some h) = refl
      hits class rest deeper None = λ i. bind (direct class) (λ more. deeper (more ++ rest) i)

      at : ((class : Listed) (names : List Listed) → onward n (set.insert visited class.name) (given ++ class ∷ []) names ≡ walk name_of test direct n (given ++ class ∷ []) names) → (names : List Listed)
          → onward_by (onward n) visited given names ≡ asking.visit name_of test direct (λ more_found still. walk name_of test direct n more_found still) given names
      at deeper [] = refl
      at deeper (class ∷ rest) = λ i. bind (test class) (λ hit. hits class rest (deeper class) hit i)

  -- ---- in a loop

  -- the beginning
  pub supertypes-begin : (class : Listed) → viewed (search_from test class) ≡ to_come 0 [] (set.empty, class ∷ [])
  supertypes-begin class = λ i. Unbounded (λ most. at most i)
    where
      at : (most : ℕ) → viewed (visit name_of test direct most most [] class) ≡ viewed (onward (most - 0) set.empty [] (class ∷ []))
      at most =
          ap viewed (visits-walk name_of test direct most most [] class (omega arith)
          ∙ sym (onward-walk (most - 0) set.empty [] (class ∷ []) (λ q. contains-empty (slice_cmp nat_cmp) q)))

  -- what is to come of a class that a step gave, behind its test
  abbrev pub behind_test : ℕ → List Listed → Listed → Standing → Option B → Asking C
  behind_test n given class standing hit = viewed (on_hit hit given (bind (direct class) (λ more. onward n standing.0 given (more ++ standing.1))))

  -- what is to come of it where it was no hit
  abbrev pub behind_class : ℕ → List Listed → Standing → List Listed → Asking C
  behind_class steps given standing more = to_come steps given (standing.0, more ++ standing.1)

  step-one : (n steps : ℕ) (given : List Listed) (old new : Standing) (class : Listed) → steps < n → (left old.0 old.1 ≡ class ∷ new.1) × (new.0 ≡ set.insert old.0 class.name)
      → viewed (onward (n - steps) old.0 given old.1) ≡ bind (test class) (behind_test (n - (steps + 1)) (given ++ class ∷ []) class new)
  step-one n steps given old new class below gives =
      let more : n - steps ≡ suc (n - (steps + 1)) = omega arith in
      ap (λ k. viewed (onward k old.0 given old.1)) more
      ∙ ap (λ names. viewed (onward_by (onward (n - (steps + 1))) old.0 given names)) gives.0
      ∙ bind-bind (test class) (λ hit. on_hit hit (given ++ class ∷ []) (bind (direct class) (λ more. onward (n - (steps + 1)) (set.insert old.0 class.name) (given ++ class ∷ []) (more ++ new.1)))) (λ o. Return (view o))
      ∙ ap (λ (visited : NameSet). bind (test class) (behind_test (n - (steps + 1)) (given ++ class ∷ []) class (visited, new.1))) (sym gives.1)

  step-none : (n steps : ℕ) (given : List Listed) (old : Standing) → steps < n → left old.0 old.1 ≡ [] → viewed (onward (n - steps) old.0 given old.1) ≡ Return (view (None, given))
  step-none n steps given old below none =
      let more : n - steps ≡ suc (n - (steps + 1)) = omega arith in
      ap (λ k. viewed (onward k old.0 given old.1)) more ∙ ap (λ names. viewed (onward_by (onward (n - (steps + 1))) old.0 given names)) none

  -- a class is given
  pub supertypes-turn : {K : Type 0} {m : Asking C} {t u : Told K} (steps : ℕ) (given : List Listed) (old new : Standing) (class : Listed) → steps < longest → Gives old new (Some class) → ComesTo m t (to_come steps given old) u
      → ComesTo m t (bind (test class) (λ hit. Unbounded (λ most. behind_test (most - (steps + 1)) (given ++ class ∷ []) class new hit))) u
  supertypes-turn steps given old new class below gives so_far =
      comes-deeper (test class) (λ most hit. behind_test (most - (steps + 1)) (given ++ class ∷ []) class new hit) (λ most far. step-one most steps given old new class (omega (arith, below, far)) gives) so_far

  missed-at : (n : ℕ) (given : List Listed) (class : Listed) (new : Standing) → behind_test n given class new None ≡ bind (direct class) (λ more. viewed (onward n new.0 given (more ++ new.1)))
  missed-at n given class new = bind-bind (direct class) (λ more. onward n new.0 given (more ++ new.1)) (λ o. Return (view o))

  -- it has no hit
  pub supertypes-missed : {K : Type 0} {m : Asking C} {t u : Told K} (steps : ℕ) (given : List Listed) (new : Standing) (class : Listed) → ComesTo m t (Unbounded (λ most. behind_test (most - (steps + 1)) given class new None)) u
      → ComesTo m t (bind (direct class) (behind_class (steps + 1) given new)) u
  supertypes-missed steps given new class so_far =
      comes-deeper (direct class) (λ most more. viewed (onward (most - (steps + 1)) new.0 given (more ++ new.1))) (λ most far. missed-at (most - (steps + 1)) given class new) so_far

  -- nothing is left
  pub supertypes-end : {K : Type 0} {m : Asking C} {t u : Told K} (steps : ℕ) (given : List Listed) (old new : Standing) → steps < longest → Gives old new None → ComesTo m t (to_come steps given old) u
      → ComesTo m t (Unbounded (λ most. Return (view (None, given)))) u
  supertypes-end steps given old new below none so_far =
      comes-deeper {A = Unit {0}} (Return (tt {0})) (λ most v. Return (view (None, given))) (λ most far. step-none most steps given old (omega (arith, below, far)) none) so_far
