-- The turns of a loop along supertypes by their names.
use Rattle.std.proofs.Common.{◌≡◌, ℕ, zero, suc, ◌+◌, ◌-◌, ◌<◌, Bool, true, false, ◌||◌, List, [], ◌∷◌, ◌++◌, map, Option, Some, None, nat_eq, refl, ap, sym, ◌∙◌, arith}
use Rattle.std.specs.Cmp.Lexicographic.{pointwise, slice_cmp, nat_list_cmp_total, nat_list_eq_equiv, texts_ties}
use Rattle.std.specs.Ordering.{nat_cmp}
use Rattle.std.specs.FinSet.{contains-empty, contains-insert}
use Rattle.std.specs.FinSet as set
use Rattle.std.proofs.lemmas.List.{map-append}
use Rattle.pj_names.specs.ClassName.{Name, NameSet}
use Rattle.pj_names.specs.Asking.{Asking, Return, Unbounded, bind, has_name, hit_or, unvisited, walk}
use Rattle.pj_names.specs.Asking as asking
use Rattle.pj_names.proofs.AskingLaws.{ComesTo, comes-deeper}
use Rattle.pj_names.proofs.MeaningLaws.{bind-bind}
use Rattle.pj_names.specs.Told.{Told, longest}
use Rattle.pj_types.specs.NameSearch.{itself, direct_names, names_within, name_search}
use Rattle.pj_types.specs.NameWalks.{Gives, NameStanding, left}
use Rattle.pj_types.proofs.DepthFirstLaws.{visits-walk}

-- ---- sets of visited names

or_swap : (a b : Bool) → (a || b) ≡ (b || a)
or_swap true true = refl
or_swap true false = refl
or_swap false true = refl
or_swap false false = refl

or_assoc : (a b c : Bool) → (a || (b || c)) ≡ ((a || b) || c)
or_assoc true b c = refl
or_assoc false b c = refl

has_name-push : (names : List Name) (name q : Name) → has_name (names ++ name ∷ []) q ≡ (has_name names q || pointwise nat_eq name q)
has_name-push [] name q = or_swap (pointwise nat_eq name q) false
has_name-push (x ∷ xs) name q = ap (λ b. pointwise nat_eq x q || b) (has_name-push xs name q) ∙ or_assoc (pointwise nat_eq x q) (has_name xs q) (pointwise nat_eq name q)

-- the visited names are those of a list
abbrev AreVisited : NameSet → List Name → Type 0
AreVisited visited given = (q : Name) → set.contains visited q ≡ has_name (map itself given) q

visited-one : (visited : NameSet) (given : List Name) (class : Name) → AreVisited visited given → AreVisited (set.insert visited class) (given ++ class ∷ [])
visited-one visited given class before = λ q.
    contains-insert nat_list_cmp_total visited class q
    ∙ ap (λ b. b || set.contains visited q) (sym (texts_ties q class) ∙ nat_list_eq_equiv.symm q class)
    ∙ or_swap (pointwise nat_eq class q) (set.contains visited q)
    ∙ ap (λ b. b || pointwise nat_eq class q) (before q)
    ∙ sym (ap (λ l. has_name l q) (map-append itself given (class ∷ [])) ∙ has_name-push (map itself given) class q)

-- ---- what is to come

module _ {B C : Type 0} (test : Name → Asking (Option B)) (view : Option B × List Name → C) where
  abbrev on_hit : Option B → List Name → Asking (Option B × List Name) → Asking (Option B × List Name)
  on_hit = hit_or itself test direct_names

  -- of the names that are left: the first is tested, and what it leads to is to be visited before the others
  abbrev pub onward_by : (NameSet → List Name → List Name → Asking (Option B × List Name)) → NameSet → List Name → List Name → Asking (Option B × List Name)
  onward_by deeper visited given [] = Return (None, given)
  onward_by deeper visited given (class ∷ rest) =
      bind (test class) (λ hit. on_hit hit (given ++ class ∷ []) (bind (direct_names class) (λ more. deeper (set.insert visited class) (given ++ class ∷ []) (more ++ rest))))

  -- what is to come from where a walk stands that gave some names, where at most so many more classes are visited
  abbrev pub onward : ℕ → NameSet → List Name → List Name → Asking (Option B × List Name)
  onward zero visited given to_visit = Return (None, given)
  onward (suc n) visited given to_visit = onward_by (onward n) visited given (left visited to_visit)

  abbrev pub viewed : Asking (Option B × List Name) → Asking C
  viewed outcome = bind outcome (λ o. Return (view o))

  -- the same after some steps, where nothing bounds them
  abbrev pub to_come : ℕ → List Name → NameStanding → Asking C
  to_come steps given standing = Unbounded (λ most. viewed (onward (most - steps) standing.0 given standing.1))

  -- it is the walk of the definition
  onward-walk : (n : ℕ) (visited : NameSet) (given to_visit : List Name) → AreVisited visited given → onward n visited given to_visit ≡ walk itself test direct_names n given to_visit
  onward-walk zero visited given to_visit are = refl
  onward-walk (suc n) visited given to_visit are =
      (λ i. onward_by (onward n) visited given (unvisited itself (λ q. are q i) to_visit))
      ∙ at (λ class names. onward-walk n (set.insert visited class) (given ++ class ∷ []) names (visited-one visited given class are)) (unvisited itself (has_name (map itself given)) to_visit)
    where
      hits : (class : Name) (rest : List Name) → ((names : List Name) → onward n (set.insert visited class) (given ++ class ∷ []) names ≡ walk itself test direct_names n (given ++ class ∷ []) names) → (hit : Option B)
          → on_hit hit (given ++ class ∷ []) (bind (direct_names class) (λ more. onward n (set.insert visited class) (given ++ class ∷ []) (more ++ rest)))
          ≡ on_hit hit (given ++ class ∷ []) (bind (direct_names class) (λ more. walk itself test direct_names n (given ++ class ∷ []) (more ++ rest)))
      hits class rest deeper (Some h) = refl
      hits class rest deeper None = λ i. bind (direct_names class) (λ more. deeper (more ++ rest) i)

      at : ((class : Name) (names : List Name) → onward n (set.insert visited class) (given ++ class ∷ []) names ≡ walk itself test direct_names n (given ++ class ∷ []) names) → (names : List Name)
          → onward_by (onward n) visited given names ≡ asking.visit itself test direct_names (λ more_found still. walk itself test direct_names n more_found still) given names
      at deeper [] = refl
      at deeper (class ∷ rest) = λ i. bind (test class) (λ hit. hits class rest (deeper class) hit i)

  -- ---- in a loop

  -- the beginning
  pub names-begin : (class : Name) → viewed (name_search test class) ≡ to_come 0 [] (set.empty, class ∷ [])
  names-begin class = λ i. Unbounded (λ most. at most i)
    where
      at : (most : ℕ) → viewed (names_within most test class) ≡ viewed (onward (most - 0) set.empty [] (class ∷ []))
      at most =
          ap viewed (visits-walk itself test direct_names most most [] class (omega arith)
          ∙ sym (onward-walk (most - 0) set.empty [] (class ∷ []) (λ q. contains-empty (slice_cmp nat_cmp) q)))

  -- what is to come of a class that a step gave, behind its test
  abbrev pub behind_test : ℕ → List Name → Name → NameStanding → Option B → Asking C
  behind_test n given class standing hit = viewed (on_hit hit given (bind (direct_names class) (λ more. onward n standing.0 given (more ++ standing.1))))

  -- what is to come of it where it was no hit
  abbrev pub behind_class : ℕ → List Name → NameStanding → List Name → Asking C
  behind_class steps given standing more = to_come steps given (standing.0, more ++ standing.1)

  step-one : (n steps : ℕ) (given : List Name) (old new : NameStanding) (class : Name) → steps < n → (left old.0 old.1 ≡ class ∷ new.1) × (new.0 ≡ set.insert old.0 class)
      → viewed (onward (n - steps) old.0 given old.1) ≡ bind (test class) (behind_test (n - (steps + 1)) (given ++ class ∷ []) class new)
  step-one n steps given old new class below gives =
      let more : n - steps ≡ suc (n - (steps + 1)) = omega arith in
      ap (λ k. viewed (onward k old.0 given old.1)) more
      ∙ ap (λ names. viewed (onward_by (onward (n - (steps + 1))) old.0 given names)) gives.0
      ∙ bind-bind (test class) (λ hit. on_hit hit (given ++ class ∷ []) (bind (direct_names class) (λ more. onward (n - (steps + 1)) (set.insert old.0 class) (given ++ class ∷ []) (more ++ new.1)))) (λ o. Return (view o))
      ∙ ap (λ (visited : NameSet). bind (test class) (behind_test (n - (steps + 1)) (given ++ class ∷ []) class (visited, new.1))) (sym gives.1)

  step-none : (n steps : ℕ) (given : List Name) (old : NameStanding) → steps < n → left old.0 old.1 ≡ [] → viewed (onward (n - steps) old.0 given old.1) ≡ Return (view (None, given))
  step-none n steps given old below none =
      let more : n - steps ≡ suc (n - (steps + 1)) = omega arith in
      ap (λ k. viewed (onward k old.0 given old.1)) more ∙ ap (λ names. viewed (onward_by (onward (n - (steps + 1))) old.0 given names)) none

  -- a class is given
  pub names-turn : {K : Type 0} {m : Asking C} {t u : Told K} (steps : ℕ) (given : List Name) (old new : NameStanding) (class : Name) → steps < longest → Gives old new (Some class) → ComesTo m t (to_come steps given old) u
      → ComesTo m t (bind (test class) (λ hit. Unbounded (λ most. behind_test (most - (steps + 1)) (given ++ class ∷ []) class new hit))) u
  names-turn steps given old new class below gives so_far =
      comes-deeper (test class) (λ most hit. behind_test (most - (steps + 1)) (given ++ class ∷ []) class new hit) (λ most far. step-one most steps given old new class (omega (arith, below, far)) gives) so_far

  missed-at : (n : ℕ) (given : List Name) (class : Name) (new : NameStanding) → behind_test n given class new None ≡ bind (direct_names class) (λ more. viewed (onward n new.0 given (more ++ new.1)))
  missed-at n given class new = bind-bind (direct_names class) (λ more. onward n new.0 given (more ++ new.1)) (λ o. Return (view o))

  -- it has no hit
  pub names-missed : {K : Type 0} {m : Asking C} {t u : Told K} (steps : ℕ) (given : List Name) (new : NameStanding) (class : Name) → ComesTo m t (Unbounded (λ most. behind_test (most - (steps + 1)) given class new None)) u
      → ComesTo m t (bind (direct_names class) (behind_class (steps + 1) given new)) u
  names-missed steps given new class so_far =
      comes-deeper (direct_names class) (λ most more. viewed (onward (most - (steps + 1)) new.0 given (more ++ new.1))) (λ most far. missed-at (most - (steps + 1)) given class new) so_far

  -- nothing is left
  pub names-end : {K : Type 0} {m : Asking C} {t u : Told K} (steps : ℕ) (given : List Name) (old new : NameStanding) → steps < longest → Gives old new None → ComesTo m t (to_come steps given old) u
      → ComesTo m t (Unbounded (λ most. Return (view (None, given)))) u
  names-end steps given old new below none so_far =
      comes-deeper {A = Unit {0}} (Return (tt {0})) (λ most v. Return (view (None, given))) (λ most far. step-none most steps given old (omega (arith, below, far)) none) so_far
