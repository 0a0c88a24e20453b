-- The turns of a loop along supertypes by their names, that looks for the first member class that is there.
use Rattle.std.proofs.Common.{◌≡◌, ℕ, zero, suc, ◌+◌, ◌-◌, ◌<◌, Bool, true, false, ◌||◌, List, [], ◌∷◌, ◌++◌, map, Option, Some, None, nat_eq, refl, ap, sym, ◌∙◌, arith}
use Rattle.std.specs.Cmp.Lexicographic.{pointwise, slice_cmp, nat_list_cmp_total, nat_list_eq_equiv, texts_ties}
use Rattle.std.specs.Ordering.{nat_cmp}
use Rattle.std.specs.FinSet.{contains-empty, contains-insert}
use Rattle.std.specs.FinSet as set
use Rattle.std.proofs.lemmas.List.{map-append}
use Rattle.pj_names.specs.ClassName.{Name, NameSet}
use Rattle.pj_names.specs.Asking.{Asking, Return, Unbounded, bind, has_name, or_else, unvisited, walk}
use Rattle.pj_names.specs.Asking as asking
use Rattle.pj_names.proofs.AskingLaws.{ComesTo, comes-deeper}
use Rattle.pj_names.proofs.MeaningLaws.{bind-bind}
use Rattle.pj_names.specs.Told.{Told, longest}
use Rattle.pj_types.specs.DepthFirst.{visit}
use Rattle.pj_types.specs.NameSearch.{itself}
use Rattle.pj_types.specs.NameWalks.{Gives, NameStanding, left}
use Rattle.pj_types.proofs.DepthFirstLaws.{visits-walk}

-- ---- sets of visited names

or_swap : (a b : Bool) → (a || b) ≡ (b || a)
or_swap true true = refl
or_swap true false = refl
or_swap false true = refl
or_swap false false = refl

or_assoc : (a b c : Bool) → (a || (b || c)) ≡ ((a || b) || c)
or_assoc true b c = refl
or_assoc false b c = refl

has_name-push : (names : List Name) (name q : Name) → has_name (names ++ name ∷ []) q ≡ (has_name names q || pointwise nat_eq name q)
has_name-push [] name q = or_swap (pointwise nat_eq name q) false
has_name-push (x ∷ xs) name q = ap (λ b. pointwise nat_eq x q || b) (has_name-push xs name q) ∙ or_assoc (pointwise nat_eq x q) (has_name xs q) (pointwise nat_eq name q)

-- the visited names are those of a list
abbrev AreVisited : NameSet → List Name → Type 0
AreVisited visited given = (q : Name) → set.contains visited q ≡ has_name (map itself given) q

visited-one : (visited : NameSet) (given : List Name) (class : Name) → AreVisited visited given → AreVisited (set.insert visited class) (given ++ class ∷ [])
visited-one visited given class before = λ q.
    contains-insert nat_list_cmp_total visited class q
    ∙ ap (λ b. b || set.contains visited q) (sym (texts_ties q class) ∙ nat_list_eq_equiv.symm q class)
    ∙ or_swap (pointwise nat_eq class q) (set.contains visited q)
    ∙ ap (λ b. b || pointwise nat_eq class q) (before q)
    ∙ sym (ap (λ l. has_name l q) (map-append itself given (class ∷ [])) ∙ has_name-push (map itself given) class q)

-- ---- what is to come

module _ (test : Name → Asking (Option Name)) (supers : Name → Asking (List Name)) where
  -- of the names that are left: the first is tested, and what it leads to is to be visited before the others
  abbrev pub onward_by : (NameSet → List Name → Asking (Option Name)) → NameSet → List Name → Asking (Option Name)
  onward_by deeper visited [] = Return None
  onward_by deeper visited (class ∷ rest) = bind (test class) (λ hit. or_else hit (bind (supers class) (λ more. deeper (set.insert visited class) (more ++ rest))))

  -- what is to come from where a walk stands, where at most so many more classes are visited
  abbrev pub onward : ℕ → NameSet → List Name → Asking (Option Name)
  onward zero visited to_visit = Return None
  onward (suc n) visited to_visit = onward_by (onward n) visited (left visited to_visit)

  -- the same after some steps, where nothing bounds them
  abbrev pub to_come : ℕ → NameStanding → Asking (Option Name)
  to_come steps standing = Unbounded (λ most. onward (most - steps) standing.0 standing.1)

  -- it is the walk of the definition
  onward-walk : (n : ℕ) (visited : NameSet) (given to_visit : List Name) → AreVisited visited given → onward n visited to_visit ≡ bind (walk itself test supers n given to_visit) (λ o. Return o.0)
  onward-walk zero visited given to_visit are = refl
  onward-walk (suc n) visited given to_visit are =
      (λ i. onward_by (onward n) visited (unvisited itself (λ q. are q i) to_visit))
      ∙ at (λ class names. onward-walk n (set.insert visited class) (given ++ class ∷ []) names (visited-one visited given class are)) (unvisited itself (has_name (map itself given)) to_visit)
    where
      hits : (class : Name) (rest : List Name) → ((names : List Name) → onward n (set.insert visited class) names ≡ bind (walk itself test supers n (given ++ class ∷ []) names) (λ o. Return o.0)) → (hit : Option Name)
          → or_else hit (bind (supers class) (λ more. onward n (set.insert visited class) (more ++ rest)))
          ≡ bind (asking.hit_or itself test supers hit (given ++ class ∷ []) (bind (supers class) (λ more. walk itself test supers n (given ++ class ∷ []) (more ++ rest)))) (λ o. Return o.0)
      hits class rest deeper (Some h) = refl
      hits class rest deeper None =
          (λ i. bind (supers class) (λ more. deeper (more ++ rest) i)) ∙ sym (bind-bind (supers class) (λ more. walk itself test supers n (given ++ class ∷ []) (more ++ rest)) (λ o. Return o.0))

      at : ((class : Name) (names : List Name) → onward n (set.insert visited class) names ≡ bind (walk itself test supers n (given ++ class ∷ []) names) (λ o. Return o.0)) → (names : List Name)
          → onward_by (onward n) visited names ≡ bind (asking.visit itself test supers (λ more_found still. walk itself test supers n more_found still) given names) (λ o. Return o.0)
      at deeper [] = refl
      at deeper (class ∷ rest) =
          (λ i. bind (test class) (λ hit. hits class rest (deeper class) hit i))
          ∙ sym (bind-bind (test class) (λ hit. asking.hit_or itself test supers hit (given ++ class ∷ []) (bind (supers class) (λ more. walk itself test supers n (given ++ class ∷ []) (more ++ rest)))) (λ o. Return o.0))

  -- ---- in a loop

  -- the beginning
  pub names-begin : (class : Name) → Unbounded (λ most. bind (visit itself test supers most most [] class) (λ o. Return o.0)) ≡ to_come 0 (set.empty, class ∷ [])
  names-begin class = λ i. Unbounded (λ most. at most i)
    where
      at : (most : ℕ) → bind (visit itself test supers most most [] class) (λ o. Return o.0) ≡ onward (most - 0) set.empty (class ∷ [])
      at most =
          ap (λ (m : Asking (Option Name × List Name)). bind m (λ o. Return o.0)) (visits-walk itself test supers most most [] class (omega arith))
          ∙ sym (onward-walk (most - 0) set.empty [] (class ∷ []) (λ q. contains-empty (slice_cmp nat_cmp) q))

  -- what is to come of a class that a step gave, behind its test
  abbrev pub behind_test : ℕ → Name → NameStanding → Option Name → Asking (Option Name)
  behind_test n class standing hit = or_else hit (bind (supers class) (λ more. onward n standing.0 (more ++ standing.1)))

  step-one : (n steps : ℕ) (old new : NameStanding) (class : Name) → steps < n → (left old.0 old.1 ≡ class ∷ new.1) × (new.0 ≡ set.insert old.0 class)
      → onward (n - steps) old.0 old.1 ≡ bind (test class) (behind_test (n - (steps + 1)) class new)
  step-one n steps old new class below given =
      let more : n - steps ≡ suc (n - (steps + 1)) = omega arith in
      ap (λ k. onward k old.0 old.1) more
      ∙ ap (λ names. onward_by (onward (n - (steps + 1))) old.0 names) given.0
      ∙ ap (λ (visited : NameSet). bind (test class) (behind_test (n - (steps + 1)) class (visited, new.1))) (sym given.1)

  step-none : (n steps : ℕ) (old : NameStanding) → steps < n → left old.0 old.1 ≡ [] → onward (n - steps) old.0 old.1 ≡ Return None
  step-none n steps old below none =
      let more : n - steps ≡ suc (n - (steps + 1)) = omega arith in
      ap (λ k. onward k old.0 old.1) more ∙ ap (λ names. onward_by (onward (n - (steps + 1))) old.0 names) none

  -- a class is given
  pub names-turn : {K : Type 0} {m : Asking (Option Name)} {t u : Told K} (steps : ℕ) (old new : NameStanding) (class : Name) → steps < longest → Gives old new (Some class) → ComesTo m t (to_come steps old) u
      → ComesTo m t (bind (test class) (λ hit. Unbounded (λ most. behind_test (most - (steps + 1)) class new hit))) u
  names-turn steps old new class below given so_far =
      comes-deeper (test class) (λ most hit. behind_test (most - (steps + 1)) class new hit) (λ most far. step-one most steps old new class (omega (arith, below, far)) given) so_far

  -- it has no hit
  pub names-missed : {K : Type 0} {m : Asking (Option Name)} {t u : Told K} (steps : ℕ) (new : NameStanding) (class : Name) → ComesTo m t (Unbounded (λ most. behind_test (most - (steps + 1)) class new None)) u
      → ComesTo m t (bind (supers class) (λ more. to_come (steps + 1) (new.0, more ++ new.1))) u
  names-missed steps new class so_far = comes-deeper (supers class) (λ most more. onward (most - (steps + 1)) new.0 (more ++ new.1)) (λ most far. refl) so_far

  -- nothing is left
  pub names-end : {K : Type 0} {m : Asking (Option Name)} {t u : Told K} (steps : ℕ) (old new : NameStanding) → steps < longest → Gives old new None → ComesTo m t (to_come steps old) u
      → ComesTo m t (Unbounded (λ most. Return None)) u
  names-end steps old new below none so_far =
      comes-deeper {A = Unit {0}} (Return (tt {0})) (λ most v. Return None) (λ most far. step-none most steps old (omega (arith, below, far)) none) so_far
