-- Loops that ask, one turn further.
use Rattle.std.specs.Prelude.{Bool, true, false, Option, Some, None, Result, Ok, Err, map, zip, if◌then◌else◌}
use Rattle.std.proofs.Common.{◌≡◌, ℕ, ◌<◌, ◌+◌, List, [], ◌∷◌, ◌++◌, length, get_or, drop, ap, refl, subst, sym, ◌≤◌}
use Rattle.std.proofs.Math.ListN.{drop_of_length-le}
use Rattle.pj_names.specs.declared.oracle.AskFault.{AskFault}
use Rattle.pj_names.specs.declared.oracle.AskFault.TheVariants.{Memory}
use Rattle.pj_names.specs.Asking.{Asking, Return, bind, first_hit, or_else}
use Rattle.pj_names.proofs.AskingLaws.{ComesTo, asks-refused, asks-return, asks-stop, comes-begin, comes-ends, comes-then}
use Rattle.pj_names.specs.Told.{Asks, Told}
use Rattle.pj_overload.specs.Testing.{all_of, filtered}
use Rattle.pj_overload.proofs.Turns.{all-turn, behind-turn, filtered-gather, filtered_behind, hit-turn, pair-end, pair-turn}

module _ {K X A : Type 0} (view : X → A) (xs : List X) (i : ℕ) (x : X) (below : i < length xs) (is : x ≡ get_or xs i x) {t u : Told K} where
  -- A test of all members.

  module _ (test : A → Asking Bool) {m : Asking Bool} (so_far : ComesTo m t (all_of test (map view (drop i xs))) u) where
    abbrev all-next : Bool → Asking Bool
    all-next holds = if holds then all_of test (map view (drop (i + 1) xs)) else Return false

    all-here : ComesTo m t (bind (test (view x)) all-next) u
    all-here = subst (λ n. ComesTo m t n u) (all-turn view xs i x below is test) so_far

    all-asked : {c : Told K} {b holds : Bool} → b ≡ holds → Asks (test (view x)) u c (Ok b) → ComesTo m t (all-next holds) c
    all-asked {c = c} same asked = comes-then all-next all-here (subst (λ b. Asks (test (view x)) u c (Ok b)) same asked)

    -- it holds of one more
    pub all-goes_on : {c : Told K} {b : Bool} → Asks (test (view x)) u c (Ok b) → b ≡ true → ComesTo m t (all_of test (map view (drop (i + 1) xs))) c
    all-goes_on asked holds = all-asked holds asked

    -- it does not hold
    pub all-fails : {c : Told K} {b : Bool} {r : Result Bool AskFault} → Asks (test (view x)) u c (Ok b) → b ≡ false → r ≡ Ok false → Asks m t c r
    all-fails asked fails returned = comes-ends (all-asked fails asked) (asks-return returned)

    pub all-refused : {c : Told K} {e : AskFault} {r : Result Bool AskFault} → Asks (test (view x)) u c (Err e) → r ≡ Err e → Asks m t c r
    all-refused asked returned = comes-ends all-here (asks-refused all-next asked returned)

  -- A test of the members of two lists at one place.

  module _ {Y B : Type 0} (seen : Y → B) (ys : List Y) (y : Y) (inside : i < length ys) (there : y ≡ get_or ys i y)
      (test : A × B → Asking Bool) {m : Asking Bool} (so_far : ComesTo m t (all_of test (zip (map view (drop i xs)) (map seen (drop i ys)))) u) where
    abbrev pair-next : Bool → Asking Bool
    pair-next holds = if holds then all_of test (zip (map view (drop (i + 1) xs)) (map seen (drop (i + 1) ys))) else Return false

    pair-here : ComesTo m t (bind (test (view x, seen y)) pair-next) u
    pair-here = subst (λ n. ComesTo m t n u) (pair-turn view xs i x below is seen ys y inside there test) so_far

    pair-asked : {c : Told K} {b holds : Bool} → b ≡ holds → Asks (test (view x, seen y)) u c (Ok b) → ComesTo m t (pair-next holds) c
    pair-asked {c = c} same asked = comes-then pair-next pair-here (subst (λ b. Asks (test (view x, seen y)) u c (Ok b)) same asked)

    pub pair-goes_on : {c : Told K} {b : Bool} → Asks (test (view x, seen y)) u c (Ok b) → b ≡ true → ComesTo m t (all_of test (zip (map view (drop (i + 1) xs)) (map seen (drop (i + 1) ys)))) c
    pair-goes_on asked holds = pair-asked holds asked

    pub pair-fails : {c : Told K} {b : Bool} {r : Result Bool AskFault} → Asks (test (view x, seen y)) u c (Ok b) → b ≡ false → r ≡ Ok false → Asks m t c r
    pair-fails asked fails returned = comes-ends (pair-asked fails asked) (asks-return returned)

    pub pair-refused : {c : Told K} {e : AskFault} {r : Result Bool AskFault} → Asks (test (view x, seen y)) u c (Err e) → r ≡ Err e → Asks m t c r
    pair-refused asked returned = comes-ends pair-here (asks-refused pair-next asked returned)

  -- A first hit.

  module _ {B : Type 0} (test : A → Asking (Option B)) {m : Asking (Option B)} (so_far : ComesTo m t (first_hit test (map view (drop i xs))) u) where
    abbrev hit-next : Option B → Asking (Option B)
    hit-next hit = or_else hit (first_hit test (map view (drop (i + 1) xs)))

    hit-here : ComesTo m t (bind (test (view x)) hit-next) u
    hit-here = subst (λ n. ComesTo m t n u) (hit-turn view xs i x below is test) so_far

    hit-asked : {c : Told K} {o hit : Option B} → o ≡ hit → Asks (test (view x)) u c (Ok o) → ComesTo m t (hit-next hit) c
    hit-asked {c = c} same asked = comes-then hit-next hit-here (subst (λ o. Asks (test (view x)) u c (Ok o)) same asked)

    -- it is no member more
    pub hit-goes_on : {c : Told K} {o : Option B} → Asks (test (view x)) u c (Ok o) → o ≡ None → ComesTo m t (first_hit test (map view (drop (i + 1) xs))) c
    hit-goes_on asked none = hit-asked none asked

    pub hit-found : {c : Told K} {o : Option B} {hit : B} {r : Result (Option B) AskFault} → Asks (test (view x)) u c (Ok o) → o ≡ Some hit → r ≡ Ok (Some hit) → Asks m t c r
    hit-found asked some returned = comes-ends (hit-asked some asked) (asks-return returned)

    pub hit-refused : {c : Told K} {e : AskFault} {r : Result (Option B) AskFault} → Asks (test (view x)) u c (Err e) → r ≡ Err e → Asks m t c r
    hit-refused asked returned = comes-ends hit-here (asks-refused hit-next asked returned)

  -- The members of which a test holds.

  module _ (test : A → Asking Bool) (front : List A) {m : Asking (List A)} (so_far : ComesTo m t (filtered_behind test front (map view (drop i xs))) u) where
    abbrev behind-next : Bool → Asking (List A)
    behind-next holds = filtered_behind test (if holds then front ++ view x ∷ [] else front) (map view (drop (i + 1) xs))

    behind-here : ComesTo m t (bind (test (view x)) behind-next) u
    behind-here = subst (λ n. ComesTo m t n u) (behind-turn view xs i x below is test front) so_far

    behind-asked : {c : Told K} {b holds : Bool} → b ≡ holds → Asks (test (view x)) u c (Ok b) → ComesTo m t (behind-next holds) c
    behind-asked {c = c} same asked = comes-then behind-next behind-here (subst (λ b. Asks (test (view x)) u c (Ok b)) same asked)

    pub behind-put : {c : Told K} {b : Bool} (now : List A) → Asks (test (view x)) u c (Ok b) → now ≡ (if b then front ++ view x ∷ [] else front) → ComesTo m t (filtered_behind test now (map view (drop (i + 1) xs))) c
    behind-put {c = c} now asked grown =
        subst (λ (l : List A). ComesTo m t (filtered_behind test l (map view (drop (i + 1) xs))) c) (sym grown) (behind-asked refl asked)

    -- want of memory behind a test
    pub behind-stops : {c : Told K} {b : Bool} {r : Result (List A) AskFault} → Asks (test (view x)) u c (Ok b) → r ≡ Err Memory → Asks m t c r
    behind-stops asked returned = comes-ends (behind-asked refl asked) (asks-stop returned)

    pub behind-refused : {c : Told K} {e : AskFault} {r : Result (List A) AskFault} → Asks (test (view x)) u c (Err e) → r ≡ Err e → Asks m t c r
    behind-refused asked returned = comes-ends behind-here (asks-refused behind-next asked returned)

-- The beginning of one that gathers.
pub behind-begin : {K X A : Type 0} (view : X → A) (xs items found : List X) (test : A → Asking Bool) {t : Told K} → found ≡ [] → items ≡ xs
    → ComesTo (filtered test (map view xs)) t (filtered_behind test (map view found) (map view items)) t
behind-begin {X = X} view xs items found test {t = t} none same =
    subst (λ (l : List X). ComesTo (filtered test (map view xs)) t (filtered_behind test (map view l) (map view items)) t) (sym none)
    (subst (λ (l : List X). ComesTo (filtered test (map view xs)) t (filtered_behind test [] (map view l)) t) (sym same)
    (subst (λ n. ComesTo (filtered test (map view xs)) t n t) (filtered-gather test (map view xs)) comes-begin))

-- The end of a loop.

pub all-over : {K X A : Type 0} (view : X → A) (xs : List X) (i : ℕ) (test : A → Asking Bool) {m : Asking Bool} {t u : Told K} {r : Result Bool AskFault} → length xs ≤ i
    → ComesTo m t (all_of test (map view (drop i xs))) u → r ≡ Ok true → Asks m t u r
all-over {X = X} view xs i test {m = m} {t = t} {u = u} over so_far returned =
    comes-ends (subst (λ n. ComesTo m t n u) (ap (λ (l : List X). all_of test (map view l)) (drop_of_length-le xs over)) so_far) (asks-return returned)

pub hit-over : {K X A B : Type 0} (view : X → A) (xs : List X) (i : ℕ) (test : A → Asking (Option B)) {m : Asking (Option B)} {t u : Told K} {r : Result (Option B) AskFault} → length xs ≤ i
    → ComesTo m t (first_hit test (map view (drop i xs))) u → r ≡ Ok None → Asks m t u r
hit-over {X = X} view xs i test {m = m} {t = t} {u = u} over so_far returned =
    comes-ends (subst (λ n. ComesTo m t n u) (ap (λ (l : List X). first_hit test (map view l)) (drop_of_length-le xs over)) so_far) (asks-return returned)

pub behind-over : {K X A : Type 0} (view : X → A) (xs : List X) (i : ℕ) (test : A → Asking Bool) (front : List A) {m : Asking (List A)} {t u : Told K} {r : Result (List A) AskFault} → length xs ≤ i
    → ComesTo m t (filtered_behind test front (map view (drop i xs))) u → r ≡ Ok front → Asks m t u r
behind-over {X = X} view xs i test front {m = m} {t = t} {u = u} over so_far returned =
    comes-ends (subst (λ n. ComesTo m t n u) (ap (λ (l : List X). filtered_behind test front (map view l)) (drop_of_length-le xs over)) so_far) (asks-return returned)

pub pair-over : {K X A Y B : Type 0} (view : X → A) (xs : List X) (seen : Y → B) (ys : List Y) (i : ℕ) (test : A × B → Asking Bool) {m : Asking Bool} {t u : Told K} {r : Result Bool AskFault} → length xs ≤ i
    → ComesTo m t (all_of test (zip (map view (drop i xs)) (map seen (drop i ys)))) u → r ≡ Ok true → Asks m t u r
pair-over {X = X} view xs seen ys i test {m = m} {t = t} {u = u} over so_far returned =
    comes-ends (subst (λ n. ComesTo m t n u) (ap (λ (l : List X). all_of test (zip (map view l) (map seen (drop i ys)))) (drop_of_length-le xs over)) so_far) (asks-return returned)

-- where the second list ends before the first
pub pair-past : {K X A Y B : Type 0} (view : X → A) (xs : List X) (seen : Y → B) (ys : List Y) (i : ℕ) (test : A × B → Asking Bool) {m : Asking Bool} {t u : Told K} {r : Result Bool AskFault} → length ys ≤ i
    → ComesTo m t (all_of test (zip (map view (drop i xs)) (map seen (drop i ys)))) u → r ≡ Ok true → Asks m t u r
pair-past view xs seen ys i test {m = m} {t = t} {u = u} over so_far returned =
    comes-ends (subst (λ n. ComesTo m t n u) (pair-end view seen xs ys i test over) so_far) (asks-return returned)
