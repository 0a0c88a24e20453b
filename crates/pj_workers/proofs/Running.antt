-- Meanings one after the other, as a loop works them out.
use Rattle.std.proofs.Common.{◌≡◌, ◌≤◌, ◌<◌, ◌+◌, ◌∙◌, ◌++◌, ℕ, zero, suc, List, [], ◌∷◌, Result, Ok, Err, add-one, ap, arith, drop, get_or, length, refl, subst, sym, take}
use Rattle.std.proofs.Math.Seq.{drop-nil}
use Rattle.std.specs.List.{AllZip}
use Rattle.pj_names.specs.Asking.{Asking, bind, each}
use Rattle.pj_names.specs.Told.{Asks, Told}
use Rattle.pj_names.specs.declared.oracle.AskFault.{AskFault}
use Rattle.pj_names.specs.declared.oracle.AskFault.TheVariants.{Memory}
use Rattle.pj_names.proofs.AskingLaws.{ComesTo, asks-refused, asks-return, asks-stop, asks-then, comes-begin, comes-ends, comes-then}
use Rattle.pj_names.proofs.MeaningLaws.{each-gather, gather}

-- ---- lists

pub zip_last : {X Y : Type 0} (R : X → Y → Type 0) (xs : List X) (ys : List Y) (x : X) (y : Y) → AllZip R xs ys → R x y → AllZip R (xs ++ x ∷ []) (ys ++ y ∷ [])
zip_last R [] [] x y h k = (k, tt)
zip_last R [] (b ∷ ys) x y h k = absurd h
zip_last R (a ∷ xs) [] x y h k = absurd h
zip_last R (a ∷ xs) (b ∷ ys) x y h k = (h.0, zip_last R xs ys x y h.1 k)

pub zip_length : {X Y : Type 0} (R : X → Y → Type 0) (xs : List X) (ys : List Y) → AllZip R xs ys → length ys ≡ length xs
zip_length R [] [] h = refl
zip_length R [] (b ∷ ys) h = absurd h
zip_length R (a ∷ xs) [] h = absurd h
zip_length R (a ∷ xs) (b ∷ ys) h = ap suc (zip_length R xs ys h.1)

-- This member of a list stands at a place.
pub record StandsAt {X : Type 0} (xs : List X) (i : ℕ) (x : X) : Type 0 where
  pub left : drop i xs ≡ x ∷ drop (suc i) xs
  pub taken : take (suc i) xs ≡ take i xs ++ x ∷ []

pub later : {X : Type 0} (x y : X) (xs : List X) (i : ℕ) → StandsAt xs i x → StandsAt (y ∷ xs) (suc i) x
later x y xs i at = record { left = at.left; taken = ap (λ l. y ∷ l) at.taken }

pub stands : {X : Type 0} (xs : List X) (i : ℕ) (x : X) → i < length xs → x ≡ get_or xs i x → StandsAt xs i x
stands [] i x below is = absurd (omega (arith, below))
stands (y ∷ xs) zero x below is = record { left = λ j. sym is j ∷ xs; taken = λ j. sym is j ∷ [] }
stands (y ∷ xs) (suc i) x below is = later x y xs i (stands xs i x (omega (arith, below)) is)

-- the member of the second list beside one of the first
pub beside : {X Y : Type 0} (R : X → Y → Type 0) (xs : List X) (ys : List Y) (i : ℕ) (x : X) → AllZip R xs ys → i < length xs → x ≡ get_or xs i x → (y : Y) × R x y × StandsAt ys i y
beside R [] ys i x h below is = absurd (omega (arith, below))
beside R (a ∷ xs) [] i x h below is = absurd h
beside R (a ∷ xs) (b ∷ ys) zero x h below is = (b, subst (λ z. R z b) (sym is) h.0, record { left = refl; taken = refl })
beside R (a ∷ xs) (b ∷ ys) (suc i) x h below is =
    let rest = beside R xs ys i x h.1 (omega (arith, below)) is in
    (rest.0, rest.1, later rest.0 b ys i rest.2)

pub past : {X : Type 0} (xs : List X) (i : ℕ) → length xs ≤ i → drop i xs ≡ []
past [] i far = drop-nil i
past (x ∷ xs) zero far = absurd (omega (arith, far))
past (x ∷ xs) (suc i) far = past xs i (omega (arith, far))

-- ---- turns

module _ {K X B : Type 0} (f : X → Asking B) (xs : List X) (t : Told K) where
  -- the values so far were worked out, and those from a place on are left
  abbrev pub AtTurn : List B → ℕ → Told K → Type 0
  AtTurn front i u = ComesTo (each f xs) t (gather f front (drop i xs)) u

  pub turn_begin : (front : List B) → front ≡ [] → AtTurn front 0 t
  turn_begin front none = subst (λ m. ComesTo (each f xs) t m t) (each-gather f xs ∙ ap (λ l. gather f l xs) (sym none)) comes-begin

  abbrev next_turn : List B → ℕ → B → Asking (List B)
  next_turn front i b = gather f (front ++ b ∷ []) (drop (suc i) xs)

  at_one : (front : List B) (i : ℕ) (x : X) (u : Told K) → StandsAt xs i x → AtTurn front i u → ComesTo (each f xs) t (bind (f x) (next_turn front i)) u
  at_one front i x u at so_far = subst (λ l. ComesTo (each f xs) t (gather f front l) u) at.left so_far

  pub turn_then : (front more : List B) (i : ℕ) (x : X) (b : B) (u v : Told K) → StandsAt xs i x → AtTurn front i u → Asks (f x) u v (Ok b) → front ++ b ∷ [] ≡ more → AtTurn more (i + 1) v
  turn_then front more i x b u v at so_far asks grown =
      rw (add-one) (subst (λ l. ComesTo (each f xs) t (gather f l (drop (suc i) xs)) v) grown (comes-then (next_turn front i) (at_one front i x u at so_far) asks))

  pub turn_refused : (front : List B) (i : ℕ) (x : X) (e : AskFault) (u v : Told K) (r : Result (List B) AskFault) → StandsAt xs i x → AtTurn front i u → Asks (f x) u v (Err e) → r ≡ Err e → Asks (each f xs) t v r
  turn_refused front i x e u v r at so_far asks is = comes-ends (at_one front i x u at so_far) (asks-refused (next_turn front i) asks is)

  pub turn_stops : (front : List B) (i : ℕ) (x : X) (b : B) (u v : Told K) (r : Result (List B) AskFault) → StandsAt xs i x → AtTurn front i u → Asks (f x) u v (Ok b) → r ≡ Err Memory → Asks (each f xs) t v r
  turn_stops front i x b u v r at so_far asks is = comes-ends (at_one front i x u at so_far) (asks-then (next_turn front i) asks (asks-stop is))

  pub turn_ends : (front : List B) (i : ℕ) (u : Told K) (r : Result (List B) AskFault) → length xs ≤ i → AtTurn front i u → r ≡ Ok front → Asks (each f xs) t u r
  turn_ends front i u r far so_far is = comes-ends (subst (λ l. ComesTo (each f xs) t (gather f front l) u) (past xs i far) so_far) (asks-return is)
