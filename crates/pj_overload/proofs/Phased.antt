-- A first hit, and what follows from it, one turn further.
use Rattle.std.specs.Prelude.{Option, Some, None, Result, Ok, Err}
use Rattle.std.proofs.Common.{◌≡◌, List, ◌∷◌, subst}
use Rattle.pj_names.specs.declared.oracle.AskFault.{AskFault}
use Rattle.pj_names.specs.Asking.{Asking, Return, bind, first_hit, or_else}
use Rattle.pj_names.proofs.AskingLaws.{ComesTo, asks-refused, asks-return, comes-ends, comes-then}
use Rattle.pj_names.proofs.MeaningLaws.{bind-bind}
use Rattle.pj_names.specs.Told.{Asks, Told}

module _ {K X B C : Type 0} (find : X → Asking (Option B)) (x : X) (xs : List X) (view : Option B → C) {m : Asking C} {t u : Told K}
    (so_far : ComesTo m t (bind (first_hit find (x ∷ xs)) (λ found. Return (view found))) u) where
  abbrev next : Option B → Asking C
  next hit = bind (or_else hit (first_hit find xs)) (λ found. Return (view found))

  here : ComesTo m t (bind (find x) next) u
  here = subst (λ n. ComesTo m t n u) (bind-bind (find x) (λ hit. or_else hit (first_hit find xs)) (λ found. Return (view found))) so_far

  asked_one : {c : Told K} {o hit : Option B} → o ≡ hit → Asks (find x) u c (Ok o) → ComesTo m t (next hit) c
  asked_one {c = c} same asked = comes-then next here (subst (λ o. Asks (find x) u c (Ok o)) same asked)

  -- it is no hit
  pub none-here : {c : Told K} {o : Option B} → Asks (find x) u c (Ok o) → o ≡ None → ComesTo m t (bind (first_hit find xs) (λ found. Return (view found))) c
  none-here asked none = asked_one none asked

  pub some-here : {c : Told K} {o : Option B} {hit : B} {r : Result C AskFault} → Asks (find x) u c (Ok o) → o ≡ Some hit → r ≡ Ok (view (Some hit)) → Asks m t c r
  some-here asked some returned = comes-ends (asked_one some asked) (asks-return returned)

  pub refused-here : {c : Told K} {e : AskFault} {r : Result C AskFault} → Asks (find x) u c (Err e) → r ≡ Err e → Asks m t c r
  refused-here asked returned = comes-ends here (asks-refused next asked returned)
