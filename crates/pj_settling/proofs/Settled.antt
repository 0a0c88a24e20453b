-- What meanings that come to something over a world are made of.
use Rattle.std.specs.Prelude.{◌≡◌, Bool, true, false, if◌then◌else◌, List, [], ◌∷◌, Option, Some, None, refl}
use Rattle.pj_names.specs.Asking.{Asking, Return, ask, bind, each, first_hit, look_up, or_else}
use Rattle.pj_names.specs.ClassName.{Name, is_object}
use Rattle.pj_settling.specs.Settling.{Settles, World}
use Rattle.pj_settling.proofs.Comes.{Comes, always, comes_bind, comes_return, comes_settled, settled_comes}

-- a value
pub given : {world : World} {A : Type 0} (value : A) → Settles world (Return value)
given {world} value = settled_comes world (Return value) value (comes_return world value)

-- one after the other
pub after : {world : World} {A B : Type 0} {m : Asking A} {k : A → Asking B} → Settles world m → ((value : A) → Settles world (k value)) → Settles world (bind m k)
after {world} {m = m} {k = k} first next =
    let last = next first.value in
    settled_comes world (bind m k) last.value
    (comes_bind world (always m) (λ most deep value. k value) first.value last.value (comes_settled world m first) (comes_settled world (k first.value) last))

-- and a value that is made of the first one's
pub made_by : {world : World} {A B : Type 0} {m : Asking A} (f : A → B) → Settles world m → Settles world (bind m (λ value. Return (f value)))
made_by {world} {m = m} f first = after {m = m} {k = λ value. Return (f value)} first (λ value. given (f value))

-- one name asked
pub asked_comes : {world : World} (name : Name) → Comes world (always (ask name)) (world name)
asked_comes name = record { names = name ∷ []; least = 0; is = λ depth most deep a b c. (refl, refl) }

pub asked : {world : World} (name : Name) → Settles world (ask name)
asked {world} name = settled_comes world (ask name) (world name) (asked_comes name)

pub by_test : {world : World} {A : Type 0} (b : Bool) {m n : Asking A} → Settles world m → Settles world n → Settles world (if b then m else n)
by_test true h k = h
by_test false h k = k

pub looked_up : {world : World} (name : Name) → Settles world (look_up name)
looked_up name = by_test (is_object name) {m = Return None} {n = bind (ask name) (λ answer. Return (Some answer))} (given None) (made_by {m = ask name} (λ answer. Some answer) (asked name))

-- the members of a list
pub for_each : {world : World} {A B : Type 0} {m : A → Asking B} → ((x : A) → Settles world (m x)) → (xs : List A) → Settles world (each m xs)
for_each h [] = given []
for_each {m = m} h (x ∷ xs) =
    after {m = m x} {k = λ value. bind (each m xs) (λ values. Return (value ∷ values))} (h x)
    (λ value. made_by {m = each m xs} (λ values. value ∷ values) (for_each {m = m} h xs))

pub or_rest : {world : World} {A : Type 0} (hit : Option A) {rest : Asking (Option A)} → Settles world rest → Settles world (or_else hit rest)
or_rest (Some hit) h = given (Some hit)
or_rest None h = h

pub first_of : {world : World} {A B : Type 0} {m : A → Asking (Option B)} → ((x : A) → Settles world (m x)) → (xs : List A) → Settles world (first_hit m xs)
first_of h [] = given None
first_of {m = m} h (x ∷ xs) = after {m = m x} {k = λ hit. or_else hit (first_hit m xs)} (h x) (λ hit. or_rest hit (first_of {m = m} h xs))
