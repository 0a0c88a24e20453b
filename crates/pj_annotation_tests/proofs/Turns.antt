-- A refusal at a member of a list that is gone through.
use Rattle.std.proofs.Common.{◌≡◌, ℕ, ◌<◌, ◌+◌, List, length, get_or, drop, Option, subst}
use Rattle.std.specs.Prelude.{Result, Err}
use Rattle.pj_names.specs.declared.oracle.AskFault.{AskFault}
use Rattle.pj_names.specs.Asking.{Asking, first_hit, or_else}
use Rattle.pj_names.proofs.AskingLaws.{ComesTo, asks-refused, comes-ends, left_from}
use Rattle.pj_names.specs.Told.{Asks, Told}

pub refused-at : {K A B : Type 0} (test : A → Asking (Option B)) (xs : List A) (i : ℕ) (x : A) {m : Asking (Option B)} {t u last : Told K} {e : AskFault} {r : Result (Option B) AskFault} → i < length xs
    → ComesTo m t (first_hit test (drop i xs)) u → Asks (test (get_or xs i x)) u last (Err e) → r ≡ Err e → Asks m t last r
refused-at test xs i x {m = m} {t = t} {u = u} below so_far asked returned =
    comes-ends (subst (λ l. ComesTo m t (first_hit test l) u) (left_from xs i x below) so_far) (asks-refused (λ hit. or_else hit (first_hit test (drop (i + 1) xs))) asked returned)
