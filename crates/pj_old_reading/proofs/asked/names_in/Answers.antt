use Rattle.std.proofs.Common.{◌≡◌, List, ℕ, subst}
use Rattle.std.specs.Prelude.{IfOk}
use Rattle.pj_cache_reading.proofs.Same.{names_seen}
use Rattle.pj_old_reading.proofs.asked.names_in.Goals as goal

pub returns : goal.returns
returns c =
    subst (λ (names : List (List ℕ)). IfOk c.names_shared.result (λ made. made.items ≡ names))
    (names_seen (λ a. a.0) (λ a. a.1.value) c.as_slice.result.now c.args.answers.now c.as_slice.ensures) c.names_shared.ensures
