-- Variables taken back.
use Rattle.std.proofs.Common.{◌≡◌, ℕ, ◌+◌}
use Rattle.std.proofs.lemmas.List.{drop-drop}
use Rattle.pj_xframes.specs.Scopes.{Scoped, without}

pub without-more : (count : ℕ) (s : Scoped) → without 1 (without count s) ≡ without (count + 1) s
without-more count s = λ i. record { bound = drop-drop 1 count s.bound i; given = s.given }
