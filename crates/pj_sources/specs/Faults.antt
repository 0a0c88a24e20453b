-- The tree's faults rise exactly with `Failed`.
use Rattle.std.specs.Prelude.{◌≡◌, ℕ, Result, Ok, Err}
use Rattle.pj_outside.specs.Faults.{Rises}
use Rattle.pj_sources.specs.declared.refused.ListRefused.{ListRefused}
use Rattle.pj_sources.specs.declared.refused.ListRefused.TheVariants as unlisted
use Rattle.pj_sources.specs.declared.refused.ReadRefused.{ReadRefused}
use Rattle.pj_sources.specs.declared.refused.ReadRefused.TheVariants as unread

abbrev pub CountsListFaults : {A : Type 0} → ℕ → ℕ → Result A ListRefused → Type 0
CountsListFaults old new (Ok a) = new ≡ old
CountsListFaults old new (Err unlisted.Failed) = Rises old new
CountsListFaults old new (Err (unlisted.Missing item)) = new ≡ old
CountsListFaults old new (Err unlisted.Memory) = new ≡ old

abbrev pub CountsReadFaults : {A : Type 0} → ℕ → ℕ → Result A ReadRefused → Type 0
CountsReadFaults old new (Ok a) = new ≡ old
CountsReadFaults old new (Err unread.Failed) = Rises old new
CountsReadFaults old new (Err (unread.Missing path)) = new ≡ old
CountsReadFaults old new (Err (unread.Limit kind)) = new ≡ old
CountsReadFaults old new (Err unread.Memory) = new ≡ old
