use Rattle.std.proofs.Common.{◌≡◌, drop}
use Rattle.std.specs.FinSet as set
use Rattle.pj_names.specs.Told.{with_names}
use Rattle.pj_workers.specs.Views.{all_names}
use Rattle.pj_workers.proofs.names.names_together.Given as goal

abbrev pub invariant-loop-run : goal.invariant-loop-run
invariant-loop-run l = with_names l.noted (all_names (drop l.run-index l.runs)) ≡ with_names set.empty (all_names l.runs)
