use Rattle.std.proofs.Common.{◌≡◌, ◌++◌}
use Rattle.pj_old_reading.proofs.named.listed_names.Given as goal

abbrev pub invariant-loop-name : goal.invariant-loop-name
invariant-loop-name l = l.list.items ++ l.name-iterator ≡ l.held.keys
