use Rattle.std.proofs.Common.{◌≡◌, ◌++◌}
use Rattle.pj_cache_format.proofs.named.listed_keys.Given as goal

abbrev pub invariant-loop-key : goal.invariant-loop-key
invariant-loop-key l = l.list.items ++ l.key-iterator ≡ l.held.keys
