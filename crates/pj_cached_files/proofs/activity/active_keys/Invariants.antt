use Rattle.std.proofs.Common.{◌≡◌, ◌++◌, drop}
use Rattle.pj_left_cache.specs.Missing.{keys_of_active}
use Rattle.pj_cached_files.proofs.activity.active_keys.Given as goal

abbrev pub invariant-loop-i : goal.invariant-loop-i
invariant-loop-i l = l.active ++ keys_of_active (drop l.i l.keys) (drop l.i l.is_active) ≡ keys_of_active l.keys l.is_active
