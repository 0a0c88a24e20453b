use Rattle.std.proofs.Common.{◌≡◌, ◌++◌}
use Rattle.pj_names.proofs.class_name_set.keys_of.Given as goal

abbrev pub invariant-loop-key : goal.invariant-loop-key
invariant-loop-key l = l.names ++ l.key-iterator ≡ l.keys.keys
