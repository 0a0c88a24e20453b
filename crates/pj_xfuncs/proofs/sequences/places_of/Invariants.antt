use Rattle.std.proofs.Common.{◌≡◌, ◌+◌, ◌++◌, drop}
use Rattle.pj_xvalue.specs.Items.{value_of_item, values_of}
use Rattle.pj_xfuncs.specs.Sequences.{places_from}
use Rattle.pj_xfuncs.proofs.sequences.places_of.Given as goal

abbrev pub invariant-loop-i : goal.invariant-loop-i
invariant-loop-i l = values_of l.places ++ places_from (value_of_item l.sought) (l.i + 1) (values_of (drop l.i l.items)) ≡ places_from (value_of_item l.sought) 1 (values_of l.items)
