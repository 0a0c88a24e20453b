use Rattle.std.proofs.Common.{◌≡◌, ◌++◌, [], drop, take}
use Rattle.std.specs.List.{list_any}
use Rattle.pj_xvalue.specs.Items.{ItemValue, value_of_item, values_of}
use Rattle.pj_xfuncs.specs.Seen.{has}
use Rattle.pj_xfuncs.specs.Sequences.{first_occurrences, same}
use Rattle.pj_xfuncs.proofs.sequences.first_occurrences.Given as goal

abbrev pub invariant-loop-i : goal.invariant-loop-i
invariant-loop-i l = record {
  kept : values_of l.kept ++ first_occurrences (values_of (take l.i l.items)) (values_of (drop l.i l.items)) ≡ first_occurrences [] (values_of l.items);
  seen : (value : ItemValue) → has l.seen value ≡ list_any (λ other. same value (value_of_item other)) (take l.i l.items);
}
