use Rattle.std.proofs.Common.{◌≡◌, length}
use Rattle.pj_xparse.specs.Bound.{names_of, IsCounted}
use Rattle.pj_xparse.specs.NameFaults.{first_fault_from, first_fault}
use Rattle.pj_xreadings.specs.Seen.{seen_mentions}
use Rattle.pj_xparse.proofs.named.first_fault.Given as goal

abbrev pub invariant-mentions : goal.invariant-mentions
invariant-mentions l = record {
  rest : first_fault_from (record { given = l.variables; bound = names_of l.bound }) (seen_mentions l.left.items) ≡ first_fault l.variables (seen_mentions l.initial.left.items);
  counts : IsCounted l.bound;
}

abbrev pub decreases-mentions : goal.decreases-mentions
decreases-mentions l = length l.left.items
