use Rattle.std.proofs.Common.{◌≡◌, ◌≤◌, length, take}
use Rattle.std.specs.FinSet as set
use Rattle.pj_types.proofs.Steps.{left}
use Rattle.pj_types.proofs.walk.next_place.Given as goal

abbrev pub invariant-loop-end : goal.invariant-loop-end
invariant-loop-end l = record {
  within : l.end ≤ length l.to_visit;
  same : left (set.contains l.visited) l.to_visit ≡ left (set.contains l.visited) (take l.end l.to_visit);
}

abbrev pub decreases-loop-end : goal.decreases-loop-end
decreases-loop-end l = l.end
