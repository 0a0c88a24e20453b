use Rattle.std.proofs.Common.{◌≡◌, length, reverse}
use Rattle.pj_members.specs.SupertypeWalks.{all_supertypes, left}
use Rattle.pj_members.proofs.supertype_walk.take_unvisited.Given as goal

abbrev pub invariant-loop-class : goal.invariant-loop-class
invariant-loop-class l = left l.visited (all_supertypes (reverse l.to_visit.items)) ≡ left l.visited (all_supertypes (reverse l.fn.to_visit.items))

abbrev pub decreases-loop-class : goal.decreases-loop-class
decreases-loop-class l = length l.to_visit.items
