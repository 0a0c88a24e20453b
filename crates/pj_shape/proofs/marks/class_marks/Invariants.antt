use Rattle.std.proofs.Common.{◌≤◌, length}
use Rattle.pj_shape.proofs.Marking.{words_in, Marked}
use Rattle.pj_shape.proofs.marks.class_marks.Given as goal

abbrev pub invariant-loop-left : goal.invariant-loop-left
invariant-loop-left l = record {
  within : l.left ≤ length l.nodes;
  state : Marked (words_in l.text l.tokens l.nodes) l.nodes l.left l.name l.from l.found.items;
}

abbrev pub decreases-loop-left : goal.decreases-loop-left
decreases-loop-left l = l.left
