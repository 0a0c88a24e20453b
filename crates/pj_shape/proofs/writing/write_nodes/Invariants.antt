use Rattle.std.proofs.Common.{◌+◌, ◌*◌, ◌-◌, ◌≤◌, length}
use Rattle.std.specs.List.{fold}
use Rattle.pj_tree.specs.Building.{after_call}
use Rattle.pj_tree.specs.Nested.{calls_of}
use Rattle.pj_shape.specs.Typed.{Words, typed}
use Rattle.pj_shape.specs.ShapedTree.{roots_of}
use Rattle.pj_shape.specs.Writing.{Root, IsRoot, root_of}
use Rattle.pj_shape.proofs.WriteNodes.{Writing}
use Rattle.std.proofs.Common.{None}
use Rattle.pj_shape.proofs.writing.write_nodes.Given as goal

abbrev pub invariant-loop-top : goal.invariant-loop-top
invariant-loop-top l = record {
  within : l.next ≤ length l.nodes;
  each : (w : Words) (r : Root) → IsRoot w r l.nodes l.marked →
      Writing l.text l.tokens w l.nodes l.marked (fold after_call l.fn.builder (calls_of (roots_of l.text l.tokens (typed w None (root_of r))))) l.builder l.next l.at l.around l.stack.items;
}

abbrev pub decreases-loop-top : goal.decreases-loop-top
decreases-loop-top l = 2 * (length l.nodes - l.next) + length l.stack.items
