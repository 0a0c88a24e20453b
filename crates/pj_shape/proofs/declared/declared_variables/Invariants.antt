use Rattle.std.proofs.Common.{◌≡◌, ◌≤◌, ◌-◌, ℕ, List, drop, length}
use Rattle.std.specs.Prelude.{◌||◌}
use Rattle.pj_shape.specs.NameLists.{has_word, has_place}
use Rattle.pj_shape.specs.Marks.{variables_in}
use Rattle.pj_shape.proofs.declared.declared_variables.Given as goal

abbrev pub invariant-loop-number : goal.invariant-loop-number
invariant-loop-number l = record {
  within : l.number ≤ length l.nodes;
  found : (name : List ℕ) → (has_word name l.names.keys || has_place l.text l.tokens name (variables_in (drop l.number l.nodes))) ≡ has_place l.text l.tokens name (variables_in l.nodes);
}

abbrev pub decreases-loop-number : goal.decreases-loop-number
decreases-loop-number l = length l.nodes - l.number
