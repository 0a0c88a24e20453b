use Rattle.std.proofs.Common.{map, drop, length, ◌≤◌}
use Rattle.pj_peg_grammar.specs.Form.{form_of, seq_all, choice_all}
use Rattle.pj_peg_grammar.specs.Program.{AddsForm}
use Rattle.pj_peg_grammar.proofs.compile.+add_items.Given as goal

abbrev pub invariant-add_choice-loop-left : goal.invariant-add_choice-loop-left
invariant-add_choice-loop-left l = record {
  within : l.left ≤ length l.parts;
  adds : AddsForm l.fn.nodes.items l.nodes.items l.fn.stars.items l.stars.items l.others (choice_all (map form_of (drop l.left l.parts)));
}

abbrev pub decreases-add_choice-loop-left : goal.decreases-add_choice-loop-left
decreases-add_choice-loop-left l = l.left

abbrev pub invariant-add_sequence-loop-left : goal.invariant-add_sequence-loop-left
invariant-add_sequence-loop-left l = record {
  within : l.left ≤ length l.parts;
  adds : AddsForm l.fn.nodes.items l.nodes.items l.fn.stars.items l.stars.items l.rest (seq_all (map form_of (drop l.left l.parts)));
}

abbrev pub decreases-add_sequence-loop-left : goal.decreases-add_sequence-loop-left
decreases-add_sequence-loop-left l = l.left
