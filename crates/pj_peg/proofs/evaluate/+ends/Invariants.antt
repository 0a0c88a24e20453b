use Rattle.std.proofs.Common.{◌*◌, ◌+◌, ◌<◌, ◌≤◌, length}
use Rattle.pj_peg_grammar.specs.Form.{star}
use Rattle.pj_peg_grammar.specs.Program.{form_at, forms_in}
use Rattle.pj_peg.specs.Plan.{IsSound}
use Rattle.pj_peg.proofs.Going.{IsOn}
use Rattle.pj_peg.proofs.evaluate.+ends.Given as goal

abbrev pub invariant-end_of-loop-kind : goal.invariant-end_of-loop-kind
invariant-end_of-loop-kind l = record {
  there : l.node < length l.plan.program.nodes.items;
  down : l.node ≤ l.fn.root;
  on : IsOn l.plan.program l.kinds (form_at (forms_in l.plan.program.nodes.items) l.fn.root) l.fn.from (form_at (forms_in l.plan.program.nodes.items) l.node) l.place;
  sound : IsSound l.plan l.kinds l.memo;
}

abbrev pub decreases-end_of-loop-kind : goal.decreases-end_of-loop-kind
decreases-end_of-loop-kind l = l.node

abbrev pub invariant-end_of_turns-loop : goal.invariant-end_of_turns-loop
invariant-end_of_turns-loop l = record {
  on : IsOn l.plan.program l.kinds (star (form_at (forms_in l.plan.program.nodes.items) l.part)) l.fn.from (star (form_at (forms_in l.plan.program.nodes.items) l.part)) l.place;
  sound : IsSound l.plan l.kinds l.memo;
}

abbrev pub decreases-end_of_column : goal.decreases-end_of_column
decreases-end_of_column l = l.depth * (2 * length l.plan.now.program.nodes.items + 4) + 1

abbrev pub decreases-search : goal.decreases-search
decreases-search l = l.depth * (2 * length l.plan.now.program.nodes.items + 4)

abbrev pub decreases-end_of_turns : goal.decreases-end_of_turns
decreases-end_of_turns l = l.depth * (2 * length l.plan.now.program.nodes.items + 4) + (2 * length l.plan.now.program.nodes.items + 3)

abbrev pub decreases-end_of_part : goal.decreases-end_of_part
decreases-end_of_part l = l.depth * (2 * length l.plan.now.program.nodes.items + 4) + (2 * l.part + 3)

abbrev pub decreases-end_of : goal.decreases-end_of
decreases-end_of l = l.depth * (2 * length l.plan.now.program.nodes.items + 4) + (2 * l.root + 2)
