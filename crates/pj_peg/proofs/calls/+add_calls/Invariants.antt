use Rattle.std.proofs.Common.{◌+◌, ◌-◌, ◌<◌, ◌≤◌, length}
use Rattle.pj_peg_grammar.specs.Program.{form_at, forms_in}
use Rattle.pj_peg.specs.Plan.{IsSound}
use Rattle.pj_peg.proofs.Collecting.{IsCollecting}
use Rattle.pj_peg.proofs.calls.+add_calls.Given as goal

abbrev pub invariant-loop-rule : goal.invariant-loop-rule
invariant-loop-rule l = record {
  there : l.node < length l.plan.program.nodes.items;
  down : l.node ≤ l.fn.root;
  collecting : IsCollecting l.plan.program l.kinds (form_at (forms_in l.plan.program.nodes.items) l.fn.root) l.fn.from l.fn.calls.items (form_at (forms_in l.plan.program.nodes.items) l.node) l.place l.calls.items;
  sound : IsSound l.plan l.kinds l.memo;
}

abbrev pub decreases-loop-rule : goal.decreases-loop-rule
decreases-loop-rule l = l.node + (length l.kinds - l.place)

abbrev pub decreases-add_calls : goal.decreases-add_calls
decreases-add_calls l = l.root
