use Rattle.std.proofs.Common.{◌≡◌, length}
use Rattle.pj_xvalue.specs.Items.{IsOfTree}
use Rattle.pj_xvalue.specs.OfTree.{VariablesOfTree}
use Rattle.pj_xsteps.specs.Context.{around}
use Rattle.pj_xframes.specs.Frames.{Replies}
use Rattle.pj_xframes.specs.Going.{NextOfTree}
use Rattle.pj_xframes.specs.Scopes.{variables_of}
use Rattle.pj_xeval.specs.Whole.{FramesOfTree, state_meaning}
use Rattle.pj_xeval.proofs.machine.settle.Given as goal

abbrev pub invariant-loop-step : goal.invariant-loop-step
invariant-loop-step g l =
    let a = around l.setting.tree.now (g.A.Attributes.attribute_of l.setting.facts.now) (g.A.Attributes.names_of l.setting.facts.now) l.setting.patterns.now in
    record {
      same : (reply : Replies) → state_meaning a reply l.next l.frames l.at l.scope ≡ state_meaning a reply l.fn.next l.fn.frames l.fn.at l.fn.scope;
      next : NextOfTree (length l.setting.tree.now.nodes) l.next;
      frames : FramesOfTree (length l.setting.tree.now.nodes) l.frames;
      item : IsOfTree (length l.setting.tree.now.nodes) l.at.item;
      variables : VariablesOfTree (length l.setting.tree.now.nodes) (variables_of l.scope);
    }
