use Rattle.std.proofs.Common.{◌≡◌, length}
use Rattle.pj_names.proofs.AskingLaws.{ComesTo}
use Rattle.pj_xvalue.specs.Items.{IsOfTree}
use Rattle.pj_xvalue.specs.OfTree.{VariablesOfTree}
use Rattle.pj_xsteps.specs.Context.{around, given_of}
use Rattle.pj_xsteps.specs.Denotes.{denotes}
use Rattle.pj_xframes.specs.Going.{NextOfTree}
use Rattle.pj_xframes.specs.Scopes.{variables_of}
use Rattle.pj_xeval.specs.Whole.{FramesOfTree, state_meaning}
use Rattle.pj_xeval.proofs.evaluator.value_of.Given as goal

abbrev pub invariant-loop-call : goal.invariant-loop-call
invariant-loop-call g l =
    let a = around l.setting.tree.now (g.A.Attributes.attribute_of l.setting.facts.now) (g.A.Attributes.names_of l.setting.facts.now) l.setting.patterns.now in
    let reply = g.C.Calls.reply l.fn.calls in
    record {
      nodes : g.C.Calls.nodes l.calls ≡ g.C.Calls.nodes l.fn.calls;
      same_reply : g.C.Calls.reply l.calls ≡ reply;
      next : NextOfTree (length l.setting.tree.now.nodes) l.next;
      frames : FramesOfTree (length l.setting.tree.now.nodes) l.frames;
      item : IsOfTree (length l.setting.tree.now.nodes) l.at.item;
      variables : VariablesOfTree (length l.setting.tree.now.nodes) (variables_of l.scope);
      rest : ComesTo (denotes a reply l.expr l.fn.at (given_of l.variables)) (g.C.Calls.tells l.fn.calls) (state_meaning a reply l.next l.frames l.at l.scope) (g.C.Calls.tells l.calls);
    }
