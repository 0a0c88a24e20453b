use Rattle.std.proofs.Common.{refl}
use Rattle.pj_xvalue.specs.Items.{values_of}
use Rattle.pj_xaxes.specs.Order.{ordered}
use Rattle.pj_xsteps.specs.Denotes.{denotes, here, with_nodes}
use Rattle.pj_xsteps.specs.Means.{give}
use Rattle.pj_xframes.specs.Scopes.{variables_of}
use Rattle.pj_xframes.proofs.ListGoals.{front-then}
use Rattle.pj_xframes.proofs.lists.nodes.Goals as goal

pub returns-in-len1-up-clause-goes : goal.returns-in-len1-up-clause-goes
returns-in-len1-up-clause-goes c = λ a reply at s. record {
  meaning = front-then (denotes a reply) (here at (variables_of s)) with_nodes (λ all. give (ordered all)) c.args.parts.now c.part-item.result (values_of c.args.found) c.in-len1-up.len_at_least c.part-item.is;
  context = refl;
  scope = refl;
}
