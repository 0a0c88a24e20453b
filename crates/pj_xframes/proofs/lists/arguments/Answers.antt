use Rattle.std.proofs.Common.{map, refl}
use Rattle.pj_xvalue.specs.Items.{values_of}
use Rattle.pj_xsteps.specs.Calls.{call}
use Rattle.pj_xsteps.specs.Context.{around}
use Rattle.pj_xsteps.specs.Denotes.{denotes, here, with_argument}
use Rattle.pj_xsteps.specs.Means.{judged}
use Rattle.pj_xframes.specs.Scopes.{variables_of}
use Rattle.pj_xframes.proofs.ListGoals.{front-then}
use Rattle.pj_xframes.proofs.lists.arguments.Goals as goal

pub returns-clause-goes : goal.returns-clause-goes
returns-clause-goes g c = λ reply s.
    let a = around c.args.setting.now.tree.now (g.A.Attributes.attribute_of c.args.setting.now.facts.now) (g.A.Attributes.names_of c.args.setting.now.facts.now) c.args.setting.now.patterns.now in
    record {
      meaning = front-then (denotes a reply) (here c.args.at.now (variables_of s)) with_argument (λ all. judged (call a c.args.function c.args.at.now all)) c.args.parts.now c.part-item.result (map values_of c.args.values) c.in-len1-up.len_at_least c.part-item.is;
      context = refl;
      scope = refl;
    }
