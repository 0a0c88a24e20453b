use Rattle.std.proofs.Common.{map, refl}
use Rattle.pj_xvalue.specs.Items.{values_of}
use Rattle.pj_xsteps.specs.Calls.{pmd_call}
use Rattle.pj_xsteps.specs.Denotes.{denotes, here, with_argument}
use Rattle.pj_xframes.specs.Scopes.{variables_of}
use Rattle.pj_xframes.proofs.ListGoals.{front-then}
use Rattle.pj_xframes.proofs.lists.pmd_arguments.Goals as goal

pub returns-in-len1-up-clause-goes : goal.returns-in-len1-up-clause-goes
returns-in-len1-up-clause-goes c = λ a reply at s. record {
  meaning = front-then (denotes a reply) (here at (variables_of s)) with_argument (λ all. pmd_call reply c.args.function at all) c.args.parts.now c.part-item.result (map values_of c.args.values) c.in-len1-up.len_at_least c.part-item.is;
  context = refl;
  scope = refl;
}
