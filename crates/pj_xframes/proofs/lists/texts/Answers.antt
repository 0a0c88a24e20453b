use Rattle.std.proofs.Common.{◌∷◌, [], string_bytes, refl}
use Rattle.pj_xvalue.specs.Items.{String}
use Rattle.pj_xsteps.specs.Denotes.{denotes, here, with_text}
use Rattle.pj_xsteps.specs.Means.{give}
use Rattle.pj_xframes.specs.Scopes.{variables_of}
use Rattle.pj_xframes.proofs.ListGoals.{front-then}
use Rattle.pj_xframes.proofs.lists.texts.Goals as goal

pub returns-in-len1-up-clause-goes : goal.returns-in-len1-up-clause-goes
returns-in-len1-up-clause-goes c = λ a reply at s. record {
  meaning = front-then (denotes a reply) (here at (variables_of s)) (with_text a) (λ all. give (String all ∷ [])) c.args.parts.now c.part-item.result (string_bytes c.args.text) c.in-len1-up.len_at_least c.part-item.is;
  context = refl;
  scope = refl;
}
