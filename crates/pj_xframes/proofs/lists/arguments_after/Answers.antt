use Rattle.std.proofs.Common.{◌∙◌, ◌∷◌, [], List, length, map, ap}
use Rattle.std.proofs.lemmas.List.{map-append}
use Rattle.pj_xvalue.specs.Items.{ItemValue, values_of}
use Rattle.pj_xsteps.specs.Calls.{call}
use Rattle.pj_xsteps.specs.Context.{around}
use Rattle.pj_xsteps.specs.Denotes.{denotes, here, with_argument}
use Rattle.pj_xsteps.specs.Means.{◌>>=◌, chain, judged}
use Rattle.pj_xframes.specs.Scopes.{variables_of}
use Rattle.pj_xframes.proofs.ListGoals.{goes-same}
use Rattle.pj_xframes.proofs.OfTree.{arguments-pushed}
use Rattle.pj_xframes.proofs.lists.arguments_after.Goals as goal

pub arguments-requires-clause-values : goal.arguments-requires-clause-values
arguments-requires-clause-values g c = arguments-pushed (length c.args.setting.now.tree.now.nodes) c.push.new.self c.args.values c.args.value c.in_ok-push.ensures.ok c.requires.values c.requires.value

pub returns-clause-goes : goal.returns-clause-goes
returns-clause-goes g c = λ reply s.
    let a = around c.args.setting.now.tree.now (g.A.Attributes.attribute_of c.args.setting.now.facts.now) (g.A.Attributes.names_of c.args.setting.now.facts.now) c.args.setting.now.patterns.now in
    let at = c.args.at.now in
    goes-same a reply at s at s c.arguments.result _ _
    (ap (λ (values : List (List ItemValue)). chain (here at (variables_of s)) with_argument (map (denotes a reply) c.args.parts.now) values >>= λ all. judged (call a c.args.function at all))
    (ap (map values_of) c.in_ok-push.ensures.ok ∙ map-append values_of c.args.values (c.args.value ∷ [])))
    (c.arguments.ensures.goes reply s)
