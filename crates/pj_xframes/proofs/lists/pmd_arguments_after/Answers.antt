use Rattle.std.proofs.Common.{◌∙◌, ◌∷◌, [], List, map, ap}
use Rattle.std.proofs.lemmas.List.{map-append}
use Rattle.pj_xvalue.specs.Items.{ItemValue, values_of}
use Rattle.pj_xsteps.specs.Calls.{pmd_call}
use Rattle.pj_xsteps.specs.Denotes.{denotes, here, with_argument}
use Rattle.pj_xsteps.specs.Means.{◌>>=◌, chain}
use Rattle.pj_xframes.specs.Scopes.{variables_of}
use Rattle.pj_xframes.proofs.ListGoals.{goes-same}
use Rattle.pj_xframes.proofs.OfTree.{arguments-pushed}
use Rattle.pj_xframes.proofs.lists.pmd_arguments_after.Goals as goal

pub returns-clause-goes : goal.returns-clause-goes
returns-clause-goes c = λ a reply at s.
    goes-same a reply at s at s c.pmd_arguments.result _ _
    (ap (λ (values : List (List ItemValue)). chain (here at (variables_of s)) with_argument (map (denotes a reply) c.args.parts.now) values >>= λ all. pmd_call reply c.args.function at all)
    (ap (map values_of) c.in_ok-push.ensures.ok ∙ map-append values_of c.args.values (c.args.value ∷ [])))
    (c.pmd_arguments.ensures.goes a reply at s)

pub returns-clause-of_tree : goal.returns-clause-of_tree
returns-clause-of_tree c = λ n values value. c.pmd_arguments.ensures.of_tree n (arguments-pushed n c.push.new.self c.args.values c.args.value c.in_ok-push.ensures.ok values value)
