use Rattle.std.proofs.Common.{map}
use Rattle.std.specs.Prelude.{not}
use Rattle.pj_xsteps.specs.Denotes.{denotes, here}
use Rattle.pj_xsteps.specs.Means.{decided, give, one_boolean}
use Rattle.pj_xframes.specs.Scopes.{variables_of}
use Rattle.pj_xframes.proofs.ListGoals.{decided-none, goes-same}
use Rattle.pj_xframes.proofs.logic.truths.Goals as goal

pub returns-in_default-clause-goes : goal.returns-in_default-clause-goes
returns-in_default-clause-goes c = λ a reply at s.
    goes-same a reply at s at s c.boolean.result
    (give (one_boolean (not c.decides.result))) (decided c.args.quantifier (here at (variables_of s)) (map (denotes a reply) c.args.parts.now))
    (decided-none (denotes a reply) c.args.quantifier (here at (variables_of s)) c.args.parts.now c.decides.result c.in_default.len_below c.decides.ensures)
    (c.boolean.ensures.goes a reply at s)
