use Rattle.std.proofs.Common.{List, map, ap, refl, sym}
use Rattle.pj_xexpressions.specs.declared.expr.Expr.{Expr}
use Rattle.pj_xsteps.specs.Denotes.{denotes}
use Rattle.pj_xsteps.specs.Turns.{path}
use Rattle.pj_xframes.specs.Scopes.{variables_of}
use Rattle.pj_xeval.proofs.Fronts.{whole}
use Rattle.pj_xeval.proofs.begin.path_from.Goals as goal

pub returns-in-len1-up-clause-goes : goal.returns-in-len1-up-clause-goes
returns-in-len1-up-clause-goes c = λ a reply at s. record {
  meaning = sym (ap (λ (parts : List Expr). path (map (denotes a reply) parts) at (variables_of s)) (whole c.args.steps.now c.first-item.result c.in-len1-up.len_at_least c.first-item.is));
  context = refl;
  scope = refl;
}
