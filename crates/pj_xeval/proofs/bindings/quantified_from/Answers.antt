use Rattle.std.proofs.Common.{ℕ, List, refl, sym, ap}
use Rattle.pj_xexpressions.specs.declared.expr.Expr.{Expr}
use Rattle.pj_xsteps.specs.Bindings.{quantified}
use Rattle.pj_xsteps.specs.Parts.{bindings_of}
use Rattle.pj_xsteps.specs.Denotes.{denotes}
use Rattle.pj_xframes.specs.Scopes.{variables_of}
use Rattle.pj_xeval.proofs.Fronts.{whole}
use Rattle.pj_xeval.proofs.bindings.quantified_from.Goals as goal

pub returns-in-len1-up-clause-goes : goal.returns-in-len1-up-clause-goes
returns-in-len1-up-clause-goes c = λ a reply at s. record {
  meaning = sym (ap (λ (bs : List (List ℕ × Expr)). quantified c.args.quantifier (bindings_of (denotes a reply) bs) (denotes a reply c.args.test.now) at (variables_of s)) (whole c.args.bindings.now c.first-item.result c.in-len1-up.len_at_least c.first-item.is));
  context = refl;
  scope = refl;
}
