use Rattle.std.proofs.Common.{refl}
use Rattle.pj_xexpressions.specs.declared.operator.Additive.{Additive}
use Rattle.pj_xexpressions.specs.declared.expr.Expr.{Expr}
use Rattle.pj_xsteps.specs.Arithmetic.{number_items}
use Rattle.pj_xsteps.specs.Denotes.{denotes, behind, with_term}
use Rattle.pj_xsteps.specs.Means.{give}
use Rattle.pj_xframes.specs.Scopes.{variables_of}
use Rattle.pj_xframes.proofs.ListGoals.{front-then}
use Rattle.pj_xframes.proofs.numbers.terms.Goals as goal

pub returns-in-len1-up-clause-goes : goal.returns-in-len1-up-clause-goes
returns-in-len1-up-clause-goes c = λ a reply at s. record {
  meaning = front-then (λ (part : Additive × Expr). (part.0, denotes a reply part.1)) (behind at (variables_of s)) (with_term a) (λ all. give (number_items all)) c.args.parts.now c.part-item.result c.args.total c.in-len1-up.len_at_least c.part-item.is;
  context = refl;
  scope = refl;
}
