use Rattle.pj_xeval.proofs.Kept.{unbound-of_tree}
use Rattle.pj_xeval.proofs.bindings.let_body.Goals as goal

pub returns-clause-scope : goal.returns-clause-scope
returns-clause-scope c = λ n k. unbound-of_tree n c.args.count c.args.scope.now c.unbind_all.new.self c.unbind_all.ensures k
