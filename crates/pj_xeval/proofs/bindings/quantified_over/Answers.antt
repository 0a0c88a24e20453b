use Rattle.std.proofs.Common.{List, subst, sym}
use Rattle.pj_xvalue.specs.Items.{ItemValue, values_of}
use Rattle.pj_xvalue.specs.OfTree.{OfTree}
use Rattle.pj_xsteps.specs.Means.{Means}
use Rattle.pj_xframes.specs.declared.frame.QuantifiedTurns.{QuantifiedTurns}
use Rattle.pj_xframes.specs.Frames.{quantified_left}
use Rattle.pj_xframes.specs.Going.{GoesIf}
use Rattle.pj_xframes.specs.Scopes.{variables_of}
use Rattle.pj_xeval.proofs.Binding.{quantified-begins}
use Rattle.pj_xeval.proofs.bindings.quantified_over.Goals as goal

pub returns-clause-goes : goal.returns-clause-goes
returns-clause-goes c = λ a reply k.
    let turns : QuantifiedTurns = record { quantifier = c.args.quantifier; name = c.args.binder.name; left = c.turned_back-left.result; rest = c.args.binder.rest; test = c.args.binder.body } in
    subst (λ (m : Means (List ItemValue)). GoesIf a reply m k c.quantified_turn.new.scope k c.args.scope.now c.quantified_turn.result)
    (quantified-begins a reply k turns c.args.value (variables_of c.args.scope.now) c.turned_back-left.ensures.value)
    (subst (λ (t : QuantifiedTurns). GoesIf a reply (quantified_left a reply t k (variables_of c.args.scope.now)) k c.quantified_turn.new.scope k c.args.scope.now c.quantified_turn.result) c.in_ok-turns.ensures.ok
    (c.quantified_turn.ensures.goes a reply k))

pub returns-clause-of_tree : goal.returns-clause-of_tree
returns-clause-of_tree c = λ n h. c.quantified_turn.ensures.of_tree n (subst (λ (t : QuantifiedTurns). OfTree n (values_of t.left)) (sym c.in_ok-turns.ensures.ok) (c.turned_back-left.ensures.of_tree n h))

pub returns-clause-scope : goal.returns-clause-scope
returns-clause-scope c = λ n h k. c.quantified_turn.ensures.scope n (subst (λ (t : QuantifiedTurns). OfTree n (values_of t.left)) (sym c.in_ok-turns.ensures.ok) (c.turned_back-left.ensures.of_tree n h)) k
