use Rattle.std.proofs.Common.{List, subst, sym}
use Rattle.pj_xvalue.specs.Items.{ItemValue, values_of}
use Rattle.pj_xvalue.specs.OfTree.{OfTree}
use Rattle.pj_xsteps.specs.Means.{Means}
use Rattle.pj_xframes.specs.declared.frame.ForTurns.{ForTurns}
use Rattle.pj_xframes.specs.Frames.{for_left}
use Rattle.pj_xframes.specs.Going.{ForTurnsOfTree, GoesIf}
use Rattle.pj_xframes.specs.Scopes.{variables_of}
use Rattle.pj_xeval.proofs.Binding.{for-begins}
use Rattle.pj_xeval.proofs.Kept.{none-of_tree}
use Rattle.pj_xeval.proofs.bindings.for_over.Goals as goal

pub returns-clause-goes : goal.returns-clause-goes
returns-clause-goes c = λ a reply k.
    let turns : ForTurns = record { name = c.args.binder.name; left = c.turned_back-left.result; found = c.new-found.result; rest = c.args.binder.rest; body = c.args.binder.body } in
    subst (λ (m : Means (List ItemValue)). GoesIf a reply m k c.for_turn.new.scope k c.args.scope.now c.for_turn.result)
    (for-begins a reply k turns c.args.value (variables_of c.args.scope.now) c.turned_back-left.ensures.value c.new-found.ensures)
    (subst (λ (t : ForTurns). GoesIf a reply (for_left a reply t (values_of t.found) k (variables_of c.args.scope.now)) k c.for_turn.new.scope k c.args.scope.now c.for_turn.result) c.in_ok-turns.ensures.ok
    (c.for_turn.ensures.goes a reply k))

pub returns-clause-of_tree : goal.returns-clause-of_tree
returns-clause-of_tree c = λ n h.
    c.for_turn.ensures.of_tree n (subst (λ (t : ForTurns). ForTurnsOfTree n t) (sym c.in_ok-turns.ensures.ok) (record { left = c.turned_back-left.ensures.of_tree n h; found = none-of_tree n c.new-found.result c.new-found.ensures }))

pub returns-clause-scope : goal.returns-clause-scope
returns-clause-scope c = λ n h k.
    c.for_turn.ensures.scope n (subst (λ (t : ForTurns). OfTree n (values_of t.left)) (sym c.in_ok-turns.ensures.ok) (c.turned_back-left.ensures.of_tree n h)) k
