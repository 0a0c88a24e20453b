use Rattle.std.proofs.Common.{◌≡◌, ◌++◌, List, ap, subst, sym, ◌∙◌}
use Rattle.pj_xvalue.specs.Items.{ItemValue, values_of}
use Rattle.pj_xvalue.specs.OfTree.{OfTree}
use Rattle.pj_xsteps.specs.Means.{Means}
use Rattle.pj_xframes.specs.declared.frame.ForTurns.{ForTurns}
use Rattle.pj_xframes.specs.Frames.{for_left}
use Rattle.pj_xframes.specs.Going.{ForTurnsOfTree, GoesIf}
use Rattle.pj_xframes.specs.Scopes.{Scoped, variables_of, without}
use Rattle.pj_xeval.proofs.Binding.{for-more}
use Rattle.pj_xeval.proofs.Kept.{unbound-of_tree}
use Rattle.pj_xeval.proofs.OfTree.{of_tree-behind}
use Rattle.pj_xeval.proofs.bindings.for_after.Goals.{After-for_turn}
use Rattle.pj_xeval.proofs.bindings.for_after.Goals as goal

-- the turns with what the value adds, as the box has them
more_found : (c : After-for_turn) → record c.deref_mut.result.now { found = c.append.new.self } ≡ record c.args.turns.value { found = c.append.new.self }
more_found c = ap (λ (t : ForTurns). record t { found = c.append.new.self }) c.deref_mut.ensures.value

added : (c : After-for_turn) → c.append.new.self ≡ c.args.turns.value.found ++ c.args.value
added c = c.in_ok-append.ensures.ok ∙ ap (λ (t : ForTurns). t.found ++ c.args.value) c.deref_mut.ensures.value

pub returns-clause-goes : goal.returns-clause-goes
returns-clause-goes c = λ a reply k.
    subst (λ (m : Means (List ItemValue)). GoesIf a reply m k c.for_turn.new.scope k (without 1 c.args.scope.now) c.for_turn.result)
    (for-more a reply k c.args.turns.value c.append.new.self c.args.value (variables_of (without 1 c.args.scope.now)) (added c))
    (subst (λ (s : Scoped). GoesIf a reply (for_left a reply (record c.args.turns.value { found = c.append.new.self }) (values_of c.append.new.self) k (variables_of s)) k c.for_turn.new.scope k s c.for_turn.result) c.unbind.ensures
    (subst (λ (t : ForTurns). GoesIf a reply (for_left a reply t (values_of t.found) k (variables_of c.unbind.new.self)) k c.for_turn.new.scope k c.unbind.new.self c.for_turn.result) (more_found c)
    (c.for_turn.ensures.goes a reply k)))

pub returns-clause-of_tree : goal.returns-clause-of_tree
returns-clause-of_tree c = λ n h more.
    c.for_turn.ensures.of_tree n (subst (λ (t : ForTurns). ForTurnsOfTree n t) (sym (more_found c))
    (record { left = h.left; found = of_tree-behind n c.append.new.self c.args.turns.value.found c.args.value (added c) h.found more }))

pub returns-clause-scope : goal.returns-clause-scope
returns-clause-scope c = λ n h k.
    c.for_turn.ensures.scope n (subst (λ (t : ForTurns). OfTree n (values_of t.left)) (sym (more_found c)) h.left) (unbound-of_tree n 1 c.args.scope.now c.unbind.new.self c.unbind.ensures k)
