use Rattle.std.proofs.Common.{◌≡◌, ◌∷◌, [], ◌++◌, ap, subst, sym, ◌∙◌}
use Rattle.pj_xvalue.specs.Items.{values_of}
use Rattle.pj_xvalue.specs.OfTree.{OfTree}
use Rattle.pj_xframes.specs.declared.frame.ForTurns.{ForTurns}
use Rattle.pj_xframes.specs.declared.frame.Next.TheVariants as next
use Rattle.pj_xframes.specs.Frames.{for_left}
use Rattle.pj_xframes.specs.Going.{ForTurnsOfTree, Goes}
use Rattle.pj_xframes.specs.Scopes.{variables_of, with_variable}
use Rattle.pj_xeval.proofs.Binding.{for-ended, for-taken}
use Rattle.pj_xeval.proofs.Kept.{taken-of_tree}
use Rattle.pj_xeval.proofs.OfTree.{of_tree-before}
use Rattle.pj_xeval.proofs.bindings.for_turn.Goals.{After-drop-into_inner, After-deref-in-Some-2}
use Rattle.pj_xeval.proofs.bindings.for_turn.Goals as goal

-- what is taken out of the box at the end
ended : (c : After-drop-into_inner) → c.into_inner-found.result ≡ record c.args.turns.value { left = c.pop.new.self }
ended c = c.into_inner-found.ensures ∙ ap (λ (t : ForTurns). record t { left = c.pop.new.self }) c.deref_mut.ensures.value

pub returns-in-None-clause-goes : goal.returns-in-None-clause-goes
returns-in-None-clause-goes c = λ a reply k.
    subst (λ (t : ForTurns). Goes a reply (for_left a reply c.args.turns.value (values_of c.args.turns.value.found) k (variables_of c.args.scope.now)) k c.args.scope.now k c.args.scope.now (next.Value t.found)) (sym (ended c))
    (for-ended a reply k c.args.turns.value c.args.scope.now (ap (λ (t : ForTurns). t.left) (sym c.deref_mut.ensures.value) ∙ c.in-None.ensures.0))

pub returns-in-None-clause-of_tree : goal.returns-in-None-clause-of_tree
returns-in-None-clause-of_tree c = λ n h. subst (λ (t : ForTurns). OfTree n (values_of t.found)) (sym (ended c)) h.found

-- the turns without the item that has its turn
taken_out : (c : After-deref-in-Some-2) → record c.deref_mut.result.now { left = c.pop.new.self } ≡ record c.args.turns.value { left = c.pop.new.self }
taken_out c = ap (λ (t : ForTurns). record t { left = c.pop.new.self }) c.deref_mut.ensures.value

is_next : (c : After-deref-in-Some-2) → c.args.turns.value.left ≡ c.pop.new.self ++ c.in-Some.item ∷ []
is_next c = ap (λ (t : ForTurns). t.left) (sym c.deref_mut.ensures.value) ∙ c.in-Some.ensures

bound : (c : After-deref-in-Some-2) → c.bind.new.self ≡ with_variable c.args.turns.value.name.now (values_of c.in_ok-one-in-Some.field-0) c.args.scope.now
bound c = c.in_ok-bind-in-Some.ensures ∙ ap (λ (t : ForTurns). with_variable t.name.now (values_of c.in_ok-one-in-Some.field-0) c.args.scope.now) (c.deref.ensures ∙ taken_out c)

pub returns-in_ok-bind-in-Some-clause-goes : goal.returns-in_ok-bind-in-Some-clause-goes
returns-in_ok-bind-in-Some-clause-goes c = λ a reply k.
    for-taken a reply k c.args.turns.value c.pop.new.self c.in-Some.item c.in_ok-one-in-Some.field-0 c.args.scope.now c.bind.new.self c.deref-in-Some.result.now c.deref-in-Some-2.result.now _
    (c.deref-in-Some.ensures ∙ taken_out c) (c.deref-in-Some-2.ensures ∙ taken_out c) (taken_out c) (is_next c) c.in_ok-one-in-Some.ensures (bound c)

pub returns-in_ok-bind-in-Some-clause-of_tree : goal.returns-in_ok-bind-in-Some-clause-of_tree
returns-in_ok-bind-in-Some-clause-of_tree c = λ n h.
    subst (λ (t : ForTurns). ForTurnsOfTree n t) (sym (taken_out c)) (record { left = of_tree-before n c.args.turns.value.left c.pop.new.self c.in-Some.item (is_next c) h.left; found = h.found })

pub returns-in_ok-bind-in-Some-clause-scope : goal.returns-in_ok-bind-in-Some-clause-scope
returns-in_ok-bind-in-Some-clause-scope c = λ n h k.
    taken-of_tree n c.args.turns.value.name.now c.args.turns.value.left c.pop.new.self c.in-Some.item c.in_ok-one-in-Some.field-0 c.args.scope.now c.bind.new.self (is_next c) c.in_ok-one-in-Some.ensures (bound c) h k
