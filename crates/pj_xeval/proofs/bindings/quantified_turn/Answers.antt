use Rattle.std.proofs.Common.{◌≡◌, true, ◌∷◌, [], ◌++◌, Bool, List, not, subst, sym, ap, ◌∙◌}
use Rattle.pj_xvalue.specs.Items.{ItemValue, values_of}
use Rattle.pj_xvalue.specs.OfTree.{OfTree}
use Rattle.pj_xsteps.specs.Means.{Means, decides, give, one_boolean}
use Rattle.pj_xframes.specs.declared.frame.QuantifiedTurns.{QuantifiedTurns}
use Rattle.pj_xframes.specs.Going.{GoesIf}
use Rattle.pj_xframes.specs.Scopes.{variables_of, with_variable}
use Rattle.pj_xeval.proofs.Binding.{quantified-ended, quantified-taken}
use Rattle.pj_xeval.proofs.Kept.{taken-of_tree}
use Rattle.pj_xeval.proofs.OfTree.{of_tree-before}
use Rattle.pj_xeval.proofs.bindings.quantified_turn.Goals.{After-deref-in-Some-4}
use Rattle.pj_xeval.proofs.bindings.quantified_turn.Goals as goal

pub returns-in-None-clause-goes : goal.returns-in-None-clause-goes
returns-in-None-clause-goes c = λ a reply k.
    subst (λ (m : Means (List ItemValue)). GoesIf a reply m k c.args.scope.now k c.args.scope.now c.boolean.result)
    (ap (λ (b : Bool). give (one_boolean (not b))) (c.decides.ensures ∙ ap (λ (t : QuantifiedTurns). decides t.quantifier true) (c.deref.ensures ∙ ap (λ (t : QuantifiedTurns). record t { left = c.pop.new.self }) c.deref_mut.ensures.value))
    ∙ quantified-ended a reply k c.args.turns.value (variables_of c.args.scope.now) (ap (λ (t : QuantifiedTurns). t.left) (sym c.deref_mut.ensures.value) ∙ c.in-None.ensures.0))
    (c.boolean.ensures.goes a reply k c.args.scope.now)

pub returns-in-None-clause-of_tree : goal.returns-in-None-clause-of_tree
returns-in-None-clause-of_tree c = λ n h. c.boolean.ensures.of_tree n

-- the turns without the item that has its turn
taken_out : (c : After-deref-in-Some-4) → record c.deref_mut.result.now { left = c.pop.new.self } ≡ record c.args.turns.value { left = c.pop.new.self }
taken_out c = ap (λ (t : QuantifiedTurns). record t { left = c.pop.new.self }) c.deref_mut.ensures.value

is_next : (c : After-deref-in-Some-4) → c.args.turns.value.left ≡ c.pop.new.self ++ c.in-Some.item ∷ []
is_next c = ap (λ (t : QuantifiedTurns). t.left) (sym c.deref_mut.ensures.value) ∙ c.in-Some.ensures

bound : (c : After-deref-in-Some-4) → c.bind.new.self ≡ with_variable c.args.turns.value.name.now (values_of c.in_ok-one-in-Some.field-0) c.args.scope.now
bound c = c.in_ok-bind-in-Some.ensures ∙ ap (λ (t : QuantifiedTurns). with_variable t.name.now (values_of c.in_ok-one-in-Some.field-0) c.args.scope.now) (c.deref-in-Some.ensures ∙ taken_out c)

pub returns-clause-goes : goal.returns-clause-goes
returns-clause-goes c = λ a reply k.
    quantified-taken a reply k c.args.turns.value c.pop.new.self c.in-Some.item c.in_ok-one-in-Some.field-0 c.args.scope.now c.bind.new.self c.deref-in-Some-2.result.now c.deref-in-Some-3.result.now c.deref-in-Some-4.result.now _
    (c.deref-in-Some-2.ensures ∙ taken_out c) (c.deref-in-Some-3.ensures ∙ taken_out c) (c.deref-in-Some-4.ensures ∙ taken_out c) (taken_out c) (is_next c) c.in_ok-one-in-Some.ensures (bound c)

pub returns-clause-of_tree : goal.returns-clause-of_tree
returns-clause-of_tree c = λ n h.
    subst (λ (t : QuantifiedTurns). OfTree n (values_of t.left)) (sym (taken_out c)) (of_tree-before n c.args.turns.value.left c.pop.new.self c.in-Some.item (is_next c) h)

pub returns-clause-scope : goal.returns-clause-scope
returns-clause-scope c = λ n h k.
    taken-of_tree n c.args.turns.value.name.now c.args.turns.value.left c.pop.new.self c.in-Some.item c.in_ok-one-in-Some.field-0 c.args.scope.now c.bind.new.self (is_next c) c.in_ok-one-in-Some.ensures (bound c) h k
