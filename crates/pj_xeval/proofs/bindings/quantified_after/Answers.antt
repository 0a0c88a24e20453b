use Rattle.std.proofs.Common.{List, ap, sym, subst, ◌∙◌}
use Rattle.pj_xvalue.specs.Boolean.{effective_boolean}
use Rattle.pj_xvalue.specs.Items.{ItemValue, values_of}
use Rattle.pj_xvalue.specs.OfTree.{VariablesOfTree}
use Rattle.pj_xsteps.specs.Means.{Means, decides, give, one_boolean}
use Rattle.pj_xframes.specs.declared.frame.QuantifiedTurns.{QuantifiedTurns}
use Rattle.pj_xframes.specs.Frames.{quantified_left}
use Rattle.pj_xframes.specs.Going.{GoesIf}
use Rattle.pj_xframes.specs.Scopes.{Scoped, variables_of, without}
use Rattle.pj_xeval.proofs.Kept.{on-ok, unbound-of_tree, decides-now, decides-not}
use Rattle.pj_xeval.proofs.bindings.quantified_after.Goals as goal

pub returns-then-decides-clause-goes : goal.returns-then-decides-clause-goes
returns-then-decides-clause-goes c = λ a reply k.
    let s = without 1 c.args.scope.now in
    subst (λ (m : Means (List ItemValue)). GoesIf a reply m k c.unbind.new.self k s c.boolean.result)
    (decides-now c.args.turns.value.quantifier c.in_ok-truth.truth (effective_boolean (values_of c.args.value.now)) (quantified_left a reply c.args.turns.value k (variables_of s)) c.in_ok-truth.ensures (ap (λ (t : QuantifiedTurns). decides t.quantifier c.in_ok-truth.truth) (sym c.deref.ensures) ∙ sym c.decides.ensures ∙ c.if-decides.true))
    (subst (λ (t : Scoped). GoesIf a reply (give (one_boolean c.in_ok-truth.truth)) k c.unbind.new.self k t c.boolean.result) c.unbind.ensures (c.boolean.ensures.goes a reply k c.unbind.new.self))

pub returns-then-decides-clause-of_tree : goal.returns-then-decides-clause-of_tree
returns-then-decides-clause-of_tree c = λ n h. c.boolean.ensures.of_tree n

pub returns-then-decides-clause-scope : goal.returns-then-decides-clause-scope
returns-then-decides-clause-scope c = λ n h k. on-ok (VariablesOfTree n (variables_of c.unbind.new.self)) c.boolean.result (unbound-of_tree n 1 c.args.scope.now c.unbind.new.self c.unbind.ensures k)

pub returns-clause-goes : goal.returns-clause-goes
returns-clause-goes c = λ a reply k.
    let s = without 1 c.args.scope.now in
    subst (λ (m : Means (List ItemValue)). GoesIf a reply m k c.quantified_turn.new.scope k s c.quantified_turn.result)
    (decides-not c.args.turns.value.quantifier c.in_ok-truth.truth (effective_boolean (values_of c.args.value.now)) (quantified_left a reply c.args.turns.value k (variables_of s)) c.in_ok-truth.ensures (ap (λ (t : QuantifiedTurns). decides t.quantifier c.in_ok-truth.truth) (sym c.deref.ensures) ∙ sym c.decides.ensures ∙ c.if-decides.false))
    (subst (λ (t : Scoped). GoesIf a reply (quantified_left a reply c.args.turns.value k (variables_of t)) k c.quantified_turn.new.scope k t c.quantified_turn.result) c.unbind.ensures (c.quantified_turn.ensures.goes a reply k))

pub returns-clause-scope : goal.returns-clause-scope
returns-clause-scope c = λ n h k. c.quantified_turn.ensures.scope n h (unbound-of_tree n 1 c.args.scope.now c.unbind.new.self c.unbind.ensures k)
