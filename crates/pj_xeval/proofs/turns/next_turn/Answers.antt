use Rattle.std.proofs.Common.{◌≡◌, ◌+◌, ◌∷◌, [], ◌++◌, List, map, ap, subst, sym, ◌∙◌}
use Rattle.pj_xvalue.specs.Items.{ItemValue, is_node, value_of_item, values_of}
use Rattle.pj_xvalue.specs.OfTree.{OfTree}
use Rattle.pj_xsteps.specs.Means.{Means}
use Rattle.pj_xsteps.specs.Context.{at}
use Rattle.pj_xsteps.specs.Denotes.{denotes}
use Rattle.pj_xframes.specs.declared.frame.Turns.{Turns}
use Rattle.pj_xframes.specs.Frames.{finished, may_turn}
use Rattle.pj_xframes.specs.Going.{GoesIf, TurnsOfTree}
use Rattle.pj_xframes.specs.Scopes.{variables_of}
use Rattle.pj_xeval.proofs.OfTree.{of_tree-before}
use Rattle.pj_xeval.proofs.Turned.{turns-ended, turns-taken}
use Rattle.pj_xeval.proofs.turns.next_turn.Goals.{After-finish, After-deref-in-Some-3}
use Rattle.pj_xeval.proofs.turns.next_turn.Goals as goal

-- what is taken out of the box at the end
ended : (c : After-finish) → c.into_inner-what.result ≡ record c.args.turns.value { left = c.pop.new.self }
ended c = c.into_inner-what.ensures ∙ ap (λ (t : Turns). record t { left = c.pop.new.self }) c.deref_mut.ensures.value

pub returns-in-None-clause-goes : goal.returns-in-None-clause-goes
returns-in-None-clause-goes c = λ a reply s.
    subst (λ (m : Means (List ItemValue)). GoesIf a reply m c.into_inner-what.result.outer s c.args.turns.value.outer s c.finish.result)
    (turns-ended a reply c.args.turns.value (variables_of s) (ap (λ (t : Turns). t.left) (sym c.deref_mut.ensures.value) ∙ c.in-None.ensures.0))
    (subst (λ (t : Turns). GoesIf a reply (finished t.what (variables_of s) (map (denotes a reply) t.rest.now) (values_of t.found)) c.into_inner-what.result.outer s t.outer s c.finish.result) (ended c)
    (c.finish.ensures.goes a reply c.into_inner-what.result.outer s))

pub returns-in-None-clause-of_tree : goal.returns-in-None-clause-of_tree
returns-in-None-clause-of_tree c = λ n h. c.finish.ensures.of_tree n (subst (λ (t : Turns). OfTree n (values_of t.found)) (sym (ended c)) h.found)

-- the turns without the item that has its turn
taken_out : (c : After-deref-in-Some-3) → record c.deref_mut.result.now { left = c.pop.new.self } ≡ record c.args.turns.value { left = c.pop.new.self }
taken_out c = ap (λ (t : Turns). record t { left = c.pop.new.self }) c.deref_mut.ensures.value

-- those in the box at the end
moved : (c : After-deref-in-Some-3) → record c.deref_mut-in-Some.result.now { position = c.in_ok-position-in-Some.position } ≡ record c.args.turns.value { left = c.pop.new.self; position = c.in_ok-position-in-Some.position }
moved c = ap (λ (t : Turns). record t { position = c.in_ok-position-in-Some.position }) (c.deref_mut-in-Some.ensures.value ∙ taken_out c)

is_next : (c : After-deref-in-Some-3) → c.args.turns.value.left ≡ c.pop.new.self ++ c.in-Some.item ∷ []
is_next c = ap (λ (t : Turns). t.left) (sym c.deref_mut.ensures.value) ∙ c.in-Some.ensures

pub returns-in_ok-at-in-Some-clause-goes : goal.returns-in_ok-at-in-Some-clause-goes
returns-in_ok-at-in-Some-clause-goes c = λ a reply s.
    turns-taken a reply c.args.turns.value c.pop.new.self c.in-Some.item c.in_ok-position-in-Some.position c.in_ok-at-in-Some.field-0 s c.deref-in-Some-3.result.now.part _
    (moved c)
    (ap (λ (t : Turns). t.part) (c.deref-in-Some-3.ensures ∙ moved c))
    (is_next c)
    (c.in_ok-position-in-Some.ensures ∙ ap (λ (t : Turns). t.position + 1) (c.deref-in-Some.ensures ∙ taken_out c))
    (c.in_ok-at-in-Some.ensures ∙ ap (λ (t : Turns). at (value_of_item c.in-Some.item) c.in_ok-position-in-Some.position t.size) (c.deref-in-Some-2.ensures ∙ taken_out c))
    (ap (λ (t : Turns). may_turn t.what (is_node (value_of_item c.in-Some.item))) (sym (c.deref.ensures ∙ taken_out c)) ∙ sym c.may_turn.ensures ∙ c.if-not-may_turn.false)

pub returns-in_ok-at-in-Some-clause-of_tree : goal.returns-in_ok-at-in-Some-clause-of_tree
returns-in_ok-at-in-Some-clause-of_tree c = λ n h.
    subst (λ (t : Turns). TurnsOfTree n t) (sym (moved c))
    (record { left = of_tree-before n c.args.turns.value.left c.pop.new.self c.in-Some.item (is_next c) h.left; found = h.found; outer = h.outer })
