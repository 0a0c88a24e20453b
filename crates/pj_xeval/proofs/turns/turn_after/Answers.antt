use Rattle.std.proofs.Common.{◌≡◌, List, ap, subst, sym, ◌∙◌}
use Rattle.pj_xvalue.specs.Items.{ItemValue, values_of}
use Rattle.pj_xvalue.specs.OfTree.{OfTree}
use Rattle.pj_xsteps.specs.Means.{Means}
use Rattle.pj_xframes.specs.declared.frame.Turns.{Turns}
use Rattle.pj_xframes.specs.Frames.{taken, turns_left}
use Rattle.pj_xframes.specs.Going.{GoesIf, TurnsOfTree}
use Rattle.pj_xframes.specs.Scopes.{variables_of}
use Rattle.pj_xeval.proofs.Turned.{turn-added}
use Rattle.pj_xeval.proofs.turns.turn_after.Goals.{After-next_turn}
use Rattle.pj_xeval.proofs.turns.turn_after.Goals as goal

-- the turns with what the value adds
added : (c : After-next_turn) → c.add_turn.new.turns ≡ record c.args.turns.value { found = c.add_turn.new.turns.found }
added c = c.in_ok-add_turn.ensures.kept ∙ ap (λ (t : Turns). record t { found = c.add_turn.new.turns.found }) c.deref_mut.ensures.value

pub returns-clause-goes : goal.returns-clause-goes
returns-clause-goes c = λ a reply s.
    subst (λ (m : Means (List ItemValue)). GoesIf a reply m c.next_turn.new.at s c.args.turns.value.outer s c.next_turn.result)
    (turn-added a reply c.args.turns.value c.add_turn.new.turns.found c.args.value c.args.at.now (variables_of s)
    (c.in_ok-add_turn.ensures.value ∙ ap (λ (t : Turns). taken t.what (t.position, c.args.at.now.item) (values_of t.found) (values_of c.args.value)) c.deref_mut.ensures.value))
    (subst (λ (t : Turns). GoesIf a reply (turns_left a reply t (values_of t.found) (variables_of s)) c.next_turn.new.at s t.outer s c.next_turn.result) (added c)
    (c.next_turn.ensures.goes a reply s))

pub returns-clause-of_tree : goal.returns-clause-of_tree
returns-clause-of_tree c = λ n h more item.
    c.next_turn.ensures.of_tree n (subst (λ (t : Turns). TurnsOfTree n t) (sym (added c)) (record {
      left = h.left;
      found = c.in_ok-add_turn.ensures.of_tree n (subst (λ (t : Turns). OfTree n (values_of t.found)) (sym c.deref_mut.ensures.value) h.found) more item;
      outer = h.outer;
    }))
