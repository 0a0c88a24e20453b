use Rattle.std.proofs.Common.{List, subst, sym, map, ◌∷◌}
use Rattle.pj_xvalue.specs.Items.{ItemValue, values_of, IsOfTree}
use Rattle.pj_xvalue.specs.OfTree.{OfTree}
use Rattle.pj_xsteps.specs.Means.{Means}
use Rattle.pj_xsteps.specs.Context.{Context}
use Rattle.pj_xsteps.specs.Denotes.{denotes}
use Rattle.pj_xframes.specs.declared.frame.Turns.{Turns}
use Rattle.pj_xframes.specs.Frames.{over, turns_left}
use Rattle.pj_xframes.specs.Going.{GoesIf, TurnsOfTree}
use Rattle.pj_xframes.specs.Scopes.{variables_of}
use Rattle.pj_xeval.proofs.Kept.{none-of_tree}
use Rattle.pj_xeval.proofs.Turned.{turns-begin}
use Rattle.pj_xeval.proofs.turns.first_turn.Goals as goal

pub returns-clause-goes : goal.returns-clause-goes
returns-clause-goes c = λ a reply s.
    subst (λ (k : Context). GoesIf a reply (over c.args.what (variables_of s) (denotes a reply c.args.part.now ∷ map (denotes a reply) c.args.rest.now) (values_of c.args.items)) c.next_turn.new.at s k s c.next_turn.result) c.taken_out-outer.ensures.value
    (subst (λ (m : Means (List ItemValue)). GoesIf a reply m c.next_turn.new.at s c.taken_out-outer.result s c.next_turn.result)
    (turns-begin a reply c.args.what c.args.part.now c.args.rest.now c.len-size.result c.args.items c.turned_back-left.result c.new-found.result (variables_of s)
    c.len-size.ensures c.turned_back-left.ensures.value c.new-found.ensures)
    (subst (λ (t : Turns). GoesIf a reply (turns_left a reply t (values_of t.found) (variables_of s)) c.next_turn.new.at s t.outer s c.next_turn.result) c.in_ok-turns.ensures.ok
    (c.next_turn.ensures.goes a reply s)))

pub returns-clause-of_tree : goal.returns-clause-of_tree
returns-clause-of_tree c = λ n h item.
    c.next_turn.ensures.of_tree n (subst (λ (t : Turns). TurnsOfTree n t) (sym c.in_ok-turns.ensures.ok) (record {
      left = c.turned_back-left.ensures.of_tree n h;
      found = none-of_tree n c.new-found.result c.new-found.ensures;
      outer = subst (λ (d : Context). IsOfTree n d.item) (sym c.taken_out-outer.ensures.value) item;
    }))

pub returns-clause-item : goal.returns-clause-item
returns-clause-item c = λ n h item.
    c.next_turn.ensures.item n (subst (λ (t : Turns). OfTree n (values_of t.left)) (sym c.in_ok-turns.ensures.ok) (c.turned_back-left.ensures.of_tree n h))
    (subst (λ (t : Turns). IsOfTree n t.outer.item) (sym c.in_ok-turns.ensures.ok) (subst (λ (d : Context). IsOfTree n d.item) (sym c.taken_out-outer.ensures.value) item))
