use Rattle.std.proofs.Common.{◌≡◌, ◌∷◌, [], length, arith, sym, ◌∙◌, ap}
use Rattle.pj_tree.specs.Rows.{children_left, end_at}
use Rattle.pj_tree.proofs.children.ChildrenIterator.next.Goals as goal
use Rattle.pj_tree.proofs.ChildLists.{children_next, children_end, among_next}

-- nothing is left at the end
pub returns-then-self-clause-steps : goal.returns-then-self-clause-steps
returns-then-self-clause-steps c =
    let at : c.self.inside.next ≡ end_at c.self.inside.rows.now c.self.inside.parent.0 = c.if-self.true ∙ c.self.invariant.end_is in
    let none : children_left c.self.inside.rows.now c.self.inside.parent c.self.inside.next ≡ [] = rw at (children_end c.self.inside.rows.now c.self.inside.parent c.self.invariant.ends) in
    let is : c.args.self.now ≡ [] = sym c.self.view_is ∙ none in
    (is, is)

pub invariant_of-self : goal.invariant_of-self
invariant_of-self c =
    among_next c.self.inside.rows.now c.self.inside.parent c.self.inside.next c.self.inside.end c.self.invariant (omega (arith, c.self.invariant.to, c.if-self.false))

pub returns-clause-steps : goal.returns-clause-steps
returns-clause-steps c =
    sym c.self.view_is ∙ children_next c.self.inside.rows.now c.self.inside.parent c.self.inside.next c.self.inside.end c.self.invariant (omega (arith, c.self.invariant.to, c.if-self.false))

pub returns-clause-goes : goal.returns-clause-goes
returns-clause-goes c =
    let is : c.args.self.now ≡ record { 0 = c.self.inside.next } ∷ children_left c.self.inside.rows.now c.self.inside.parent (end_at c.self.inside.rows.now c.self.inside.next)
    = sym c.self.view_is ∙ children_next c.self.inside.rows.now c.self.inside.parent c.self.inside.next c.self.inside.end c.self.invariant (omega (arith, c.self.invariant.to, c.if-self.false)) in
    record { on = λ _. (tt, tt, omega (arith, ap length is)); keeps = tt; rests = λ _. tt }
