use Rattle.std.proofs.Common.{◌≡◌, ◌∙◌, ap, arith, ◌+◌, ◌∷◌, []}
use Rattle.pj_ll.specs.Grammar.{closes}
use Rattle.pj_ll.proofs.Stacking.{closes-append}
use Rattle.pj_ll.proofs.stack.Stack.pop.Goals as goal

pub overflow_sub-self : goal.overflow_sub-self
overflow_sub-self c =
    let stood : c.self.inside.ends ≡ closes c.pop.new.self.items + closes (c.in-Some.symbol ∷ []) =
    c.self.invariant ∙ ap closes c.in-Some.ensures.items ∙ closes-append c.pop.new.self.items (c.in-Some.symbol ∷ []) in
    let one = c.closing.ensures in
    omega arith

pub invariant_of-self : goal.invariant_of-self
invariant_of-self c =
    let stood : c.self.inside.ends ≡ closes c.pop.new.self.items + closes (c.in-Some.symbol ∷ []) =
    c.self.invariant ∙ ap closes c.in-Some.ensures.items ∙ closes-append c.pop.new.self.items (c.in-Some.symbol ∷ []) in
    let one = c.closing.ensures in
    omega arith
