use Rattle.std.proofs.Common.{◌≡◌, ◌∙◌, ap, arith, ◌+◌, ◌∷◌, []}
use Rattle.pj_ll.specs.Grammar.{closes}
use Rattle.pj_ll.proofs.Stacking.{closes-append, closes_few}
use Rattle.pj_ll.proofs.stack.Stack.push.Goals as goal

pub overflow_add-self : goal.overflow_add-self
overflow_add-self c =
    let few = closes_few c.push.new.self.items in
    let items : closes c.push.new.self.items ≡ closes c.self.inside.symbols.items + closes (c.args.symbol ∷ []) =
    ap closes c.in_ok-push.ensures.items ∙ closes-append c.self.inside.symbols.items (c.args.symbol ∷ []) in
    let one = c.closing.ensures in
    let stood = c.self.invariant in
    let s = c.push.new.self.small in
    omega arith

pub invariant_of-self-2 : goal.invariant_of-self-2
invariant_of-self-2 c =
    let items : closes c.push.new.self.items ≡ closes c.self.inside.symbols.items + closes (c.args.symbol ∷ []) =
    ap closes c.in_ok-push.ensures.items ∙ closes-append c.self.inside.symbols.items (c.args.symbol ∷ []) in
    let one = c.closing.ensures in
    let stood = c.self.invariant in
    omega arith
