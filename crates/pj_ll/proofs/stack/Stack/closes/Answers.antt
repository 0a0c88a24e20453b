use Rattle.std.proofs.Common.{◌∙◌, sym, ap}
use Rattle.pj_ll.specs.Grammar.{closes}
use Rattle.pj_ll.proofs.Stacking.{closes-reverse}
use Rattle.pj_ll.proofs.stack.Stack.closes.Goals as goal

pub returns : goal.returns
returns c = c.self.invariant ∙ sym (closes-reverse c.self.inside.symbols.items) ∙ ap closes c.self.view_is
