use Rattle.std.proofs.Common.{◌<◌, ◌≤◌, subst, sym, length}
use Rattle.pj_peg_grammar.proofs.Preorder.{step_at}
use Rattle.pj_peg_grammar.proofs.derivation.Derivation.step.Goals as goal

pub returns-clause-later : goal.returns-clause-later
returns-clause-later c =
    (step_at c.self.inside.steps.items c.self.invariant.1.0 c.args.i c.index.result.now c.self.invariant.1.1
    (subst (λ l. c.args.i < length l) (sym c.self.view_is) c.requires.there) c.index.ensures).0

pub returns-clause-within : goal.returns-clause-within
returns-clause-within c =
    subst (λ l. c.index.result.now.next ≤ length l) c.self.view_is
    (step_at c.self.inside.steps.items c.self.invariant.1.0 c.args.i c.index.result.now c.self.invariant.1.1
    (subst (λ l. c.args.i < length l) (sym c.self.view_is) c.requires.there) c.index.ensures).1
