use Rattle.std.proofs.Common.{ℕ, ◌≡◌, ◌∷◌, List, length, arith, sym, ◌∙◌, ap}
use Rattle.pj_tree.specs.Tree.{slice_at}
use Rattle.pj_tree.specs.Rows.{texts_left, token_at}
use Rattle.pj_tree.proofs.own_tokens.OwnTokensIterator.next.Goals as goal
use Rattle.pj_tree.proofs.TokenLists.{texts_next}

-- the token at the index, and then those that it leads to
pub returns-clause-steps : goal.returns-clause-steps
returns-clause-steps c =
    sym c.self.view_is ∙ (texts_next c.self.inside.text.now c.self.inside.tokens.now c.self.inside.owner c.self.inside.next c.self.invariant.leads_on c.if-at-self.false (c.self.invariant.is c.if-at-self.false)
    ∙ ap (λ (piece : List ℕ). piece ∷ texts_left c.self.inside.text.now c.self.inside.tokens.now c.self.inside.owner (token_at c.self.inside.tokens.now c.self.inside.next).next) (sym c.range.ensures.value))

pub returns-clause-goes : goal.returns-clause-goes
returns-clause-goes c =
    let is : c.args.self.now ≡ slice_at c.self.inside.text.now (token_at c.self.inside.tokens.now c.self.inside.next).span ∷ texts_left c.self.inside.text.now c.self.inside.tokens.now c.self.inside.owner (token_at c.self.inside.tokens.now c.self.inside.next).next
    = sym c.self.view_is ∙ texts_next c.self.inside.text.now c.self.inside.tokens.now c.self.inside.owner c.self.inside.next c.self.invariant.leads_on c.if-at-self.false (c.self.invariant.is c.if-at-self.false) in
    record { on = λ _. (tt, tt, omega (arith, ap length is)); keeps = tt; rests = λ _. tt }
