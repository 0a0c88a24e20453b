use Rattle.std.proofs.Common.{◌≡◌, ◌∙◌, sym, true, false}
use Rattle.pj_peg_grammar.specs.Derivation.{no_tree}
use Rattle.pj_peg_grammar.specs.Derives.{token_is, token_not}
use Rattle.pj_peg.proofs.evaluate.end_of_token.Goals as goal

pub returns-then-is_kind_at : goal.returns-then-is_kind_at
returns-then-is_kind_at c rules = (no_tree, token_is (c.is_kind_at.ensures.0 c.if-is_kind_at.true))

pub returns-else-is_kind_at : goal.returns-else-is_kind_at
returns-else-is_kind_at c rules = token_not (λ h. let yes = c.is_kind_at.ensures.1 h in let differs : false ≡ true = sym c.if-is_kind_at.false ∙ yes in cc)
