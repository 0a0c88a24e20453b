-- Readings of whole expressions, in which nothing is cut off.
use Rattle.std.proofs.Common.{ℕ, List}
use Rattle.pj_xtokens.specs.Tokens.{Lexed}
use Rattle.pj_xgrammar.specs.declared.rule.Rule.{Rule}
use Rattle.pj_xmeaning.specs.RuleMeanings.{Value}
use Rattle.pj_xmeaning.specs.Reach.{All}
use Rattle.pj_xmeaning.specs.Reads.{Reads, Produces, by}

-- what a production spells is what its rule does
pub reading : {rule : Rule} {depth : ℕ} {xs ys : List Lexed} {v : Value rule} → Produces All rule depth xs ys v → Reads All rule depth xs ys v
reading p = by (λ e. e) p
