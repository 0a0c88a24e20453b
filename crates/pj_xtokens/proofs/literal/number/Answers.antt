use Rattle.std.proofs.Common.{arith}
use Rattle.pj_xtokens.proofs.Digits.{too_large}
use Rattle.pj_xtokens.proofs.literal.number.Goals as goal

pub returns-then-value : goal.returns-then-value
returns-then-value c =
    first_of (
      search (arith, too_large),
      grind (arith, too_large),
    )
