use Rattle.std.proofs.Common.{[], refl}
use Rattle.pj_xtokens.proofs.Unique.{tokens_same, slices}
use Rattle.pj_xtokens.proofs.laws.tokens_are_one.Goals as goal

pub returns : goal.returns
returns c = record {
  one = λ text ls ms e f x y. let s = tokens_same c.scanner_follows_the_rules.ensures.told _ text text ls ms e f x y refl in (s.tokens, s.ends);
  slices = λ text ls e x. slices _ text text ls e refl x [] refl;
}
