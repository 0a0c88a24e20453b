use Rattle.std.proofs.Common.{[], refl}
use Rattle.std.specs.Str.{chars}
use Rattle.pj_lex.proofs.Exists.{reading}
use Rattle.pj_lex.proofs.FaultKinds.{kinds}
use Rattle.pj_lex.proofs.Slices.{slices}
use Rattle.pj_lex.proofs.Unique.{tokens_same}
use Rattle.pj_lex.proofs.laws.tokens_are_one.Goals as goal

pub returns : goal.returns
returns c = record {
  there = λ at. let r = reading at (chars c.args.text.now) in (r.tokens, r.reads);
  one = λ at ls ms x y. tokens_same at at _ _ ls ms x y refl refl;
  slices = λ ls x. slices 0 (chars c.args.text.now) ls x (chars c.args.text.now) [] refl refl;
  kinds = λ at ls x. kinds at (chars c.args.text.now) ls x;
}
