use Rattle.std.proofs.Common.{refl}
use Rattle.pj_lex.proofs.Exists.{reading}
use Rattle.pj_lex.proofs.Unique.{tokens_same}
use Rattle.pj_lex.proofs.laws.all_texts_have_tokens.Goals as goal

pub returns : goal.returns
returns c = record {
  there = λ at text. let r = reading at text in (r.tokens, r.reads);
  one = λ at text ls ms x y. tokens_same at at text text ls ms x y refl refl;
}
