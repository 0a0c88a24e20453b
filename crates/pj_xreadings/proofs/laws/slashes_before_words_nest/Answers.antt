use Rattle.std.proofs.Common.{refl, arith}
use Rattle.pj_xreadings.specs.Nesting.{nested_of, nested_each}
use Rattle.pj_xreadings.proofs.laws.slashes_before_words_nest.Goals as goal

pub returns : goal.returns
unfolding nested_of nested_each
returns c = record {
  word = λ t. omega arith;
  star = λ t. omega arith;
  clause = λ name body. omega arith;
  chosen = λ test other. omega arith;
  sign = refl;
}
