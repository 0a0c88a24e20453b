use Rattle.pj_xvalue.proofs.Pairs.{to_compares, from_compares, to_fails, from_fails, to_none, from_none}
use Rattle.pj_xvalue.proofs.laws.pairs_decide.Goals as goal

pub returns-clause-compares : goal.returns-clause-compares
returns-clause-compares c = λ op left right. (to_compares op left right, from_compares op left right)

pub returns-clause-fails : goal.returns-clause-fails
returns-clause-fails c = λ op left right code. (to_fails op left right code, from_fails op left right code)

pub returns-clause-neither : goal.returns-clause-neither
returns-clause-neither c = λ op left right. (to_none op left right, from_none op left right)
