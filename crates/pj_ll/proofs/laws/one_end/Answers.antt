use Rattle.pj_ll.proofs.OneEnd as one
use Rattle.pj_ll.proofs.SomeEnd.{some_end}
use Rattle.pj_ll.proofs.laws.one_end.Goals as goal

pub returns : goal.returns
returns c = record { at_most = one.one_end; some = λ facts entries terminals deepest ok. some_end facts entries ok terminals deepest }
