use Rattle.pj_peg_grammar.proofs.Unique.{unique}
use Rattle.pj_peg_grammar.proofs.Exists.{has_outcome}
use Rattle.pj_peg_grammar.proofs.laws.one_outcome.Goals as goal

pub returns : goal.returns
returns c = record {
  one_outcome = λ rules kinds r i well lt.
      let (o, x) = has_outcome rules kinds well r i lt in
      (o, x, λ p y. unique rules kinds y x);
}
