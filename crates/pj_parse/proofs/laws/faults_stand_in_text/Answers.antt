use Rattle.pj_parse.specs.OneOutcome.{ends_in_fault}
use Rattle.pj_grammar.proofs.Stretches.{fault_stands}
use Rattle.pj_parse.proofs.laws.faults_stand_in_text.Goals as goal

pub returns : goal.returns
returns c = λ f p. fault_stands c.args.text.now f c.utf8.text (ends_in_fault c.args.text.now f p)
