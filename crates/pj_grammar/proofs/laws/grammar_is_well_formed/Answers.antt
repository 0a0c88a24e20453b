use Rattle.pj_grammar.proofs.IsWellFormed.{java_17_well_formed}
use Rattle.pj_grammar.proofs.laws.grammar_is_well_formed.Goals as goal

pub returns : goal.returns
returns c = record { well_formed = java_17_well_formed }
