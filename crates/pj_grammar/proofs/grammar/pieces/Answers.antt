use Rattle.pj_grammar.proofs.SameTable.{pieces_are}
use Rattle.pj_grammar.proofs.IsWellFormed.{some_rule, few_rules, java_17_well_formed}
use Rattle.pj_grammar.proofs.grammar.pieces.Goals as goal

pub returns : goal.returns
returns c = record { pieces = pieces_are; some = some_rule; most = few_rules; well_formed = java_17_well_formed }
