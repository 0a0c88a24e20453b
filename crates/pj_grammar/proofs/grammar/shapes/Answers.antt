use Rattle.pj_grammar.proofs.SameTable.{shapes_are}
use Rattle.pj_grammar.proofs.grammar.shapes.Goals as goal

pub returns : goal.returns
returns c = record { shapes = shapes_are }
