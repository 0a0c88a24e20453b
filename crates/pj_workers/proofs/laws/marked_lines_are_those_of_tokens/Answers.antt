use Rattle.pj_workers.proofs.MarkLaws.{marks_are_one}
use Rattle.pj_workers.proofs.laws.marked_lines_are_those_of_tokens.Goals as goal

pub returns : goal.returns
returns c = marks_are_one
