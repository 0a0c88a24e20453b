use Rattle.pj_parse.specs.FileOutcome.{outcome_of}
use Rattle.pj_parse.proofs.FileCases.{same_file}
use Rattle.pj_parse.specs.FileThere.{text_outcome, file_there}
use Rattle.pj_parse.proofs.laws.file_has_one_outcome.Goals as goal

pub returns : goal.returns
unfolding outcome_of
returns c = record {
  comes = λ bytes. (file_there bytes).1;
  one = λ bytes o x. let there = file_there bytes in same_file text_outcome bytes o there.0 x there.1;
}
