use Rattle.std.proofs.Common.{length, sym}
use Rattle.pj_parse.specs.FileOutcome.{outcome_of}
use Rattle.pj_workers.specs.Chosen.{numbers_to}
use Rattle.pj_workers.proofs.Chosen.{all_chosen, chosen_are_file}
use Rattle.pj_workers.proofs.laws.chosen_rules_are_the_file.Goals as goal

pub returns : goal.returns
returns c = λ replies path bytes rules. sym (chosen_are_file replies path (outcome_of bytes) rules (numbers_to (length rules)) (all_chosen rules))
