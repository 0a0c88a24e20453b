use Rattle.std.proofs.Common.{◌≡◌, ◌++◌, drop}
use Rattle.pj_written.specs.Seen.{all_parameters}
use Rattle.pj_written.specs.Spelling.{all_parameters_spelled}
use Rattle.pj_written.proofs.spelling.put_each_parameter.Given as goal

abbrev pub invariant-loop-parameter : goal.invariant-loop-parameter
invariant-loop-parameter l = l.text ++ all_parameters_spelled (all_parameters (drop l.parameter-index l.parameter-items)) ≡ l.fn.text ++ all_parameters_spelled (all_parameters l.fn.parameters)
