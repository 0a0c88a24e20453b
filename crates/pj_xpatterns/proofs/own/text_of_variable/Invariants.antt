use Rattle.std.proofs.Common.{◌≡◌, drop}
use Rattle.pj_xpatterns.specs.Written.{text_of_variable, variables_of}
use Rattle.pj_xpatterns.proofs.own.text_of_variable.Given as goal

abbrev pub invariant-loop-variable : goal.invariant-loop-variable
invariant-loop-variable l = text_of_variable (variables_of (drop l.variable-index l.variables)) l.name ≡ text_of_variable (variables_of l.variables) l.name
