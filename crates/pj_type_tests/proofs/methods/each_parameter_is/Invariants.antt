use Rattle.std.proofs.Common.{◌≡◌, drop}
use Rattle.pj_names.specs.JavaType.{type_list}
use Rattle.pj_type_tests.specs.Methods.{each_parameter_is}
use Rattle.pj_type_tests.proofs.methods.each_parameter_is.Given as goal

abbrev pub invariant-loop-pattern : goal.invariant-loop-pattern
invariant-loop-pattern l = each_parameter_is l.patterns (type_list l.parameters) ≡ each_parameter_is (drop l.pattern-index l.patterns) (type_list l.rest)
