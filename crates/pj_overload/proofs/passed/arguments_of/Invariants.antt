use Rattle.std.proofs.Common.{◌≡◌, ◌++◌, drop}
use Rattle.pj_names.specs.JavaType.{type_list}
use Rattle.pj_overload.specs.Passed.{arguments_from, arguments_of}
use Rattle.pj_overload.specs.Seen.{arguments_seen}
use Rattle.pj_overload.proofs.passed.arguments_of.Given as goal

abbrev pub invariant-loop-place : goal.invariant-loop-place
invariant-loop-place l = arguments_seen l.arguments ++ arguments_from l.functions l.place (type_list (drop l.place l.types)) ≡ arguments_of l.functions (type_list l.types)
