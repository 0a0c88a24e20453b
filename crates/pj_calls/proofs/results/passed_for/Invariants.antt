use Rattle.std.proofs.Common.{◌≡◌, ◌++◌, drop}
use Rattle.pj_names.specs.JavaType.{type_list}
use Rattle.pj_calls.specs.Results.{passed_for}
use Rattle.pj_calls.proofs.results.passed_for.Given as goal

abbrev pub invariant-loop-place : goal.invariant-loop-place
invariant-loop-place l =
    type_list l.passed ++ passed_for l.name (type_list (drop l.place l.parameters)) (type_list (drop l.place l.arguments)) ≡ passed_for l.name (type_list l.parameters) (type_list l.arguments)
