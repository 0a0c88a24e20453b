use Rattle.std.proofs.Common.{◌≡◌, map, take}
use Rattle.pj_names.specs.JavaType.{bound_types, type_list}
use Rattle.pj_signatures.specs.Seen.{method_view}
use Rattle.pj_calls.specs.Results.{inferred}
use Rattle.pj_calls.proofs.results.all_inferred.Given as goal

abbrev pub invariant-loop-name : goal.invariant-loop-name
invariant-loop-name l =
    bound_types l.made ≡ map (λ parameter. (parameter.0, inferred (method_view l.signature) (type_list l.arguments) parameter)) (bound_types (take l.name-index l.name-items))
