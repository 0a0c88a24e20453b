use Rattle.std.proofs.Common.{◌≡◌, drop}
use Rattle.pj_names.specs.JavaType.{bound_types, java_types}
use Rattle.pj_types.specs.Supertypes.{paired}
use Rattle.pj_types.proofs.Pairs.{in_front}
use Rattle.pj_types.proofs.listed.paired.Given as goal

abbrev pub invariant-loop-name : goal.invariant-loop-name
invariant-loop-name l =
    paired (bound_types l.parameters) (java_types l.fn.arguments) ≡ in_front (bound_types l.bindings) (paired (bound_types (drop l.name-index l.name-items)) (java_types l.rest))
