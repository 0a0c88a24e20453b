use Rattle.std.proofs.Common.{◌≡◌, drop}
use Rattle.pj_names.specs.JavaType.{java_type, type_list}
use Rattle.pj_calls.specs.Results.{all_same}
use Rattle.pj_calls.proofs.results.all_same.Given as goal

abbrev pub invariant-loop-other : goal.invariant-loop-other
invariant-loop-other l = all_same (java_type l.ty) (type_list l.types) ≡ all_same (java_type l.ty) (type_list (drop l.other-index l.types))
