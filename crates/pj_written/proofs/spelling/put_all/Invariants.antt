use Rattle.std.proofs.Common.{◌≡◌, ◌++◌, drop}
use Rattle.pj_names.specs.JavaType.{type_list}
use Rattle.pj_written.specs.Spelling.{all_spelled}
use Rattle.pj_written.proofs.spelling.put_all.Given as goal

abbrev pub invariant-loop-ty : goal.invariant-loop-ty
invariant-loop-ty l = l.text ++ all_spelled (type_list (drop l.ty-index l.ty-items)) ≡ l.fn.text ++ all_spelled (type_list l.fn.types)
