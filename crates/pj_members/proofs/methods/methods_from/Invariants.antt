use Rattle.std.proofs.Common.{◌≡◌, ◌++◌, drop}
use Rattle.pj_names.specs.JavaType.{bound_types}
use Rattle.pj_types.specs.Members.{all_methods}
use Rattle.pj_members.specs.InClass.{methods_from}
use Rattle.pj_members.proofs.methods.methods_from.Given as goal

abbrev pub invariant-loop-member : goal.invariant-loop-member
invariant-loop-member l =
    all_methods l.found ++ methods_from l.owner (bound_types l.parameters) (bound_types l.bound) l.name (drop l.member-index l.member-items)
    ≡ methods_from l.owner (bound_types l.parameters) (bound_types l.bound) l.name l.members
