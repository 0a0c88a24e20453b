use Rattle.std.proofs.Common.{◌≡◌, drop}
use Rattle.pj_names.specs.JavaType.{bound_types}
use Rattle.pj_members.specs.InClass.{first_field}
use Rattle.pj_members.proofs.fields.first_field.Given as goal

abbrev pub invariant-loop-member : goal.invariant-loop-member
invariant-loop-member l =
    first_field l.owner (bound_types l.parameters) (bound_types l.bound) l.name l.members
    ≡ first_field l.owner (bound_types l.parameters) (bound_types l.bound) l.name (drop l.member-index l.member-items)
