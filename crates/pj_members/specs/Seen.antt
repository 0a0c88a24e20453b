-- What the code keeps, as the definitions have it.
use Rattle.std.specs.Prelude.{Bool, Option, Some, None, if◌then◌else◌}
use Rattle.pj_names.specs.declared.ty.Types.{Types}
use Rattle.pj_names.specs.JavaType.{Arguments, java_types}
use Rattle.pj_types.specs.declared.members.Field.{Field}
use Rattle.pj_types.specs.Members.{FoundField, field_view}

-- a field, where one was found
abbrev pub seen_field : Option Field → Option FoundField
seen_field None = None
seen_field (Some field) = Some (field_view field)

-- the type arguments of a class on a list, from whether it is the list's own class
abbrev pub own_or : Bool → Types → Option Arguments
own_or is_own arguments = if is_own then None else Some (java_types arguments)
