-- Fields and methods, as contracts compare them: types by what they stand for.
use Rattle.std.specs.Prelude.{ℕ, List, map}
use Rattle.pj_names.specs.ClassName.{Name}
use Rattle.pj_names.specs.JavaType.{JavaType, java_type}
use Rattle.pj_signatures.specs.Types.{MethodTypes}
use Rattle.pj_signatures.specs.Seen as signatures
use Rattle.pj_types.specs.declared.members.Field.{Field}
use Rattle.pj_types.specs.declared.members.Method.{Method}

-- a field, with the class that has it
pub record FoundField : Type 0 where
  pub owner : Name
  pub ty : JavaType

-- a method, with the class that has it
pub record FoundMethod : Type 0 where
  pub owner : Name
  pub flags : ℕ
  pub name : List ℕ
  pub types : MethodTypes

-- what a `Field` stands for
abbrev pub field_view : Field → FoundField
field_view field = record { owner = field.owner; ty = java_type field.ty }

-- what a `Method` stands for
abbrev pub method_view : Method → FoundMethod
method_view method = record { owner = method.owner; flags = method.flags; name = method.name; types = signatures.method_view method.signature }

-- what a list of methods stands for
abbrev pub all_methods : List Method → List FoundMethod
all_methods methods = map method_view methods
