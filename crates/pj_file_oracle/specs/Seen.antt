-- What the code has, as the definitions have it.
use Rattle.pj_names.specs.JavaType.{java_type, type_list}
use Rattle.pj_file_oracle.specs.declared.supertypes.Supertypes.{Supertypes as KeptSupertypes}
use Rattle.pj_file_oracle.specs.Supertypes.{Supertypes}

-- the superclass and the interfaces of a class
abbrev pub supertypes_view : KeptSupertypes → Supertypes
supertypes_view types = record { superclass = java_type types.superclass; interfaces = type_list types.interfaces }
