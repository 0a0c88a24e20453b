-- Types with type variables replaced, and types without type arguments.
use Rattle.std.specs.Prelude.{ℕ, List, Option, Some, None}
use denote.Bor.{Bor}
use Rattle.pj_names.specs.declared.ty.Ty.{Ty}
use Rattle.pj_names.specs.JavaType.{JavaType, Primitive, Void, Null, Class, Array, Variable, Unknown, Arguments, NoMore, Argument, java_type}
use Rattle.pj_signatures.specs.Types.{bound_or}

-- Substitution, JLS 4.5: each variable of a name that is bound is replaced by the type of the first pair of the name, all
-- at once. A variable that is not bound stays, and so do its name and, with the variables in it replaced, its bound.
abbrev mutual
  pub substituted : List (List ℕ × JavaType) → JavaType → JavaType
  substituted bindings (Primitive prim) = Primitive prim
  substituted bindings Void = Void
  substituted bindings Null = Null
  substituted bindings (Class name arguments) = Class name (substituted_arguments bindings arguments)
  substituted bindings (Array member) = Array (substituted bindings member)
  substituted bindings (Variable name bound) = bound_or (Variable name (substituted bindings bound)) bindings name
  substituted bindings Unknown = Unknown

  pub substituted_arguments : List (List ℕ × JavaType) → Arguments → Arguments
  substituted_arguments bindings NoMore = NoMore
  substituted_arguments bindings (Argument first rest) = Argument (substituted bindings first) (substituted_arguments bindings rest)

-- Erasure, JLS 4.6: a class has no type arguments, a type variable is its first bound, erased.
abbrev pub erased : JavaType → JavaType
erased (Primitive prim) = Primitive prim
erased Void = Void
erased Null = Null
erased (Class name arguments) = Class name NoMore
erased (Array member) = Array (erased member)
erased (Variable name bound) = erased bound
erased Unknown = Unknown

-- the type that was found, or another one where there is none
abbrev pub seen_binding : JavaType → Option (Bor Ty) → JavaType
seen_binding other None = other
seen_binding other (Some ty) = java_type ty.now
