-- Whether two types are the same, with their arguments (JLS 4.3.4).
use Rattle.std.specs.Prelude.{Bool, true, false, ◌&&◌, nat_eq}
use Rattle.std.specs.Cmp.Lexicographic.{pointwise}
use Rattle.pj_names.specs.JavaType.{JavaType, Primitive, Void, Null, Class, Array, Variable, Unknown, Arguments, NoMore, Argument}
use Rattle.pj_types.specs.Subtyping.{is_same_primitive}

abbrev mutual
  pub same_type : JavaType → JavaType → Bool
  same_type (Primitive prim) (Primitive other) = is_same_primitive prim other
  same_type Void Void = true
  same_type Null Null = true
  same_type (Class name arguments) (Class other others) = pointwise nat_eq name other && same_arguments arguments others
  same_type (Array member) (Array other) = same_type member other
  same_type (Variable name bound) (Variable other upper) = pointwise nat_eq name other && same_type bound upper
  same_type Unknown Unknown = true
  same_type ty other = false

  pub same_arguments : Arguments → Arguments → Bool
  same_arguments NoMore NoMore = true
  same_arguments (Argument first rest) (Argument other others) = same_type first other && same_arguments rest others
  same_arguments arguments others = false
