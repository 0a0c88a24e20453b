-- The test of two types says whether they are equal.
use Rattle.std.proofs.Common.{◌≡◌, Bool, true, false, IsTrue, refl, sym, ap}
use Rattle.std.specs.Prelude.{◌&&◌, nat_eq}
use Rattle.std.specs.Cmp.Lexicographic.{pointwise, nat_list_eq_equiv, same_text}
use Rattle.pj_names.specs.declared.ty.PrimitiveType.{PrimitiveType}
use Rattle.pj_names.specs.declared.ty.PrimitiveType.TheVariants as p
use Rattle.pj_names.specs.JavaType.{JavaType, Primitive, Void, Null, Class, Array, Variable, Unknown, Arguments, NoMore, Argument}
use Rattle.pj_types.specs.Subtyping.{is_same_primitive}
use Rattle.pj_operators.specs.Same.{same_arguments, same_type}

left_of : (a b : Bool) → IsTrue (a && b) → IsTrue a
left_of true b h = refl
left_of false b h = absurd (cc)

right_of : (a b : Bool) → IsTrue (a && b) → IsTrue b
right_of true b h = h
right_of false b h = absurd (cc)

both_of : (a b : Bool) → IsTrue a → IsTrue b → IsTrue (a && b)
both_of true b h k = k
both_of false b h k = absurd (cc)

primitive-equal : (a b : PrimitiveType) → IsTrue (is_same_primitive a b) → a ≡ b
primitive-equal p.Boolean p.Boolean h = refl
primitive-equal p.Byte p.Byte h = refl
primitive-equal p.Short p.Short h = refl
primitive-equal p.Int p.Int h = refl
primitive-equal p.Long p.Long h = refl
primitive-equal p.Char p.Char h = refl
primitive-equal p.Float p.Float h = refl
primitive-equal p.Double p.Double h = refl
primitive-equal a b h = absurd (cc)

primitive-same : (a : PrimitiveType) → IsTrue (is_same_primitive a a)
primitive-same p.Boolean = refl
primitive-same p.Byte = refl
primitive-same p.Short = refl
primitive-same p.Int = refl
primitive-same p.Long = refl
primitive-same p.Char = refl
primitive-same p.Float = refl
primitive-same p.Double = refl

mutual
  pub types-equal : (ty other : JavaType) → IsTrue (same_type ty other) → ty ≡ other
  types-equal (Primitive a) (Primitive b) h = ap (λ x. Primitive x) (primitive-equal a b h)
  types-equal Void Void h = refl
  types-equal Null Null h = refl
  types-equal (Class a arguments) (Class b others) h =
      let names = same_text a b (sym (left_of (pointwise nat_eq a b) (same_arguments arguments others) h)) in
      let rest = arguments-equal arguments others (right_of (pointwise nat_eq a b) (same_arguments arguments others) h) in
      λ i. Class (names i) (rest i)
  types-equal (Array a) (Array b) h = ap (λ x. Array x) (types-equal a b h)
  types-equal (Variable a bound) (Variable b upper) h =
      let names = same_text a b (sym (left_of (pointwise nat_eq a b) (same_type bound upper) h)) in
      let rest = types-equal bound upper (right_of (pointwise nat_eq a b) (same_type bound upper) h) in
      λ i. Variable (names i) (rest i)
  types-equal Unknown Unknown h = refl
  types-equal ty other h = absurd (cc)

  arguments-equal : (arguments others : Arguments) → IsTrue (same_arguments arguments others) → arguments ≡ others
  arguments-equal NoMore NoMore h = refl
  arguments-equal (Argument a rest) (Argument b more) h =
      let first = types-equal a b (left_of (same_type a b) (same_arguments rest more) h) in
      let behind = arguments-equal rest more (right_of (same_type a b) (same_arguments rest more) h) in
      λ i. Argument (first i) (behind i)
  arguments-equal arguments others h = absurd (cc)

mutual
  pub type-same : (ty : JavaType) → IsTrue (same_type ty ty)
  type-same (Primitive prim) = primitive-same prim
  type-same Void = refl
  type-same Null = refl
  type-same (Class name arguments) = both_of (pointwise nat_eq name name) (same_arguments arguments arguments) (nat_list_eq_equiv.refl name) (arguments-same arguments)
  type-same (Array member) = type-same member
  type-same (Variable name bound) = both_of (pointwise nat_eq name name) (same_type bound bound) (nat_list_eq_equiv.refl name) (type-same bound)
  type-same Unknown = refl

  arguments-same : (arguments : Arguments) → IsTrue (same_arguments arguments arguments)
  arguments-same NoMore = refl
  arguments-same (Argument first rest) = both_of (same_type first first) (same_arguments rest rest) (type-same first) (arguments-same rest)
