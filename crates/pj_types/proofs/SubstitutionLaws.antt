-- Erasing twice is erasing once, and without bindings nothing is replaced.
use Rattle.std.specs.Prelude.{◌≡◌, [], refl}
use Rattle.std.proofs.Common.{ap}
use Rattle.pj_names.specs.JavaType.{JavaType, Primitive, Void, Null, Class, Array, Variable, Unknown, Arguments, NoMore, Argument}
use Rattle.pj_types.specs.Substitution.{substituted, substituted_arguments, erased}

pub erased-again : (ty : JavaType) → erased (erased ty) ≡ erased ty
erased-again (Primitive prim) = refl
erased-again Void = refl
erased-again Null = refl
erased-again (Class name arguments) = refl
erased-again (Array member) = ap (λ m. Array m) (erased-again member)
erased-again (Variable name bound) = erased-again bound
erased-again Unknown = refl

mutual
  pub substituted-none : (ty : JavaType) → substituted [] ty ≡ ty
  substituted-none (Primitive prim) = refl
  substituted-none Void = refl
  substituted-none Null = refl
  substituted-none (Class name arguments) = ap (λ a. Class name a) (arguments-none arguments)
  substituted-none (Array member) = ap (λ m. Array m) (substituted-none member)
  substituted-none (Variable name bound) = ap (λ b. Variable name b) (substituted-none bound)
  substituted-none Unknown = refl

  arguments-none : (arguments : Arguments) → substituted_arguments [] arguments ≡ arguments
  arguments-none NoMore = refl
  arguments-none (Argument first rest) = λ i. Argument (substituted-none first i) (arguments-none rest i)
