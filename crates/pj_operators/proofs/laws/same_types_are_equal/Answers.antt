use Rattle.std.proofs.Common.{IsTrue, subst}
use Rattle.pj_names.specs.JavaType.{JavaType}
use Rattle.pj_operators.specs.Same.{same_type}
use Rattle.pj_operators.proofs.SameTypes.{type-same, types-equal}
use Rattle.pj_operators.proofs.laws.same_types_are_equal.Goals as goal

pub returns : goal.returns
returns c = λ ty other. (types-equal ty other, λ is. subst (λ (x : JavaType). IsTrue (same_type ty x)) is (type-same ty))
