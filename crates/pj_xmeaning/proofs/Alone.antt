-- An operand behind which nothing stands is left as it is.
use Rattle.std.proofs.Common.{◌≡◌, true, [], None, refl, sym, ap}
use Rattle.pj_xexpressions.specs.Trees as tree
use Rattle.pj_xreadings.specs.Constructs.{construct_of}
use Rattle.pj_xreadings.specs.Operands.{Operand, chain, compared, mixed, ranging}
use Rattle.pj_xmeaning.specs.declared.action.Operation.{Operation}
use Rattle.pj_xmeaning.specs.declared.action.Operation.TheVariants as operation
use Rattle.pj_xmeaning.specs.Parts.{RuleValue, Nothing, One, Many, Compared, UpTo, Sums, Products, Sets, comparison, operands, products, range, sets, sums}
use Rattle.pj_xmeaning.specs.Values.{is_end, is_one, operation_value}

by_operation : (o : Operation) (a : Operand) (w : RuleValue) → operands w ≡ [] → comparison w ≡ None → range w ≡ None → sums w ≡ [] → products w ≡ [] → sets w ≡ [] →
    operation_value o (One a) w ≡ a
by_operation (operation.Chain c) a w e f g h i j = ap (chain (construct_of c) a) e
by_operation operation.Comparison a w e f g h i j = ap (compared a) f
by_operation operation.Range a w e f g h i j = ap (ranging a) g
by_operation operation.Sum a w e f g h i j = ap (mixed tree.Additive' a) h
by_operation operation.Product a w e f g h i j = ap (mixed tree.Multiplicative' a) i
by_operation operation.Sets a w e f g h i j = ap (mixed tree.IntersectExcept a) j
by_operation operation.Operand a w e f g h i j = refl

of_end : (o : Operation) (a : Operand) (w : RuleValue) → is_end w ≡ true → operation_value o (One a) w ≡ a
of_end o a (Many []) e = by_operation o a (Many []) refl refl refl refl refl refl
of_end o a (Compared None) e = by_operation o a (Compared None) refl refl refl refl refl refl
of_end o a (UpTo None) e = by_operation o a (UpTo None) refl refl refl refl refl refl
of_end o a (Sums []) e = by_operation o a (Sums []) refl refl refl refl refl refl
of_end o a (Products []) e = by_operation o a (Products []) refl refl refl refl refl refl
of_end o a (Sets []) e = by_operation o a (Sets []) refl refl refl refl refl refl
of_end o a Nothing e = by_operation o a Nothing refl refl refl refl refl refl
of_end o a _ e = absurd (let z = e in cc)

pub left_alone : (o : Operation) (v w : RuleValue) → is_one v ≡ true → is_end w ≡ true → v ≡ One (operation_value o v w)
left_alone o (One a) w e f = ap One (sym (of_end o a w f))
left_alone o _ w e f = absurd (let z = e in cc)
