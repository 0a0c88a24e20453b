-- More arguments than a function can take.
use Rattle.std.proofs.Common.{◌≡◌, ◌<◌, List, [], ◌∷◌, map, length, refl, arith}
use Rattle.pj_xexpressions.specs.declared.function.Function.{Function}
use Rattle.pj_xvalue.specs.declared.item.Item.{Item}
use Rattle.pj_xvalue.specs.Items.{values_of}
use Rattle.pj_xpatterns.specs.Meaning.{Pattern}
use Rattle.pj_xfuncs.specs.Library.{by_number, none}

pub more-arguments : (patterns : List Pattern) (function : Function) (arguments : List (List Item)) → 4 < length arguments → none ≡ by_number patterns function (map values_of arguments)
more-arguments patterns function [] many = absurd (omega (arith, many))
more-arguments patterns function (a ∷ []) many = absurd (omega (arith, many))
more-arguments patterns function (a ∷ b ∷ []) many = absurd (omega (arith, many))
more-arguments patterns function (a ∷ b ∷ c ∷ []) many = absurd (omega (arith, many))
more-arguments patterns function (a ∷ b ∷ c ∷ d ∷ []) many = absurd (omega (arith, many))
more-arguments patterns function (a ∷ b ∷ c ∷ d ∷ e ∷ rest) many = refl
