-- General comparisons (XPath 2.0, 3.5.2).
use Rattle.std.specs.Prelude.{Bool, true, false, not, ◌||◌, List, [], ◌∷◌, ◌++◌, map, Result, Ok, Err, if◌then◌else◌}
use Rattle.std.specs.Ordering.{nat_cmp, int_cmp, is_eq, is_lt, is_le, is_gt, is_ge}
use Rattle.std.specs.Cmp.Lexicographic.{slice_cmp}
use Rattle.std.specs.declared.cmp.Ordering.{Ordering}
use Rattle.std.specs.declared.cmp.Ordering.TheVariants as ordering
use Rattle.pj_xexpressions.specs.declared.operator.Compare.{Compare}
use Rattle.pj_xexpressions.specs.declared.operator.Compare.TheVariants.{Equal, NotEqual, Less, LessOrEqual, Greater, GreaterOrEqual}
use Rattle.pj_xvalue.specs.declared.fault.XCode.{XCode}
use Rattle.pj_xvalue.specs.declared.fault.XCode.TheVariants.{XPTY0004, FOTY0012}
use Rattle.pj_xvalue.specs.Items.{ItemValue, String, Integer, Boolean, is_node}

-- whether two values that stand in this order are as the operator says
abbrev pub holds : Compare → Ordering → Bool
holds Equal order = is_eq order
holds NotEqual order = not (is_eq order)
holds Less order = is_lt order
holds LessOrEqual order = is_le order
holds Greater order = is_gt order
holds GreaterOrEqual order = is_ge order

-- false stands before true
abbrev pub boolean_order : Bool → Bool → Ordering
boolean_order false false = ordering.Equal
boolean_order false true = ordering.Less
boolean_order true false = ordering.Greater
boolean_order true true = ordering.Equal

-- One pair. Two strings are compared by their code points, which in UTF-8 is by their bytes. A node has no typed value,
-- and values of two types do not compare.
abbrev pub pair_compares : Compare → ItemValue → ItemValue → Result Bool XCode
pair_compares op (String a) (String b) = Ok (holds op (slice_cmp nat_cmp a b))
pair_compares op (Integer a) (Integer b) = Ok (holds op (int_cmp a b))
pair_compares op (Boolean a) (Boolean b) = Ok (holds op (boolean_order a b))
pair_compares op a b = Err (if is_node a || is_node b then FOTY0012 else XPTY0004)

-- the pairs of a left and a right item, in the order of the left items and, for each, of the right ones
abbrev pub pairs : List ItemValue → List ItemValue → List (ItemValue × ItemValue)
pairs [] right = []
pairs (a ∷ left) right = map (λ b. (a, b)) right ++ pairs left right

-- a pair that compares, or that is an error, decides; else what follows does
abbrev pub decided : Result Bool XCode → Result Bool XCode → Result Bool XCode
decided (Ok true) rest = Ok true
decided (Ok false) rest = rest
decided (Err code) rest = Err code

-- the first pair that decides
abbrev pub first_deciding : Compare → List (ItemValue × ItemValue) → Result Bool XCode
first_deciding op [] = Ok false
first_deciding op (pair ∷ rest) = decided (pair_compares op pair.0 pair.1) (first_deciding op rest)

-- whether some pair compares, tried in their order up to the first pair that does or is an error
abbrev pub general_comparison : Compare → List ItemValue → List ItemValue → Result Bool XCode
general_comparison op left right = first_deciding op (pairs left right)
