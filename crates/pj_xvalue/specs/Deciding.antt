-- What a general comparison comes to, told by the pairs that it is of (XPath 2.0, 3.5.2), apart from going through them.
use Rattle.std.specs.Prelude.{◌≡◌, true, false, List, ◌∷◌, ◌++◌, Ok, Err, IsOk}
use Rattle.std.specs.List.{All}
use Rattle.pj_xexpressions.specs.declared.operator.Compare.{Compare}
use Rattle.pj_xvalue.specs.declared.fault.XCode.{XCode}
use Rattle.pj_xvalue.specs.Items.{ItemValue}
use Rattle.pj_xvalue.specs.Comparison.{pair_compares}

-- a left and a right item of two sequences, each with what stands before and behind it
pub record PairOf (left right : List ItemValue) : Type 0 where
  pub left_before : List ItemValue
  pub left_item : ItemValue
  pub left_behind : List ItemValue
  pub right_before : List ItemValue
  pub right_item : ItemValue
  pub right_behind : List ItemValue
  pub left_is : left ≡ left_before ++ left_item ∷ left_behind
  pub right_is : right ≡ right_before ++ right_item ∷ right_behind

-- A fact of each pair that is tried before this one: of the left items before it with all right items, and of its own
-- left item with the right items before it.
pub record Before (fact : ItemValue → ItemValue → Type 0) (left right : List ItemValue) (pair : PairOf left right) : Type 0 where
  pub rows : All (λ a. All (fact a) right) pair.left_before
  pub row : All (fact pair.left_item) pair.right_before

-- some pair compares, and no pair before it is an error
pub record SomeCompares (op : Compare) (left right : List ItemValue) : Type 0 where
  pub pair : PairOf left right
  pub compares : pair_compares op pair.left_item pair.right_item ≡ Ok true
  pub before : Before (λ a b. IsOk (pair_compares op a b)) left right pair

-- some pair is an error of this code, and no pair before it compares or is an error
pub record SomeFails (op : Compare) (left right : List ItemValue) (code : XCode) : Type 0 where
  pub pair : PairOf left right
  pub fails : pair_compares op pair.left_item pair.right_item ≡ Err code
  pub before : Before (λ a b. pair_compares op a b ≡ Ok false) left right pair

-- no pair compares, and none is an error
abbrev pub NoneCompares : Compare → List ItemValue → List ItemValue → Type 0
NoneCompares op left right = All (λ a. All (λ b. pair_compares op a b ≡ Ok false) right) left
