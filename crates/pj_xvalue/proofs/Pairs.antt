-- General comparisons, told by their pairs.
use Rattle.std.proofs.Common.{◌≡◌, ◌≢◌, Bool, true, false, List, [], ◌∷◌, ◌++◌, map, Result, Ok, Err, IsOk, refl, sym, ◌∙◌, ap, subst}
use Rattle.std.specs.List.{All}
use Rattle.std.proofs.lemmas.List.Elements.{All-nil, All-cons, All-head, All-tail, All-weaker}
use Rattle.pj_xexpressions.specs.declared.operator.Compare.{Compare}
use Rattle.pj_xvalue.specs.declared.fault.XCode.{XCode}
use Rattle.pj_xvalue.specs.Items.{ItemValue}
use Rattle.pj_xvalue.specs.Comparison.{pair_compares, decided, first_deciding, pairs, general_comparison}
use Rattle.pj_xvalue.specs.Deciding.{SomeCompares, SomeFails, NoneCompares}
use Rattle.pj_xvalue.proofs.Deciding.{first_deciding-append}

-- what the first element that decides gives
abbrev deciding : {X : Type 0} → (X → Result Bool XCode) → List X → Result Bool XCode
deciding f [] = Ok false
deciding f (x ∷ xs) = decided (f x) (deciding f xs)

-- a comparison goes through the left items, and for each through the right ones
row_deciding : (op : Compare) (a : ItemValue) (right : List ItemValue) → first_deciding op (map (λ b. (a, b)) right) ≡ deciding (pair_compares op a) right
row_deciding op a [] = refl
row_deciding op a (b ∷ right) = ap (decided (pair_compares op a b)) (row_deciding op a right)

comparison_deciding : (op : Compare) (left right : List ItemValue) → general_comparison op left right ≡ deciding (λ a. deciding (pair_compares op a) right) left
comparison_deciding op [] right = refl
comparison_deciding op (a ∷ left) right =
    first_deciding-append op (map (λ b. (a, b)) right) (pairs left right)
    ∙ ap (λ r. decided r (general_comparison op left right)) (row_deciding op a right)
    ∙ ap (decided (deciding (pair_compares op a) right)) (comparison_deciding op left right)

-- an element of a list at which the function is r, and before it of which the fact holds
record At {X : Type 0} (f : X → Result Bool XCode) (fact : Result Bool XCode → Type 0) (xs : List X) (r : Result Bool XCode) : Type 0 where
  before : List X
  item : X
  behind : List X
  is : xs ≡ before ++ item ∷ behind
  gives : f item ≡ r
  earlier : All (λ x. fact (f x)) before

abbrev IsFalse : Result Bool XCode → Type 0
IsFalse r = r ≡ Ok false

at_head : {X : Type 0} (f : X → Result Bool XCode) (x : X) (xs : List X) (r : Result Bool XCode) → f x ≡ r → At f IsFalse (x ∷ xs) r
at_head f x xs r e = record { before = []; item = x; behind = xs; is = refl; gives = e; earlier = All-nil (λ y. IsFalse (f y)) }

found_step : {X : Type 0} (f : X → Result Bool XCode) (x : X) (xs : List X) (r v : Result Bool XCode) → f x ≡ v → decided v (deciding f xs) ≡ r → (deciding f xs ≡ r → At f IsFalse xs r) → At f IsFalse (x ∷ xs) r
found_step f x xs r (Ok true) e h rest = at_head f x xs r (e ∙ h)
found_step f x xs r (Err code) e h rest = at_head f x xs r (e ∙ h)
found_step f x xs r (Ok false) e h rest =
    let g = rest h in
    record { before = x ∷ g.before; item = g.item; behind = g.behind; is = ap (λ ys. x ∷ ys) g.is; gives = g.gives; earlier = All-cons (λ y. IsFalse (f y)) x g.before e g.earlier }

-- what is not false is found
found : {X : Type 0} (f : X → Result Bool XCode) (xs : List X) (r : Result Bool XCode) → r ≢ Ok false → deciding f xs ≡ r → At f IsFalse xs r
found f [] r is h = absurd (is (sym h))
found f (x ∷ xs) r is h = found_step f x xs r (f x) refl h (found f xs r is)

none_step : {X : Type 0} (f : X → Result Bool XCode) (x : X) (xs : List X) (v : Result Bool XCode) → f x ≡ v → decided v (deciding f xs) ≡ Ok false → (deciding f xs ≡ Ok false → All (λ y. IsFalse (f y)) xs) → All (λ y. IsFalse (f y)) (x ∷ xs)
none_step f x xs (Ok true) e h rest = let no = h in cc
none_step f x xs (Err code) e h rest = let no = h in cc
none_step f x xs (Ok false) e h rest = All-cons (λ y. IsFalse (f y)) x xs e (rest h)

none : {X : Type 0} (f : X → Result Bool XCode) (xs : List X) → deciding f xs ≡ Ok false → All (λ y. IsFalse (f y)) xs
none f [] h = All-nil (λ y. IsFalse (f y))
none f (x ∷ xs) h = none_step f x xs (f x) refl h (none f xs)

none_decides : {X : Type 0} (f : X → Result Bool XCode) (xs : List X) → All (λ y. IsFalse (f y)) xs → deciding f xs ≡ Ok false
none_decides f [] a = refl
none_decides f (x ∷ xs) a =
    ap (λ r. decided r (deciding f xs)) (All-head (λ y. IsFalse (f y)) x xs a) ∙ none_decides f xs (All-tail (λ y. IsFalse (f y)) x xs a)

-- what decides, behind what does not
stops : {X : Type 0} (f : X → Result Bool XCode) (before : List X) (x : X) (behind : List X) (r : Result Bool XCode) → decided r (deciding f behind) ≡ r → f x ≡ r → All (λ y. IsFalse (f y)) before → deciding f (before ++ x ∷ behind) ≡ r
stops f [] x behind r ends e a = ap (λ v. decided v (deciding f behind)) e ∙ ends
stops f (y ∷ before) x behind r ends e a =
    ap (λ v. decided v (deciding f (before ++ x ∷ behind))) (All-head (λ z. IsFalse (f z)) y before a)
    ∙ stops f before x behind r ends e (All-tail (λ z. IsFalse (f z)) y before a)

true_behind : (v rest : Result Bool XCode) → IsOk v → rest ≡ Ok true → decided v rest ≡ Ok true
true_behind (Ok true) rest ok e = refl
true_behind (Ok false) rest ok e = e
true_behind (Err code) rest ok e = let no = ok in cc

-- what is true, behind what is no error
holds_behind : {X : Type 0} (f : X → Result Bool XCode) (before : List X) (x : X) (behind : List X) → f x ≡ Ok true → All (λ y. IsOk (f y)) before → deciding f (before ++ x ∷ behind) ≡ Ok true
holds_behind f [] x behind e a = ap (λ v. decided v (deciding f behind)) e
holds_behind f (y ∷ before) x behind e a =
    true_behind (f y) (deciding f (before ++ x ∷ behind)) (All-head (λ z. IsOk (f z)) y before a) (holds_behind f before x behind e (All-tail (λ z. IsOk (f z)) y before a))

ok_behind : (v rest : Result Bool XCode) → IsOk v → IsOk rest → IsOk (decided v rest)
ok_behind (Ok true) rest ok e = refl
ok_behind (Ok false) rest ok e = e
ok_behind (Err code) rest ok e = let no = ok in cc

all_ok : {X : Type 0} (f : X → Result Bool XCode) (xs : List X) → All (λ y. IsOk (f y)) xs → IsOk (deciding f xs)
all_ok f [] a = refl
all_ok f (x ∷ xs) a = ok_behind (f x) (deciding f xs) (All-head (λ z. IsOk (f z)) x xs a) (all_ok f xs (All-tail (λ z. IsOk (f z)) x xs a))

ok_of_false : (r : Result Bool XCode) → r ≡ Ok false → IsOk r
ok_of_false r e = subst IsOk (sym e) refl

module _ (op : Compare) (left right : List ItemValue) where
  abbrev row : ItemValue → Result Bool XCode
  row a = deciding (pair_compares op a) right

  -- the rows before, element by element
  rows_before : (before : List ItemValue) → All (λ a. IsFalse (row a)) before → All (λ a. All (λ b. pair_compares op a b ≡ Ok false) right) before
  rows_before before a = All-weaker (λ x. IsFalse (row x)) (λ x. All (λ b. pair_compares op x b ≡ Ok false) right) (λ x e. none (pair_compares op x) right e) before a

  pub to_compares : general_comparison op left right ≡ Ok true → SomeCompares op left right
  to_compares h =
      let outer = found row left (Ok true) (λ e. cc) (sym (comparison_deciding op left right) ∙ h) in
      let inner = found (pair_compares op outer.item) right (Ok true) (λ e. cc) outer.gives in
      record {
        pair = record {
          left_before = outer.before;
          left_item = outer.item;
          left_behind = outer.behind;
          right_before = inner.before;
          right_item = inner.item;
          right_behind = inner.behind;
          left_is = outer.is;
          right_is = inner.is;
        };
        compares = inner.gives;
        before = record {
          rows = All-weaker (λ x. IsFalse (row x)) (λ x. All (λ b. IsOk (pair_compares op x b)) right)
              (λ x e. All-weaker (λ b. pair_compares op x b ≡ Ok false) (λ b. IsOk (pair_compares op x b)) (λ b. ok_of_false (pair_compares op x b)) right (none (pair_compares op x) right e)) outer.before outer.earlier;
          row = All-weaker (λ b. pair_compares op outer.item b ≡ Ok false) (λ b. IsOk (pair_compares op outer.item b)) (λ b. ok_of_false (pair_compares op outer.item b)) inner.before inner.earlier;
        };
      }

  pub to_fails : (code : XCode) → general_comparison op left right ≡ Err code → SomeFails op left right code
  to_fails code h =
      let outer = found row left (Err code) (λ e. cc) (sym (comparison_deciding op left right) ∙ h) in
      let inner = found (pair_compares op outer.item) right (Err code) (λ e. cc) outer.gives in
      record {
        pair = record {
          left_before = outer.before;
          left_item = outer.item;
          left_behind = outer.behind;
          right_before = inner.before;
          right_item = inner.item;
          right_behind = inner.behind;
          left_is = outer.is;
          right_is = inner.is;
        };
        fails = inner.gives;
        before = record { rows = rows_before outer.before outer.earlier; row = inner.earlier };
      }

  pub to_none : general_comparison op left right ≡ Ok false → NoneCompares op left right
  to_none h = rows_before left (none row left (sym (comparison_deciding op left right) ∙ h))

  pub from_compares : SomeCompares op left right → general_comparison op left right ≡ Ok true
  from_compares s =
      let here : row s.pair.left_item ≡ Ok true = ap (deciding (pair_compares op s.pair.left_item)) s.pair.right_is ∙ holds_behind (pair_compares op s.pair.left_item) s.pair.right_before s.pair.right_item s.pair.right_behind s.compares s.before.row in
      let rows = All-weaker (λ a. All (λ b. IsOk (pair_compares op a b)) right) (λ a. IsOk (row a)) (λ a ok. all_ok (pair_compares op a) right ok) s.pair.left_before s.before.rows in
      comparison_deciding op left right ∙ ap (deciding row) s.pair.left_is ∙ holds_behind row s.pair.left_before s.pair.left_item s.pair.left_behind here rows

  pub from_fails : (code : XCode) → SomeFails op left right code → general_comparison op left right ≡ Err code
  from_fails code s =
      let here : row s.pair.left_item ≡ Err code = ap (deciding (pair_compares op s.pair.left_item)) s.pair.right_is ∙ stops (pair_compares op s.pair.left_item) s.pair.right_before s.pair.right_item s.pair.right_behind (Err code) refl s.fails s.before.row in
      let rows = All-weaker (λ a. All (λ b. pair_compares op a b ≡ Ok false) right) (λ a. IsFalse (row a)) (λ a each. none_decides (pair_compares op a) right each) s.pair.left_before s.before.rows in
      comparison_deciding op left right ∙ ap (deciding row) s.pair.left_is ∙ stops row s.pair.left_before s.pair.left_item s.pair.left_behind (Err code) refl here rows

  pub from_none : NoneCompares op left right → general_comparison op left right ≡ Ok false
  from_none a =
      comparison_deciding op left right ∙ none_decides row left (All-weaker (λ x. All (λ b. pair_compares op x b ≡ Ok false) right) (λ x. IsFalse (row x)) (λ x each. none_decides (pair_compares op x) right each) left a)
