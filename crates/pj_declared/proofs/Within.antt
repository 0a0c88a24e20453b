-- The nearest declaration of a name with a scope within one node, by two bisections.
use Rattle.std.proofs.Common.{ℕ, zero, suc, ◌≡◌, ◌+◌, ◌-◌, ◌<◌, ◌≤◌, ◌⊎◌, Bool, true, false, cond, ◌&&◌, ◌||◌, nat_lt, ◌==◌, List, [], ◌∷◌, length, get_or, filter, None, Some, refl, ap, sym, ◌∙◌, subst, inl, inr, ⊎_elim, arith, true≢false, Ordering, Less, Equal, Greater, nat_cmp, is_lt, is_gt, is_eq}
use Rattle.std.specs.Ordering.{ordering_then}
use Rattle.std.specs.Cmp.{alike_right, tied_back}
use Rattle.std.specs.Cmp.Lexicographic.{slice_cmp, texts_ties}
use Rattle.std.specs.List.Sorted.{IsPartitionPoint}
use Rattle.std.proofs.lemmas.Bool.{cases_Bool, and_parts, and_from, ltb-true, ltb-false, lt-ltb, le-ltb, leb-true, le-leb, eqb-true, cases_lt}
use Rattle.std.proofs.lemmas.List.Sorted.{sorted_far, ranks_by}
use Rattle.pj_tree.specs.declared.node.Node.{Node}
use Rattle.pj_declared.specs.declared.named.Named.{Named}
use Rattle.pj_declared.specs.declared.nearest.Declared.{Declared}
use Rattle.pj_declared.specs.Nearest.{declared_by, nearest}
use Rattle.pj_declared.specs.Table.{before_by, is_before, is_of, is_open, row_order, IsInOrder}
use Rattle.pj_declared.proofs.Nearer.{IsUpTo, IsOf, nearest_one, nearest_is}
use Rattle.pj_declared.proofs.Ordered.{probe, place_order, place_total, row_total, row_tied, place_up, place_below, place_between, numbers_up, before_is}

-- ---- rows of the name, within the node

pub equal_from : (r : Ordering) → is_eq r ≡ true → r ≡ Equal
equal_from Less h = absurd (true≢false (sym h))
equal_from Equal h = refl
equal_from Greater h = absurd (true≢false (sym h))

both_equal : (r s : Ordering) → ordering_then r s ≡ Equal → (r ≡ Equal) × (s ≡ Equal)
both_equal Less s h = absurd (true≢false (sym (ap is_eq h)))
both_equal Equal s h = (refl, h)
both_equal Greater s h = absurd (true≢false (sym (ap is_eq h)))

number_equal : (a b : ℕ) → (a == b) ≡ true → nat_cmp a b ≡ Equal
number_equal a b is =
    let same = eqb-true a b is in
    ap (λ t. cond t Less (cond (a == b) Equal Greater)) (le-ltb a b (omega arith)) ∙ ap (λ t. cond t Equal Greater) is

number_same : (a b : ℕ) → nat_cmp a b ≡ Equal → (a == b) ≡ true
number_same a b h = elim (cases_Bool (a == b)) [
  | inl is ↦ is
  | inr other ↦ absurd (true≢false (sym (ap is_eq h) ∙ ap (λ t. is_eq (cond (nat_lt a b) Less (cond t Equal Greater))) other ∙ least (nat_lt a b)))
]
  where
    least : (t : Bool) → is_eq (cond t Less Greater) ≡ false
    least true = refl
    least false = refl

module _ (name : List ℕ) (within : Node) where
  of_place : (row : Named) (opened : ℕ) → is_of name within row ≡ true → place_order row (probe name within opened) ≡ Equal
  of_place row opened is =
      let parts = and_parts _ _ is in
      let text : slice_cmp nat_cmp row.name name ≡ Equal = equal_from _ (sym (texts_ties row.name name) ∙ parts.0) in
      ap (λ r. ordering_then r (nat_cmp row.scope.within.0 within.0)) text ∙ number_equal row.scope.within.0 within.0 parts.1

  place_of : (row : Named) (opened : ℕ) → place_order row (probe name within opened) ≡ Equal → is_of name within row ≡ true
  place_of row opened e =
      let parts = both_equal (slice_cmp nat_cmp row.name name) (nat_cmp row.scope.within.0 within.0) e in
      and_from _ _ (texts_ties row.name name ∙ ap is_eq parts.0) (number_same row.scope.within.0 within.0 parts.1)

  of_number : (row : Named) (opened : ℕ) → is_of name within row ≡ true → is_before name within opened row ≡ nat_lt row.scope.opened opened
  of_number row opened is =
      let parts = and_parts _ _ is in
      let text : slice_cmp nat_cmp row.name name ≡ Equal = equal_from _ (sym (texts_ties row.name name) ∙ parts.0) in
      let same = eqb-true row.scope.within.0 within.0 parts.1 in
      let lo : Bool = nat_lt row.scope.opened opened in
      ap (λ r. before_by r (nat_lt row.scope.within.0 within.0 || (row.scope.within.0 == within.0 && lo))) text
      ∙ ap (λ t. t || (row.scope.within.0 == within.0 && lo)) (le-ltb row.scope.within.0 within.0 (omega arith))
      ∙ ap (λ t. t && lo) parts.1

  tied : (x y : Named) → is_of name within x ≡ true → is_of name within y ≡ true → place_order x y ≡ Equal
  tied x y p q = alike_right place_total y (probe name within 0) x (of_place y 0 q) ∙ of_place x 0 p

  -- x stands before y or is as y, so it is opened first, or by the same node, and is declared first
  numbers : (x y : Named) → is_of name within x ≡ true → is_of name within y ≡ true → is_lt (row_order y x) ≡ false → (x.scope.opened < y.scope.opened) ⊎ ((x.scope.opened ≡ y.scope.opened) × (x.scope.declared.0 ≤ y.scope.declared.0))
  numbers x y p q h =
      numbers_up x.scope.opened y.scope.opened x.scope.declared.0 y.scope.declared.0 (ap is_lt (sym (row_tied y x (tied y x q p))) ∙ h)

-- ---- rows by their places

pub of_index : (keep : Named → Bool) (xs : List Named) (d : Declared) → IsOf keep xs d → (i : ℕ) × (i < length xs) × ((e : Named) → (keep (get_or xs i e) ≡ true) × (declared_by (get_or xs i e).scope ≡ d))
of_index keep [] d h = absurd h
of_index keep (x ∷ xs) d (inl h) = (0, omega arith, λ e. h)
of_index keep (x ∷ xs) d (inr h) = let r = of_index keep xs d h in (suc r.0, omega (arith, r.1), r.2)

pub at_index : (keep : Named → Bool) (xs : List Named) (i : ℕ) (e : Named) → i < length xs → keep (get_or xs i e) ≡ true → IsOf keep xs (declared_by (get_or xs i e).scope)
at_index keep [] i e inside h = absurd (omega arith)
at_index keep (x ∷ xs) zero e inside h = inl (h, refl)
at_index keep (x ∷ xs) (suc i) e inside h = inr (at_index keep xs i e (omega arith) h)

-- within a list no default is read
default_free : (xs : List Named) (i : ℕ) (d e : Named) → i < length xs → get_or xs i d ≡ get_or xs i e
default_free [] i d e inside = absurd (omega arith)
default_free (x ∷ xs) zero d e inside = refl
default_free (x ∷ xs) (suc i) d e inside = default_free xs i d e (omega arith)

abbrev pub IsSplit : List ℕ → Node → ℕ → List Named → ℕ → Type 0
IsSplit name within opened rows i = IsPartitionPoint (λ (row : Named). is_before name within opened row ≡ true) (λ (row : Named). is_before name within opened row ≡ false) rows i

module _ (rows : List Named) (up : IsInOrder rows) (name : List ℕ) (within place : Node) (past : ℕ) (split : IsSplit name within (place.0 + 1) rows past) where
  abbrev keep : Named → Bool
  keep = is_open name within place

  row : ℕ → Named → Named
  row i e = get_or rows i e

  far : (i j : ℕ) (e : Named) → i ≤ j → j < length rows → is_lt (row_order (get_or rows j e) (get_or rows i e)) ≡ false
  far i j e a b = sorted_far (λ x y. is_lt (row_order x y)) (ranks_by row_total (λ (y : Named). y)) rows up i j e a b

  open_of : (x : Named) → keep x ≡ true → is_of name within x ≡ true
  open_of x is = (and_parts _ _ is).0

  open_from : (x : Named) → keep x ≡ true → x.scope.opened ≤ place.0
  open_from x is = leb-true _ _ (and_parts (is_of name within x) _ is).1

  open_before : (x : Named) → keep x ≡ true → is_before name within (place.0 + 1) x ≡ true
  open_before x is = let l = open_from x is in of_number name within x (place.0 + 1) (open_of x is) ∙ lt-ltb _ _ (omega arith)

  -- a row that is open stands before the split
  inside : (i : ℕ) (e : Named) → i < length rows → keep (get_or rows i e) ≡ true → i < past
  inside i e il is = elim (cases_lt i past) [
    | inl l ↦ l
    | inr ge ↦ absurd (true≢false (sym (open_before (get_or rows i e) is) ∙ split.1 i e ge il))
  ]

  none_open : ((d : Declared) → IsOf keep rows d → ⊥) → None ≡ nearest (filter keep rows)
  none_open never = nearest_one (IsOf keep rows) None (nearest (filter keep rows)) never (nearest_is keep rows)

  first_of : (xs : List Named) (i : ℕ) → i < length xs → Named
  first_of [] i l = absurd (omega arith)
  first_of (x ∷ xs) i l = x

  pub none_before : past ≡ 0 → None ≡ nearest (filter keep rows)
  none_before zero_is = none_open (λ d h.
      let at = of_index keep rows d h in
      let x : Named = first_of rows at.0 at.1 in
      let l = inside at.0 x at.1 (at.2 x).0 in omega arith)

  -- the last row before the split is of the name and the node, where any row is open
  last_is : (i : ℕ) (e : Named) → past ≤ length rows → i < length rows → keep (get_or rows i e) ≡ true → is_of name within (get_or rows (past - 1) e) ≡ true
  last_is i e few il is =
      let l = inside i e il is in
      let x : Named = get_or rows i e in
      let last : Named = get_or rows (past - 1) e in
      let p : Named = probe name within (place.0 + 1) in
      let below : is_lt (row_order last p) ≡ true = sym (before_is name within (place.0 + 1) last) ∙ split.0 (past - 1) e (omega arith) (omega arith) in
      place_of name within last (place.0 + 1)
      (place_between x last p (place_up x last (far i (past - 1) e (omega arith) (omega arith))) (place_below last p below) (of_place name within x (place.0 + 1) (open_of x is)))

  pub none_there : (last : Named) → past ≤ length rows → get_or rows (past - 1) last ≡ last → is_of name within last ≡ false → None ≡ nearest (filter keep rows)
  none_there last few at other = none_open (λ d h.
      let x = of_index keep rows d h in true≢false (sym (last_is x.0 last few x.1 (x.2 last).0) ∙ ap (is_of name within) at ∙ other))

  module _ (last : Named) (some : 0 < past) (few : past ≤ length rows) (at : get_or rows (past - 1) last ≡ last) (of : is_of name within last ≡ true) (first : ℕ) (second : IsSplit name within last.scope.opened rows first) where
    pub first_inside : first < past
    first_inside = elim (cases_lt first past) [
      | inl l ↦ l
      | inr ge ↦ (
          let yes : is_before name within last.scope.opened last ≡ true = ap (is_before name within last.scope.opened) (sym at) ∙ second.0 (past - 1) last (omega arith) (omega arith) in
          absurd (not_itself last.scope.opened (ltb-true _ _ (sym (of_number name within last last.scope.opened of) ∙ yes))))
    ]
      where
        not_itself : (n : ℕ) → n < n → ⊥
        not_itself n l = omega arith

    abbrev found : Named
    found = get_or rows first last

    found_up : is_lt (row_order last found) ≡ false
    found_up = let l = first_inside in ap (λ (x : Named). is_lt (row_order x found)) (sym at) ∙ far first (past - 1) last (omega arith) (omega arith)

    found_not_before : is_before name within last.scope.opened found ≡ false
    found_not_before = let l = first_inside in second.1 first last (omega arith) (omega arith)

    found_of : is_of name within found ≡ true
    found_of =
        let p : Named = probe name within last.scope.opened in
        let last_tied : place_order last p ≡ Equal = of_place name within last last.scope.opened of in
        let above : is_gt (place_order p found) ≡ false = place_up p found (sym (before_is name within last.scope.opened found) ∙ found_not_before) in
        let same : place_order found last ≡ Equal = place_between p found last above (place_up found last found_up) (tied_back place_total last p last_tied) in
        place_of name within found last.scope.opened (place_total.congr found last p same ∙ last_tied)

    found_opened : found.scope.opened ≡ last.scope.opened
    found_opened =
        let ge : last.scope.opened ≤ found.scope.opened = ltb-false _ _ (sym (of_number name within found last.scope.opened found_of) ∙ found_not_before) in
        ⊎_elim (λ l. absurd (omega arith)) (λ l. l.0) (numbers name within found last found_of of found_up)

    last_open : last.scope.opened < place.0 + 1
    last_open = ltb-true _ _ (sym (of_number name within last (place.0 + 1) of) ∙ ap (is_before name within (place.0 + 1)) (sym at) ∙ split.0 (past - 1) last (omega arith) (omega arith))

    found_open : keep found ≡ true
    found_open = let a = found_opened in let b = last_open in and_from _ _ found_of (le-leb found.scope.opened place.0 (omega arith))

    is_up : (i : ℕ) → i < length rows → keep (get_or rows i last) ≡ true → IsUpTo (declared_by (get_or rows i last).scope) (declared_by found.scope)
    is_up i il is =
        let x : Named = get_or rows i last in
        let l = inside i last il is in
        let x_of = open_of x is in
        let opened = found_opened in
        let up_last : is_lt (row_order last x) ≡ false = ap (λ (y : Named). is_lt (row_order y x)) (sym at) ∙ far i (past - 1) last (omega arith) (omega arith) in
        ⊎_elim (λ lower. inl (omega arith)) (λ same. tied_up x x_of same.0 (behind_first x x_of refl same.0)) (numbers name within x last x_of of up_last)
      where
        behind_first : (x : Named) → is_of name within x ≡ true → x ≡ get_or rows i last → x.scope.opened ≡ last.scope.opened → is_lt (row_order x found) ≡ false
        behind_first x x_of is_x same = elim (cases_lt i first) [
          | inl l ↦ absurd (
              let yes : is_before name within last.scope.opened x ≡ true = ap (is_before name within last.scope.opened) is_x ∙ second.0 i last (omega arith) l in
              let low = ltb-true _ _ (sym (of_number name within x last.scope.opened x_of) ∙ yes) in
              omega arith)
          | inr ge ↦ ap (λ (y : Named). is_lt (row_order y found)) is_x ∙ far first i last ge il
        ]

        tied_up : (x : Named) → is_of name within x ≡ true → x.scope.opened ≡ last.scope.opened → is_lt (row_order x found) ≡ false → IsUpTo (declared_by x.scope) (declared_by found.scope)
        tied_up x x_of same h =
            let opened = found_opened in
            ⊎_elim (λ l. absurd (omega arith)) (λ l. inr (omega arith, l.1)) (numbers name within found x found_of x_of h)

    found_is : Some (declared_by found.scope) ≡ nearest (filter keep rows)
    found_is =
        let l = first_inside in
        nearest_one (IsOf keep rows) (Some (declared_by found.scope)) (nearest (filter keep rows))
        (at_index keep rows first last (omega arith) found_open, λ d h. let x = of_index keep rows d h in subst (λ y. IsUpTo y (declared_by found.scope)) (x.2 last).1 (is_up x.0 x.1 (x.2 last).0))
        (nearest_is keep rows)

    pub found_there : (e : Named) → Some (declared_by (get_or rows first e).scope) ≡ nearest (filter keep rows)
    found_there e = let l = first_inside in ap (λ (x : Named). Some (declared_by x.scope)) (default_free rows first e last (omega arith)) ∙ found_is
