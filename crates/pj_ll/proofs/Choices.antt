-- The table of choices as it is made.
use Rattle.std.proofs.Common.{◌≡◌, ℕ, zero, suc, ◌+◌, ◌<◌, ◌≤◌, true, false, List, [], ◌∷◌, ◌++◌, length, Option, Some, None, refl, sym, ◌∙◌, ap, subst, inl, inr, ⊎_elim, arith, Vec, Global, get_or}
use Rattle.std.specs.Prelude.{slice_get, slice_set, ◌≢◌}
use Rattle.pj_ll.specs.Grammar.{Entry}
use Rattle.pj_ll.specs.Predictive.{IsIn, IsChosenAt}
use Rattle.pj_ll.specs.Table.{AddsChoices, AreChoices, IsChoice, cell, choice_in, column_of, row_at}
use Rattle.pj_ll.proofs.Lists.{in_cases, in_left, in_right, in_or_not, same_or, bool_cases, get_append, get_push, get_push_cases}

pub no_choices : (number : ℕ) (row : List (Option ℕ)) → AddsChoices [] false number row row
no_choices number row = record { sets = λ t h. absurd h; sets_end = λ e. absurd (let z = e in cc); only = λ t. inl refl; only_end = inl refl }

-- one terminal more
pub one_more : (on : List ℕ) (number t : ℕ) (old row new : List (Option ℕ)) → AddsChoices on false number old row →
    cell new (t + 1) ≡ Some number → ((c : ℕ) → c ≢ t + 1 → cell new c ≡ cell row c) → AddsChoices (on ++ t ∷ []) false number old new
one_more on number t old row new so_far here others = record {
  sets = λ u h. ⊎_elim
      (λ (k : IsIn on u). ⊎_elim
      (λ (e : u ≡ t). ap (λ n. cell new (n + 1)) e ∙ here)
      (λ (d : u ≢ t). let e : u + 1 ≢ t + 1 = differs u d in others (u + 1) e ∙ so_far.sets u k)
      (same_or u t))
      (λ (k : IsIn (t ∷ []) u). ⊎_elim (λ (e : u ≡ t). ap (λ n. cell new (n + 1)) e ∙ here) (λ z. absurd z) k)
      (in_cases on (t ∷ []) u h);
  sets_end = λ e. absurd (let z = e in cc);
  only = λ u. ⊎_elim
      (λ (e : u ≡ t). inr (ap (λ n. cell new (n + 1)) e ∙ here, in_right on (t ∷ []) u (inl e)))
      (λ (d : u ≢ t). let e : u + 1 ≢ t + 1 = differs u d in ⊎_elim
      (λ k. inl (others (u + 1) e ∙ k))
      (λ (k : (cell row (u + 1) ≡ Some number) × IsIn on u). inr (others (u + 1) e ∙ k.0, in_left on (t ∷ []) u k.1))
      (so_far.only u))
      (same_or u t);
  only_end = let e : 0 ≢ t + 1 = zero_differs in ⊎_elim
      (λ k. inl (others 0 e ∙ k))
      (λ (k : (cell row 0 ≡ Some number) × (false ≡ true)). absurd (let z = k.1 in cc))
      so_far.only_end;
}
  where
    differs : (u : ℕ) → u ≢ t → u + 1 ≢ t + 1
    differs u d e = d (omega arith)

    zero_differs : 0 ≢ t + 1
    zero_differs e = omega arith

-- and the end
pub end_more : (on : List ℕ) (number : ℕ) (old row new : List (Option ℕ)) → AddsChoices on false number old row →
    cell new 0 ≡ Some number → ((c : ℕ) → c ≢ 0 → cell new c ≡ cell row c) → AddsChoices on true number old new
end_more on number old row new so_far here others = record {
  sets = λ t h. others (t + 1) (some_differs t) ∙ so_far.sets t h;
  sets_end = λ e. here;
  only = λ t. ⊎_elim
      (λ k. inl (others (t + 1) (some_differs t) ∙ k))
      (λ (k : (cell row (t + 1) ≡ Some number) × IsIn on t). inr (others (t + 1) (some_differs t) ∙ k.0, k.1))
      (so_far.only t);
  only_end = inr (here, refl);
}
  where
    some_differs : (t : ℕ) → t + 1 ≢ 0
    some_differs t e = omega arith

-- an empty row at the end changes no row
pub row_more : (rows : List (Vec (Option ℕ) Global)) (v : Vec (Option ℕ) Global) (n : ℕ) → v.items ≡ [] → row_at (rows ++ v ∷ []) n ≡ row_at rows n
row_more [] v zero e = e
row_more [] v (suc n) e = refl
row_more (r ∷ rows) v zero e = refl
row_more (r ∷ rows) v (suc n) e = row_more rows v n e

pub row_set : (rows : List (Vec (Option ℕ) Global)) (v : Vec (Option ℕ) Global) (n : ℕ) → n < length rows → row_at (slice_set rows n v) n ≡ v.items
row_set [] v n lt = absurd (omega arith)
row_set (r ∷ rows) v zero lt = refl
row_set (r ∷ rows) v (suc n) lt = row_set rows v n (omega arith)

pub row_other : (rows : List (Vec (Option ℕ) Global)) (v : Vec (Option ℕ) Global) (m n : ℕ) → n ≢ m → row_at (slice_set rows m v) n ≡ row_at rows n
row_other [] v m n d = refl
row_other (r ∷ rows) v zero zero d = absurd (d refl)
row_other (r ∷ rows) v zero (suc n) d = refl
row_other (r ∷ rows) v (suc m) zero d = refl
row_other (r ∷ rows) v (suc m) (suc n) d = row_other rows v m n (λ e. d (ap suc e))

pub row_read : (rows : List (Vec (Option ℕ) Global)) (v : Vec (Option ℕ) Global) (n : ℕ) → n < length rows → v ≡ get_or rows n v → row_at rows n ≡ v.items
row_read [] v n lt is = absurd (omega arith)
row_read (r ∷ rows) v zero lt is = ap (λ (w : Vec (Option ℕ) Global). w.items) (sym is)
row_read (r ∷ rows) v (suc n) lt is = row_read rows v n (omega arith) is

pub row_past : (rows : List (Vec (Option ℕ) Global)) (n : ℕ) → length rows ≤ n → row_at rows n ≡ []
row_past [] n le = refl
row_past (r ∷ rows) zero le = absurd (omega arith)
row_past (r ∷ rows) (suc n) le = row_past rows n (omega arith)

-- one production more
module _ (pre : List Entry) (x : Entry) (rows rows' : List (Vec (Option ℕ) Global)) (are : AreChoices pre rows)
    (adds : AddsChoices x.on x.at_end (length pre) (row_at rows x.rule) (row_at rows' x.rule))
    (others : (n : ℕ) → n ≢ x.rule → row_at rows' n ≡ row_at rows n) where
  elsewhere : (n : ℕ) (a c : Option ℕ) → (x.rule ≡ n → IsChosenAt x a → ⊥) → IsChoice pre n a c → IsChoice (pre ++ x ∷ []) n a c
  elsewhere n a None differs h = λ p y at rule chosen. ⊎_elim
      (λ (k : slice_get pre p ≡ Some y). h p y k rule chosen)
      (λ (k : (p ≡ length pre) × (x ≡ y)). differs (ap (λ (z : Entry). z.rule) k.1 ∙ rule) (subst (λ (z : Entry). IsChosenAt z a) (sym k.1) chosen))
      (get_push_cases pre x p y at)
  elsewhere n a (Some p) differs (y, at, rule, chosen) = (y, get_append pre (x ∷ []) p y at, rule, chosen)

  here : (a : Option ℕ) → IsChosenAt x a → IsChoice (pre ++ x ∷ []) x.rule a (Some (length pre))
  here a chosen = (x, get_push pre x, refl, chosen)

  at_rule : (a : Option ℕ) → IsChoice (pre ++ x ∷ []) x.rule a (cell (row_at rows' x.rule) (column_of a))
  at_rule None = ⊎_elim
      (λ (same : cell (row_at rows' x.rule) 0 ≡ cell (row_at rows x.rule) 0).
      ⊎_elim
      (λ (e : x.at_end ≡ true). subst (IsChoice (pre ++ x ∷ []) x.rule None) (sym (adds.sets_end e)) (here None e))
      (λ (e : x.at_end ≡ false). subst (IsChoice (pre ++ x ∷ []) x.rule None) (sym same)
      (elsewhere x.rule None _ (λ r t. let z : true ≡ false = sym t ∙ e in cc) (are.choice x.rule None)))
      (bool_cases x.at_end))
      (λ (k : (cell (row_at rows' x.rule) 0 ≡ Some (length pre)) × (x.at_end ≡ true)).
      subst (IsChoice (pre ++ x ∷ []) x.rule None) (sym k.0) (here None k.1))
      adds.only_end
  at_rule (Some t) = ⊎_elim
      (λ (h : IsIn x.on t). subst (IsChoice (pre ++ x ∷ []) x.rule (Some t)) (sym (adds.sets t h)) (here (Some t) h))
      (λ (h : IsIn x.on t → ⊥). ⊎_elim
      (λ (same : cell (row_at rows' x.rule) (t + 1) ≡ cell (row_at rows x.rule) (t + 1)).
      subst (IsChoice (pre ++ x ∷ []) x.rule (Some t)) (sym same) (elsewhere x.rule (Some t) _ (λ r. h) (are.choice x.rule (Some t))))
      (λ (k : (cell (row_at rows' x.rule) (t + 1) ≡ Some (length pre)) × IsIn x.on t). absurd (h k.1))
      (adds.only t))
      (in_or_not x.on t)

  pub are_more : AreChoices (pre ++ x ∷ []) rows'
  are_more = record {
    choice = λ n a. ⊎_elim
        (λ (e : n ≡ x.rule). subst (λ m. IsChoice (pre ++ x ∷ []) m a (choice_in rows' m a)) (sym e) (at_rule a))
        (λ (d : n ≢ x.rule). subst (IsChoice (pre ++ x ∷ []) n a) (ap (λ row. cell row (column_of a)) (sym (others n d)))
        (elsewhere n a _ (λ e. absurd (d (sym e))) (are.choice n a)))
        (same_or n x.rule);
  }

pub no_rows : AreChoices [] []
no_rows = record { choice = λ n a p x at rule chosen. let z = at in cc }
