-- Rules that are marked as seen.
use Rattle.std.proofs.Common.{◌≡◌, ℕ, zero, suc, ◌+◌, ◌*◌, ◌<◌, ◌≤◌, ◌⊎◌, Bool, true, false, List, [], ◌∷◌, ◌++◌, length, Some, refl, sym, ◌∙◌, subst, ap, inl, inr, ⊎_elim, arith, drop, get_or, drop-cons, add-one, Vec, Global, length-append, take, replicate}
use Rattle.std.specs.Prelude.{slice_set, unwrap_or}
use Rattle.std.specs.Option.{option_map}
use Rattle.std.proofs.lemmas.Bool.{cases_lt}
use Rattle.std.proofs.lemmas.List.{length-set, drop_all}
use Rattle.std.proofs.lemmas.Option.{slice_get_past, slice_get-get_or}
use Rattle.pj_peg_grammar.specs.Analysis.{is_set, unset}
use Rattle.pj_peg_grammar.specs.Graph.{IsIn, calls_of, Comes, by_call, by_calls, Marks}
use Rattle.pj_peg_grammar.proofs.Sets.{set_in, set_cases, set_keeps, set_fewer}

pub in_push : (xs : List ℕ) (y s : ℕ) → IsIn xs s → IsIn (xs ++ y ∷ []) s
in_push (x ∷ xs) y s (inl h) = inl h
in_push (x ∷ xs) y s (inr h) = inr (in_push xs y s h)
in_push [] y s h = absurd h

pub in_last : (xs : List ℕ) (y : ℕ) → IsIn (xs ++ y ∷ []) y
in_last [] y = inl refl
in_last (x ∷ xs) y = inr (in_last xs y)

pub in_push_cases : (xs : List ℕ) (y s : ℕ) → IsIn (xs ++ y ∷ []) s → IsIn xs s ⊎ (s ≡ y)
in_push_cases [] y s (inl h) = inr h
in_push_cases [] y s (inr h) = absurd h
in_push_cases (x ∷ xs) y s (inl h) = inl (inl h)
in_push_cases (x ∷ xs) y s (inr h) = ⊎_elim (λ k. inl (inr k)) (λ k. inr k) (in_push_cases xs y s h)

pub drop_at : (xs : List ℕ) (i : ℕ) → i < length xs → drop i xs ≡ get_or xs i 0 ∷ drop (i + 1) xs
drop_at xs i lt = rw add-one (drop-cons xs i 0 lt)

pub get_in : (xs : List ℕ) (i : ℕ) → i < length xs → IsIn xs (get_or xs i 0)
get_in [] i lt = absurd (omega arith)
get_in (x ∷ xs) zero lt = inl refl
get_in (x ∷ xs) (suc i) lt = inr (get_in xs i (omega arith))

-- the first k rules of the list are marked
pub record IsMarking (calls : List ℕ) (seen : List Bool) (todo : List ℕ) (k : ℕ) (seen' : List Bool) (todo' : List ℕ) : Type 0 where
  pub count : length seen' ≡ length seen
  pub keeps : (s : ℕ) → is_set seen s ≡ true → is_set seen' s ≡ true
  pub marked : (s : ℕ) → IsIn calls s → s < length seen → IsIn (drop k calls) s ⊎ (is_set seen' s ≡ true)
  pub only : (s : ℕ) → is_set seen' s ≡ true → (is_set seen s ≡ true) ⊎ (IsIn calls s × IsIn todo' s)
  pub todo_keeps : (s : ℕ) → IsIn todo s → IsIn todo' s
  pub todo_only : (s : ℕ) → IsIn todo' s → IsIn todo s ⊎ (is_set seen' s ≡ true)
  pub fewer : 2 * unset seen' + length todo' ≤ 2 * unset seen + length todo

pub marking_start : (calls : List ℕ) (seen : List Bool) (todo : List ℕ) → IsMarking calls seen todo 0 seen todo
marking_start calls seen todo = record {
  count = refl;
  keeps = λ s h. h;
  marked = λ s h lt. inl h;
  only = λ s h. inl h;
  todo_keeps = λ s h. h;
  todo_only = λ s h. inl h;
  fewer = omega arith;
}

-- the next rule is not there, or is marked already
pub marking_skips : (calls : List ℕ) (seen : List Bool) (todo : List ℕ) (k : ℕ) (seen' : List Bool) (todo' : List ℕ) → IsMarking calls seen todo k seen' todo' → k < length calls →
    ((length seen' ≤ get_or calls k 0) ⊎ (is_set seen' (get_or calls k 0) ≡ true)) → IsMarking calls seen todo (k + 1) seen' todo'
marking_skips calls seen todo k seen' todo' m lt skips = record {
  count = m.count;
  keeps = m.keeps;
  only = m.only;
  todo_keeps = m.todo_keeps;
  todo_only = m.todo_only;
  fewer = m.fewer;
  marked = λ s h s_lt. ⊎_elim
      (λ (left : IsIn (drop k calls) s). here s s_lt (subst (λ l. IsIn l s) (drop_at calls k lt) left))
      (λ (done : is_set seen' s ≡ true). inr done)
      (m.marked s h s_lt);
}
  where
    here : (s : ℕ) → s < length seen → IsIn (get_or calls k 0 ∷ drop (k + 1) calls) s → IsIn (drop (k + 1) calls) s ⊎ (is_set seen' s ≡ true)
    here s s_lt (inl same) = let count = m.count in ⊎_elim
        (λ (past : length seen' ≤ get_or calls k 0). absurd (omega arith))
        (λ (is : is_set seen' (get_or calls k 0) ≡ true). inr (ap (is_set seen') same ∙ is))
        skips
    here s s_lt (inr later) = inl later

-- the next rule is marked
pub marking_adds : (calls : List ℕ) (seen : List Bool) (todo : List ℕ) (k : ℕ) (seen' : List Bool) (todo' : List ℕ) (seen'' : List Bool) (todo'' : List ℕ) (r : ℕ) → IsMarking calls seen todo k seen' todo' → k < length calls →
    r ≡ get_or calls k 0 → r < length seen' → is_set seen' r ≡ false → todo'' ≡ todo' ++ r ∷ [] → seen'' ≡ slice_set seen' r true →
    IsMarking calls seen todo (k + 1) seen'' todo''
marking_adds calls seen todo k seen' todo' seen'' todo'' r m lt r_is within not_yet pushed put = subst (λ l. IsMarking calls seen todo (k + 1) l todo'') (sym put) (subst (IsMarking calls seen todo (k + 1) (slice_set seen' r true)) (sym pushed) (record {
  count = length-set seen' r true ∙ m.count;
  keeps = λ s h. set_keeps seen' r s (m.keeps s h);
  marked = λ s h s_lt. ⊎_elim
      (λ (left : IsIn (drop k calls) s). here s (subst (λ l. IsIn l s) (drop_at calls k lt) left))
      (λ (done : is_set seen' s ≡ true). inr (set_keeps seen' r s done))
      (m.marked s h s_lt);
  only = λ s h. ⊎_elim
      (λ (old : is_set seen' s ≡ true). ⊎_elim (λ (a : is_set seen s ≡ true). inl a) (λ (a : IsIn calls s × IsIn todo' s). inr (a.0, in_push todo' r s a.1)) (m.only s old))
      (λ (new : s ≡ r). inr (subst (IsIn calls) (sym (new ∙ r_is)) (get_in calls k lt), subst (IsIn (todo' ++ r ∷ [])) (sym new) (in_last todo' r)))
      (set_cases seen' r s h);
  todo_keeps = λ s h. in_push todo' r s (m.todo_keeps s h);
  todo_only = λ s h. ⊎_elim
      (λ (old : IsIn todo' s). ⊎_elim (λ (a : IsIn todo s). inl a) (λ (a : is_set seen' s ≡ true). inr (set_keeps seen' r s a)) (m.todo_only s old))
      (λ (new : s ≡ r). inr (ap (is_set (slice_set seen' r true)) new ∙ set_in seen' r within))
      (in_push_cases todo' r s h);
  fewer = let f = m.fewer in let g = set_fewer seen' r within not_yet in let len = length-append todo' (r ∷ []) in omega arith;
}))
  where
    here : (s : ℕ) → IsIn (get_or calls k 0 ∷ drop (k + 1) calls) s → IsIn (drop (k + 1) calls) s ⊎ (is_set (slice_set seen' r true) s ≡ true)
    here s (inl same) = inr (ap (is_set (slice_set seen' r true)) (same ∙ sym r_is) ∙ set_in seen' r within)
    here s (inr later) = inl later

pub marking_done : (calls : List ℕ) (seen : List Bool) (todo : List ℕ) (k : ℕ) (seen' : List Bool) (todo' : List ℕ) → IsMarking calls seen todo k seen' todo' → length calls ≤ k → Marks calls seen todo seen' todo'
marking_done calls seen todo k seen' todo' m le = record {
  count = m.count;
  keeps = m.keeps;
  only = m.only;
  todo_keeps = m.todo_keeps;
  todo_only = m.todo_only;
  fewer = m.fewer;
  marked = λ s h lt. ⊎_elim
      (λ (left : IsIn (drop k calls) s). absurd (subst (λ l. IsIn l s) (drop_all k calls le) left))
      (λ (done : is_set seen' s ≡ true). done)
      (m.marked s h lt);
}

module _ (graph : List (Vec ℕ Global)) (rule : ℕ) where
  -- what was seen is what the rule comes to; what it calls was seen, or is still to be looked at
  pub record IsSearch (seen : List Bool) (todo : List ℕ) : Type 0 where
    pub count : length seen ≡ length graph
    pub sound : (s : ℕ) → is_set seen s ≡ true → Comes graph rule s
    pub todo_seen : (s : ℕ) → IsIn todo s → is_set seen s ≡ true
    pub first : (s : ℕ) → IsIn (calls_of graph rule) s → s < length graph → is_set seen s ≡ true
    pub next : (s t : ℕ) → is_set seen s ≡ true → IsIn (calls_of graph s) t → t < length graph → IsIn todo s ⊎ (is_set seen t ≡ true)

  none_set : (n s : ℕ) (seen : List Bool) → ((r : ℕ) → is_set seen r ≡ true → ⊥) → is_set seen s ≡ true → ⊥
  none_set n s seen h t = h s t

  pub search_start : (seen seen' : List Bool) (todo todo' : List ℕ) → length seen ≡ length graph → ((r : ℕ) → is_set seen r ≡ true → ⊥) → todo ≡ [] →
      Marks (calls_of graph rule) seen todo seen' todo' → IsSearch seen' todo'
  search_start seen seen' todo todo' len none empty m = record {
    count = m.count ∙ len;
    sound = λ s t. ⊎_elim (λ (h : is_set seen s ≡ true). absurd (none s h)) (λ (h : IsIn (calls_of graph rule) s × IsIn todo' s). by_call h.0) (m.only s t);
    todo_seen = λ s h. ⊎_elim (λ (k : IsIn todo s). absurd (subst (λ l. IsIn l s) empty k)) (λ (k : is_set seen' s ≡ true). k) (m.todo_only s h);
    first = λ s h lt. m.marked s h (omega (arith, len));
    next = λ s t h k lt. ⊎_elim (λ (g : is_set seen s ≡ true). absurd (none s g)) (λ (g : IsIn (calls_of graph rule) s × IsIn todo' s). inl g.1) (m.only s h);
  }

  pub search_on : (seen seen' : List Bool) (todo rest todo' : List ℕ) (r : ℕ) → IsSearch seen todo → todo ≡ rest ++ r ∷ [] → Marks (calls_of graph r) seen rest seen' todo' → IsSearch seen' todo'
  search_on seen seen' todo rest todo' r search popped m =
      let r_seen : is_set seen r ≡ true = search.todo_seen r (subst (λ l. IsIn l r) (sym popped) (in_last rest r)) in
      let count = search.count in
      record {
        count = m.count ∙ search.count;
        sound = λ s t. ⊎_elim (λ (h : is_set seen s ≡ true). search.sound s h) (λ (h : IsIn (calls_of graph r) s × IsIn todo' s). by_calls (search.sound r r_seen) (by_call h.0)) (m.only s t);
        todo_seen = λ s h. ⊎_elim
            (λ (k : IsIn rest s). m.keeps s (search.todo_seen s (subst (λ l. IsIn l s) (sym popped) (in_push rest r s k))))
            (λ (k : is_set seen' s ≡ true). k)
            (m.todo_only s h);
        first = λ s h lt. m.keeps s (search.first s h lt);
        next = λ s t h k lt. ⊎_elim
            (λ (old : is_set seen s ≡ true). ⊎_elim
            (λ (left : IsIn todo s). ⊎_elim
            (λ (g : IsIn rest s). inl (m.todo_keeps s g))
            (λ (g : s ≡ r). inr (m.marked t (subst (λ n. IsIn (calls_of graph n) t) g k) (omega arith)))
            (in_push_cases rest r s (subst (λ l. IsIn l s) popped left)))
            (λ (g : is_set seen t ≡ true). inr (m.keeps t g))
            (search.next s t old k lt))
            (λ (new : IsIn (calls_of graph r) s × IsIn todo' s). inl new.1)
            (m.only s h);
      }

  pub within_graph : (r s : ℕ) → IsIn (calls_of graph r) s → r < length graph
  within_graph r s h = ⊎_elim
      (λ (lt : r < length graph). lt)
      (λ (le : length graph ≤ r). absurd (subst (λ l. IsIn l s) (ap (λ o. unwrap_or (option_map (λ (v : Vec ℕ Global). v.items) o) []) (slice_get_past graph r le)) h))
      (cases_lt r (length graph))

  comes_from : (r s : ℕ) → Comes graph r s → r < length graph
  comes_from r s (by_call h) = within_graph r s h
  comes_from r s (by_calls x y) = comes_from r _ x

  -- at the end everything that the rule comes to was seen
  reached : (seen : List Bool) → IsSearch seen [] → (r s : ℕ) → Comes graph r s → (r ≡ rule) ⊎ (is_set seen r ≡ true) → s < length graph → is_set seen s ≡ true
  reached seen search r s (by_call h) (inl same) lt = search.first s (subst (λ n. IsIn (calls_of graph n) s) same h) lt
  reached seen search r s (by_call h) (inr is) lt = ⊎_elim (λ (g : ⊥). absurd g) (λ (g : is_set seen s ≡ true). g) (search.next r s is h lt)
  reached seen search r s (by_calls {s = m} x y) from lt = reached seen search m s y (inr (reached seen search r m x from (comes_from m s y))) lt

  pub search_end : (seen : List Bool) (todo : List ℕ) → IsSearch seen todo → todo ≡ [] → rule < length graph → Comes graph rule rule → is_set seen rule ≡ true
  search_end seen todo search empty lt x = reached seen (subst (IsSearch seen) empty search) rule rule x (inl refl) lt

pub calls_at : (graph : List (Vec ℕ Global)) (r : ℕ) (v : Vec ℕ Global) → r < length graph → v ≡ get_or graph r v → calls_of graph r ≡ v.items
calls_at graph r v lt is =
    ap (λ o. unwrap_or (option_map (λ (w : Vec ℕ Global). w.items) o) []) (slice_get-get_or graph r v lt ∙ ap Some (sym is))

none_false : (m r : ℕ) → is_set (replicate m false) r ≡ false
none_false zero r = refl
none_false (suc m) zero = refl
none_false (suc m) (suc r) = none_false m r

pub none_of : (n m : ℕ) (old set : List Bool) → old ≡ [] → set ≡ take n old ++ replicate m false → (r : ℕ) → is_set set r ≡ true → ⊥
none_of n m old set empty is r t =
    let e : set ≡ replicate m false = is ∙ ap (λ (l : List Bool). take n l ++ replicate m false) empty ∙ ap (λ (l : List Bool). l ++ replicate m false) (take_none n) in
    let z : is_set (replicate m false) r ≡ true = subst (λ (l : List Bool). is_set l r ≡ true) e t in
    let y : false ≡ true = sym (none_false m r) ∙ z in cc
  where
    take_none : (k : ℕ) → take {A = Bool} k [] ≡ []
    take_none zero = refl
    take_none (suc k) = refl

pub empty_list : (xs : List ℕ) → length xs ≡ 0 → xs ≡ []
empty_list [] e = refl
empty_list (x ∷ xs) e = absurd (omega arith)
