-- Rules that are placed behind those that they call.
use Rattle.std.proofs.Common.{◌≡◌, ℕ, zero, suc, ◌-◌, ◌<◌, ◌≤◌, ◌⊎◌, Bool, true, false, List, [], ◌∷◌, ◌++◌, length, Some, sym, ◌∙◌, subst, ap, ⊎_elim, arith, Vec, Global}
use Rattle.std.specs.Prelude.{slice_get, slice_set}
use Rattle.std.proofs.lemmas.Bool.{cases_lt}
use Rattle.std.proofs.lemmas.List.{length-set}
use Rattle.std.proofs.lemmas.Option.{slice_get_within}
use Rattle.pj_peg_grammar.specs.Analysis.{is_set, unset}
use Rattle.pj_peg_grammar.specs.Graph.{IsIn, calls_of, Comes, by_call, by_calls, IsPlacing, IsClosed}
use Rattle.pj_peg_grammar.proofs.Lists.{get_append, get_push, get_push_cases}
use Rattle.pj_peg_grammar.proofs.Sets.{set_in, set_cases, set_keeps, set_fewer}

module _ (graph : List (Vec ℕ Global)) where
  abbrev pub AllPlaced : List Bool → ℕ → Type 0
  AllPlaced placed r = (s : ℕ) → IsIn (calls_of graph r) s → is_set placed s ≡ true

  pub nothing_placed : (order : List ℕ) (placed : List Bool) → order ≡ [] → length placed ≡ length graph → ((r : ℕ) → is_set placed r ≡ true → ⊥) → IsPlacing graph order placed
  nothing_placed order placed empty count none = record {
    count = count;
    each = λ k r at. absurd (let z = ap (λ l. slice_get l k) (sym empty) ∙ at in cc);
    listed = λ r t. absurd (none r t);
    after = λ k r s at. absurd (let z = ap (λ l. slice_get l k) (sym empty) ∙ at in cc);
  }

  place_one : (order : List ℕ) (placed : List Bool) (r : ℕ) → IsPlacing graph order placed → r < length graph → AllPlaced placed r →
      IsPlacing graph (order ++ r ∷ []) (slice_set placed r true)
  place_one order placed r p lt all = record {
    count = length-set placed r true ∙ p.count;
    each = λ k q at. ⊎_elim
        (λ (h : slice_get order k ≡ Some q). set_keeps placed r q (p.each k q h))
        (λ (h : (k ≡ length order) × (r ≡ q)). let count = p.count in ap (is_set (slice_set placed r true)) (sym h.1) ∙ set_in placed r (omega arith))
        (get_push_cases order r k q at);
    listed = λ q t. ⊎_elim
        (λ (h : is_set placed q ≡ true). let (k, is) = p.listed q h in (k, get_append order (r ∷ []) k q is))
        (λ (h : q ≡ r). (length order, get_push order r ∙ ap Some (sym h)))
        (set_cases placed r q t);
    after = λ k q s at call. ⊎_elim
        (λ (h : slice_get order k ≡ Some q). let (m, below, is) = p.after k q s h call in (m, below, get_append order (r ∷ []) m s is))
        (λ (h : (k ≡ length order) × (r ≡ q)).
        let here = h.0 in
        let (m, is) = p.listed s (all s (subst (λ n. IsIn (calls_of graph n) s) (sym h.1) call)) in
        let below = slice_get_within order m s is in
        (m, omega arith, get_append order (r ∷ []) m s is))
        (get_push_cases order r k q at);
  }

  -- the rules from k on were tried in this turn
  pub record IsPlacingTurn (old : List Bool) (order : List ℕ) (placed : List Bool) (added : Bool) (k : ℕ) : Type 0 where
    pub within : k ≤ length graph
    pub placing : IsPlacing graph order placed
    pub most : unset placed ≤ unset old
    pub fewer : added ≡ true → unset placed < unset old
    pub closed : added ≡ false → (r : ℕ) → k ≤ r → r < length graph → AllPlaced placed r → is_set placed r ≡ true

  pub turn_begins : (order : List ℕ) (placed : List Bool) (n : ℕ) → n ≡ length graph → IsPlacing graph order placed → IsPlacingTurn placed order placed false n
  turn_begins order placed n is p = record {
    within = omega arith;
    placing = p;
    most = omega arith;
    fewer = λ e. absurd (let z = e in cc);
    closed = λ e r le lt. absurd (omega arith);
  }

  pub turn_passes : (old : List Bool) (order : List ℕ) (placed : List Bool) (added : Bool) (k : ℕ) → 0 < k → IsPlacingTurn old order placed added k →
      ((is_set placed (k - 1) ≡ true) ⊎ (AllPlaced placed (k - 1) → ⊥)) → IsPlacingTurn old order placed added (k - 1)
  turn_passes old order placed added k some t passes = record {
    within = let w = t.within in omega arith;
    placing = t.placing;
    most = t.most;
    fewer = t.fewer;
    closed = λ e r le lt all. ⊎_elim
        (λ (below : r < k).
        let here : k - 1 ≡ r = omega arith in
        ⊎_elim
        (λ (is : is_set placed (k - 1) ≡ true). ap (is_set placed) (sym here) ∙ is)
        (λ (no : AllPlaced placed (k - 1) → ⊥). absurd (no (subst (AllPlaced placed) (sym here) all)))
        passes)
        (λ (above : k ≤ r). t.closed e r above lt all)
        (cases_lt r k);
  }

  pub turn_places : (old : List Bool) (order order' : List ℕ) (placed placed' : List Bool) (added : Bool) (k r : ℕ) → 0 < k → IsPlacingTurn old order placed added k →
      r ≡ k - 1 → is_set placed (k - 1) ≡ false → AllPlaced placed (k - 1) → order' ≡ order ++ r ∷ [] → placed' ≡ slice_set placed (k - 1) true → IsPlacingTurn old order' placed' true (k - 1)
  turn_places old order order' placed placed' added k r some t r_is not_yet all pushed put =
      let within = t.within in
      let count = t.placing.count in
      let most = t.most in
      let fewer = set_fewer placed (k - 1) (omega arith) not_yet in
      let order_is : order' ≡ order ++ (k - 1) ∷ [] = pushed ∙ ap (λ n. order ++ n ∷ []) r_is in
      let lt : k - 1 < length graph = omega arith in
      subst (λ l. IsPlacingTurn old l placed' true (k - 1)) (sym order_is) (subst (λ l. IsPlacingTurn old (order ++ (k - 1) ∷ []) l true (k - 1)) (sym put) (record {
        within = omega arith;
        placing = place_one order placed (k - 1) t.placing lt all;
        most = omega arith;
        fewer = λ _. omega arith;
        closed = λ e. absurd (let z = e in cc);
      }))

  pub turn_ends : (old : List Bool) (order : List ℕ) (placed : List Bool) (added : Bool) (k : ℕ) → IsPlacingTurn old order placed added k → k ≤ 0 → added ≡ false → IsClosed graph placed
  turn_ends old order placed added k t le e = record { closed = λ r lt all. t.closed e r (omega arith) lt all }

  comes_down : (order : List ℕ) (placed : List Bool) → IsPlacing graph order placed → (r s : ℕ) → Comes graph r s → (k : ℕ) → slice_get order k ≡ Some r →
      (m : ℕ) × (m < k) × (slice_get order m ≡ Some s)
  comes_down order placed p r s (by_call h) k at = p.after k r s at h
  comes_down order placed p r s (by_calls {s = q} x y) k at =
      let (m, lt, is) = comes_down order placed p r q x k at in
      let (n, below, there) = comes_down order placed p q s y m is in
      (n, omega arith, there)

  nowhere : (order : List ℕ) (placed : List Bool) → IsPlacing graph order placed → (r : ℕ) → Comes graph r r → (n k : ℕ) → k < n → slice_get order k ≡ Some r → ⊥
  nowhere order placed p r x zero k lt at = absurd (omega arith)
  nowhere order placed p r x (suc n) k lt at =
      let (m, below, is) = comes_down order placed p r r x k at in
      nowhere order placed p r x n m (omega arith) is

  -- what is placed does not come to itself
  pub placed_moves : (order : List ℕ) (placed : List Bool) (r : ℕ) → IsPlacing graph order placed → is_set placed r ≡ true → Comes graph r r → ⊥
  placed_moves order placed r p t x = let (k, at) = p.listed r t in nowhere order placed p r x (suc k) k (omega arith) at
