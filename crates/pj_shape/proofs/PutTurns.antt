-- One turn of the loop over the steps of a body.
use Rattle.std.proofs.Common.{◌≡◌, ℕ, Bool, ◌+◌, ◌-◌, ◌<◌, ◌≤◌, List, [], ◌∷◌, ◌++◌, length, reverse, Some, slice_get, refl, sym, ◌∙◌, ap, subst, arith, length-append, ◌⊎◌, ◌≢◌, inl, inr, true, false, eqb}
use Rattle.std.proofs.lemmas.Option.{slice_get_within}
use Rattle.std.proofs.lemmas.List.{reverse-append, length-reverse}
use Rattle.std.proofs.lemmas.Bool.Decides.{eqb_tells}
use Rattle.std.proofs.lemmas.Bool.{lt-ltb, le-ltb}
use Rattle.std.specs.Prelude.{◌==◌, ◌&&◌, not, nat_lt}
use Rattle.pj_tree.specs.declared.kind.Kind.{Kind}
use Rattle.pj_peg_grammar.specs.Derivation.{Forest, no_tree, tree, append, count}
use Rattle.pj_peg_grammar.specs.declared.derivation.Step.{Step}
use Rattle.pj_shape.specs.declared.shape.Shape.{Shape}
use Rattle.pj_shape.specs.declared.shape.Shape.TheVariants.{Turn}
use Rattle.pj_shape.specs.declared.made.Made.{Made}
use Rattle.pj_shape.specs.Shaped.{acts, is_last, shape_of}
use Rattle.pj_shape.specs.Flat.{raw, leads_by, turns}
use Rattle.pj_shape.specs.Body.{IsBody}
use Rattle.pj_shape.proofs.Places.{raw-append, lengths}
use Rattle.pj_shape.proofs.Turning.{Turning, Next, next_of, step_is, count_is, passed, turned, size_is, taken, acting, own}

pub some_one : {A : Type 0} {x y : A} → Some x ≡ Some y → x ≡ y
some_one e = cc

module _ (shapes : List Shape) (small : ℕ → Bool) (steps : List Step) (counts : List ℕ) (start first end : ℕ) (old : List Made) (body : IsBody shapes small steps counts first end old) where
  pub begin : Turning shapes small start steps body.below body.after first end old
  begin = record {
    left = body.below;
    done = [];
    n = 0;
    here = body.here;
    end_is = body.end_is;
    turns_are = sym (nil (turns shapes small start 0 body.below));
    nodes_are = body.nodes_are;
    counted = refl;
  }
    where
      nil : (xs : List Made) → xs ++ [] ≡ xs
      nil [] = refl
      nil (x ∷ xs) = ap (λ l. x ∷ l) (nil xs)

  pub finish : (at : ℕ) (nodes : List Made) → Turning shapes small start steps body.below body.after at end nodes → end ≤ at →
      reverse nodes ≡ turns shapes small start 0 body.below ++ (raw shapes small body.below ++ raw shapes small body.after)
  finish at nodes t le = go t.left t.end_is t.turns_are
    where
      go : (left : Forest) → end ≡ at + count left → turns shapes small start 0 body.below ≡ turns shapes small start t.n left ++ t.done →
          reverse nodes ≡ turns shapes small start 0 body.below ++ (raw shapes small body.below ++ raw shapes small body.after)
      go no_tree is e = t.nodes_are ∙ ap (λ l. l ++ (raw shapes small body.below ++ raw shapes small body.after)) (sym e)
      go (tree r i j bl af) is e = absurd (let h : count (tree r i j bl af) ≡ 1 + count bl + count af = refl in omega arith)

  module _ (at : ℕ) (nodes : List Made) (from : first ≤ at) (lt : at < end) (t : Turning shapes small start steps body.below body.after at end nodes) where
    abbrev x : Next shapes small start steps body.below body.after end at nodes
    x = next_of shapes small start steps body.below body.after end at nodes lt t

    abbrev the_step : Step
    the_step = record { rule = x.r; from = x.i; to = x.j; next = at + 1 + count x.bl }

    is_step : slice_get steps at ≡ Some the_step
    is_step = step_is shapes small start steps body.below body.after end at nodes x

    pub at_within : at < length steps
    at_within = slice_get_within steps at the_step is_step

    is_count : slice_get counts (at + 1 + count x.bl) ≡ Some (length (raw shapes small x.af) + length (raw shapes small body.after))
    is_count = count_is shapes small start steps body.below body.after end at nodes x counts first body.counted from

    module _ (s : Step) (is : slice_get steps at ≡ Some s) where
      same : the_step ≡ s
      same = some_one (sym is_step ∙ is)

      next_is : at + 1 + count x.bl ≡ s.next
      next_is = ap (λ y. y.next) same

      pub next_within : s.next < length counts
      next_within = subst (λ n. n < length counts) next_is (slice_get_within counts (at + 1 + count x.bl) _ is_count)

      pub next_after : (at < s.next) × (s.next ≤ end)
      next_after = let a = next_is in let b = x.end_is in (omega arith, omega arith)

      pub len_is : (len n : ℕ) → len ≡ length nodes → slice_get counts s.next ≡ Some n →
          len ≡ taken shapes small start steps body.below body.after end at nodes x + n
      len_is len n l c =
          let e : length (raw shapes small x.af) + length (raw shapes small body.after) ≡ n = some_one (sym is_count ∙ ap (slice_get counts) next_is ∙ c) in
          size_is shapes small start steps body.below body.after end at nodes x len (l ∙ sym (length-reverse nodes)) ∙
          ap (λ z. taken shapes small start steps body.below body.after end at nodes x + z) e

      count_here : slice_get counts at ≡ Some (length (raw shapes small (tree x.r x.i x.j x.bl (append x.af body.after))))
      count_here = body.counted at (tree x.r x.i x.j x.bl (append x.af body.after)) from within x.here
        where
          within : at ≤ length steps
          within = let a = lengths steps at x.r x.i x.j x.bl (append x.af body.after) x.here in omega arith

      pub here_within : at < length counts
      here_within = slice_get_within counts at _ count_here

      leads_is : (len here : ℕ) (first follows leads : Bool) → len ≡ length nodes → slice_get counts at ≡ Some here → first ≡ (len == here) → follows ≡ nat_lt s.next end →
          leads ≡ ((small s.from && s.to == s.from + 1) && (first && follows)) → leads_by small x.i x.j (x.n == 0) x.af ≡ leads
      leads_is len here first follows leads l h f g e =
          ap (λ b. (small x.i && x.j == x.i + 1) && (b && not (is_last x.af))) (same_test x.n here len (all_is len here l h)) ∙
          ap (λ b. (small x.i && x.j == x.i + 1) && ((len == here) && b)) (last_is x.af s.next end (let b = x.end_is in let a = next_is in omega arith)) ∙
          ap (λ y. (small y.from && y.to == y.from + 1) && ((len == here) && nat_lt s.next end)) same ∙
          ap (λ b. (small s.from && s.to == s.from + 1) && (b && nat_lt s.next end)) (sym f) ∙
          ap (λ b. (small s.from && s.to == s.from + 1) && (first && b)) (sym g) ∙ sym e
        where
          same_test : (n h k : ℕ) → k ≡ n + h → (n == 0) ≡ (k == h)
          same_test n h k is' = go (eqb_tells n 0) (eqb_tells k h)
            where
              go : ((eqb n 0 ≡ true) × (n ≡ 0)) ⊎ ((eqb n 0 ≡ false) × (n ≢ 0)) → ((eqb k h ≡ true) × (k ≡ h)) ⊎ ((eqb k h ≡ false) × (k ≢ h)) → (n == 0) ≡ (k == h)
              go (inl p) (inl q) = p.0 ∙ sym q.0
              go (inl p) (inr q) = absurd (q.1 (let z = p.1 in omega arith))
              go (inr p) (inl q) = absurd (p.1 (let z = q.1 in omega arith))
              go (inr p) (inr q) = p.0 ∙ sym q.0

          last_is : (af : Forest) (next stop : ℕ) → stop ≡ next + count af → not (is_last af) ≡ nat_lt next stop
          last_is no_tree next stop is' = sym (le-ltb next stop (omega arith))
          last_is (tree r i j bl af) next stop is' = sym (lt-ltb next stop (let h : count (tree r i j bl af) ≡ 1 + count bl + count af = refl in omega arith))

          all_is : (k h : ℕ) → k ≡ length nodes → slice_get counts at ≡ Some h → k ≡ x.n + h
          all_is k h is' c =
              let all = size_is shapes small start steps body.below body.after end at nodes x k (is' ∙ sym (length-reverse nodes)) in
              let own' = own shapes small start steps body.below body.after end x.r x.i x.j x.bl in
              let p : length own' + length (raw shapes small (append x.af body.after)) ≡ h = sym (length-append own' (raw shapes small (append x.af body.after))) ∙ some_one (sym count_here ∙ c) in
              let q : length (raw shapes small (append x.af body.after)) ≡ length (raw shapes small x.af) + length (raw shapes small body.after) =
              ap length (raw-append shapes small x.af body.after) ∙ length-append (raw shapes small x.af) (raw shapes small body.after) in
              omega arith

      acting_is : (shape given : Shape) (len here : ℕ) (first follows leads : Bool) → len ≡ length nodes → slice_get counts at ≡ Some here → first ≡ (len == here) → follows ≡ nat_lt s.next end →
          leads ≡ ((small s.from && s.to == s.from + 1) && (first && follows)) → given ≡ shape_of shapes s.rule → shape ≡ acts given leads →
          acting shapes small start steps body.below body.after end at nodes x ≡ shape
      acting_is shape given len here first follows leads l h f g e is_given is_shape =
          ap (acts (shape_of shapes x.r)) (leads_is len here first follows leads l h f g e) ∙ ap (λ y. acts (shape_of shapes y.rule) leads) same ∙ ap (λ z. acts z leads) (sym is_given) ∙ sym is_shape

      pub pass_on : (shape given : Shape) (len here : ℕ) (first follows leads : Bool) → len ≡ length nodes → slice_get counts at ≡ Some here → first ≡ (len == here) → follows ≡ nat_lt s.next end →
          leads ≡ ((small s.from && s.to == s.from + 1) && (first && follows)) → given ≡ shape_of shapes s.rule → shape ≡ acts given leads →
          ((k : Kind) → shape ≡ Turn k → ⊥) → Turning shapes small start steps body.below body.after s.next end nodes
      pass_on shape given len here first follows leads l h f g e is_given is_shape not_turn =
          subst (λ n. Turning shapes small start steps body.below body.after n end nodes) next_is
          (passed shapes small start steps body.below body.after end at nodes x shape (acting_is shape given len here first follows leads l h f g e is_given is_shape) not_turn)

      pub turn_on : (shape given : Shape) (len here : ℕ) (first follows leads : Bool) → len ≡ length nodes → slice_get counts at ≡ Some here → first ≡ (len == here) → follows ≡ nat_lt s.next end →
          leads ≡ ((small s.from && s.to == s.from + 1) && (first && follows)) → given ≡ shape_of shapes s.rule → shape ≡ acts given leads →
          (k : Kind) (more : List Made) (n : ℕ) → shape ≡ Turn k → slice_get counts s.next ≡ Some n →
          more ≡ nodes ++ record { kind = k; from = start; to = s.to; size = len - n + 1 } ∷ [] → Turning shapes small start steps body.below body.after s.next end more
      turn_on shape given len here first follows leads l h f g e is_given is_shape k more n is_turn c is' =
          let size : len - n + 1 ≡ 1 + taken shapes small start steps body.below body.after end at nodes x =
          (let h' = len_is len n l c in omega arith) in
          let top : ℕ → Made = λ j. record { kind = k; from = start; to = j; size = len - n + 1 } in
          subst (λ m. Turning shapes small start steps body.below body.after m end more) next_is
          (turned shapes small start steps body.below body.after end at nodes x k more (len - n + 1) (acting_is shape given len here first follows leads l h f g e is_given is_shape ∙ is_turn) size
          (ap reverse is' ∙ reverse-append nodes (top s.to ∷ []) ∙ ap (λ y. top y.to ∷ reverse nodes) (sym same)))
