-- The loop over the steps from the last one to the first.
use Rattle.std.proofs.Common.{◌≡◌, ℕ, Bool, zero, suc, ◌+◌, ◌-◌, ◌<◌, ◌≤◌, List, [], ◌++◌, length, reverse, drop, replicate, Some, slice_get, refl, sym, ◌∙◌, ap, subst, arith, append_assoc, length-append, length-drop, ◌⊎◌, inl, inr, true, false, leb}
use Rattle.std.proofs.lemmas.Bool.Decides.{leb_tells}
use Rattle.std.proofs.lemmas.List.{length-reverse}
use Rattle.pj_peg_grammar.specs.Derivation.{Forest, no_tree, tree, append, count, steps_from, steps_of}
use Rattle.pj_peg_grammar.specs.declared.derivation.Step.{Step}
use Rattle.pj_shape.specs.declared.shape.Shape.{Shape}
use Rattle.pj_shape.specs.declared.made.Made.{Made}
use Rattle.pj_shape.specs.Shaped.{Nodes, shape_of, shaped, no_nodes}
use Rattle.pj_shape.specs.Flat.{flat, by_itself, raw, turns}
use Rattle.pj_shape.specs.Body.{IsBody, AreCounts}
use Rattle.pj_shape.proofs.Flattening.{flat-body, append_nil}
use Rattle.pj_shape.proofs.Places.{raw-append, append_none, steps_length, forest_at}
use Rattle.pj_shape.proofs.Places as places
use Rattle.pj_shape.proofs.PutTurns.{some_one}

pub record State (shapes : List Shape) (small : ℕ → Bool) (steps : List Step) (counts : List ℕ) (at : ℕ) (nodes : List Made) : Type 0 where
  pub counted : AreCounts shapes small steps counts at
  pub nodes_are : (s : Forest) → steps_from at s ≡ drop at steps → reverse nodes ≡ raw shapes small s

pub record Top (steps : List Step) (a : ℕ) : Type 0 where
  pub r : ℕ
  pub i : ℕ
  pub j : ℕ
  pub bl : Forest
  pub af : Forest
  pub here : steps_from a (tree r i j bl af) ≡ drop a steps

top_from : (steps : List Step) (a : ℕ) → a < length steps → (s : Forest) → steps_from a s ≡ drop a steps → Top steps a
top_from steps a lt no_tree e = absurd (let l : 0 ≡ length (drop a steps) = ap length e in let d : length (drop a steps) ≡ length steps - a = length-drop a steps in omega arith)
top_from steps a lt (tree r i j bl af) e = record { r = r; i = i; j = j; bl = bl; af = af; here = e }

pub top_of : (steps : List Step) (d : Forest) → steps ≡ steps_of d → (a : ℕ) → a < length steps → Top steps a
top_of steps d are a lt =
    let len : length steps ≡ count d = ap length are ∙ steps_length 0 d in
    let h = forest_at 0 d a (omega arith) in
    let e : a ≡ 0 + a = omega arith in
    top_from steps a lt h.0 (ap (λ n. steps_from n h.0) e ∙ h.1 ∙ ap (drop a) (sym are))

module _ (shapes : List Shape) (small : ℕ → Bool) (steps : List Step) (counts : List ℕ) (nodes : List Made) (at a : ℕ) (at_is : at ≡ a + 1)
    (st : State shapes small steps counts at nodes) (x : Top steps a) where
  pub is_step : slice_get steps a ≡ Some record { rule = x.r; from = x.i; to = x.j; next = a + 1 + count x.bl }
  is_step = places.step_here steps a x.r x.i x.j x.bl x.af x.here

  pub lengths : length steps ≡ a + 1 + count x.bl + count x.af
  lengths = places.lengths steps a x.r x.i x.j x.bl x.af x.here

  pub past : steps_from (a + 1 + count x.bl) x.af ≡ drop (a + 1 + count x.bl) steps
  past = places.past steps a x.r x.i x.j x.bl x.af x.here

  pub inside : steps_from at (append x.bl x.af) ≡ drop at steps
  inside = subst (λ n. steps_from n (append x.bl x.af) ≡ drop n steps) (sym at_is) (places.inside_is steps a x.r x.i x.j x.bl x.af x.here)

  module _ (s : Step) (is : slice_get steps a ≡ Some s) where
    pub same : record { rule = x.r; from = x.i; to = x.j; next = a + 1 + count x.bl } ≡ s
    same = some_one (sym is_step ∙ is)

    pub next_is : a + 1 + count x.bl ≡ s.next
    next_is = ap (λ y. y.next) same

    pub next_within : length counts ≡ length steps + 1 → s.next < length counts
    next_within len = let n = next_is in let l = lengths in omega arith

    abbrev pub the_body : IsBody shapes small steps counts at s.next nodes
    the_body = record {
      below = x.bl;
      after = x.af;
      here = inside;
      end_is = let n = next_is in omega arith;
      counted = st.counted;
      nodes_are = st.nodes_are (append x.bl x.af) inside ∙ raw-append shapes small x.bl x.af;
    }

    -- the nodes of the body, and those after it
    pub body_is : (more : List Made) → ((b : IsBody shapes small steps counts at s.next nodes) → reverse more ≡ turns shapes small s.from 0 b.below ++ (raw shapes small b.below ++ raw shapes small b.after)) →
        reverse more ≡ flat (shaped shapes small s.from no_nodes x.bl) ++ raw shapes small x.af
    body_is more h =
        h the_body ∙ sym (append_assoc (turns shapes small s.from 0 x.bl) (raw shapes small x.bl) (raw shapes small x.af)) ∙ ap (λ l. l ++ raw shapes small x.af) (sym (flat-body shapes small s.from x.bl))

    pub count_is : (n : ℕ) → slice_get counts s.next ≡ Some n → n ≡ length (raw shapes small x.af)
    count_is n c =
        let l = lengths in
        some_one (sym c ∙ ap (slice_get counts) (sym next_is) ∙ st.counted (a + 1 + count x.bl) x.af (omega arith) (omega arith) past)

    pub below_is : (more : List Made) (n : ℕ) → reverse more ≡ flat (shaped shapes small s.from no_nodes x.bl) ++ raw shapes small x.af → slice_get counts s.next ≡ Some n → n ≤ length more
    below_is more n h c =
        let p : length (reverse more) ≡ length (flat (shaped shapes small s.from no_nodes x.bl) ++ raw shapes small x.af) = ap length h in
        let q : length (flat (shaped shapes small s.from no_nodes x.bl) ++ raw shapes small x.af) ≡ length (flat (shaped shapes small s.from no_nodes x.bl)) + length (raw shapes small x.af) =
        length-append (flat (shaped shapes small s.from no_nodes x.bl)) (raw shapes small x.af) in
        let r : length (reverse more) ≡ length more = length-reverse more in
        let k = count_is n c in
        omega arith

    -- the nodes of the step, and those after it
    pub own_is : (shape : Shape) (more : List Made) → shape ≡ shape_of shapes s.rule → reverse more ≡ flat (by_itself shape s.from s.to (shaped shapes small s.from no_nodes x.bl)) ++ raw shapes small x.af →
        reverse more ≡ raw shapes small (tree x.r x.i x.j x.bl x.af)
    own_is shape more e h =
        h ∙ ap (λ z. flat (by_itself z s.from s.to (shaped shapes small s.from no_nodes x.bl)) ++ raw shapes small x.af) e ∙
        ap (λ y. flat (by_itself (shape_of shapes y.rule) y.from y.to (shaped shapes small y.from no_nodes x.bl)) ++ raw shapes small x.af) (sym same)

raw_none : (shapes : List Shape) (small : ℕ → Bool) (n : ℕ) (s : Forest) → length (steps_from n s) ≡ 0 → raw shapes small s ≡ []
raw_none shapes small n no_tree e = refl
raw_none shapes small n (tree r i j bl af) e =
    absurd (let h = steps_length n (tree r i j bl af) in let one : count (tree r i j bl af) ≡ 1 + count bl + count af = refl in omega arith)

zero_at : (n p : ℕ) → p < n → slice_get {X = ℕ} (replicate n 0) p ≡ Some 0
zero_at zero p lt = absurd (omega arith)
zero_at (suc n) zero lt = refl
zero_at (suc n) (suc p) lt = zero_at n p (omega arith)

pub begin : (shapes : List Shape) (small : ℕ → Bool) (steps : List Step) (n : ℕ) → n ≡ length steps → State shapes small steps (replicate (n + 1) 0) n []
begin shapes small steps n len = record {
  counted = λ p s from within e.
      let p_is : p < n + 1 = omega arith in
      zero_at (n + 1) p p_is ∙ ap (λ l. Some (length l)) (sym (raw_none shapes small p s (ap length e ∙ length-drop p steps ∙ over p from)));
  nodes_are = λ s e. let le : n ≤ n = omega arith in sym (raw_none shapes small n s (ap length e ∙ length-drop n steps ∙ over n le));
}
  where
    over : (p : ℕ) → n ≤ p → length steps - p ≡ 0
    over p le = omega arith

pub next_state : (shapes : List Shape) (small : ℕ → Bool) (steps : List Step) (counts counts' : List ℕ) (at a : ℕ) (nodes more : List Made) → at ≡ a + 1 → State shapes small steps counts at nodes →
    ((s : Forest) → steps_from a s ≡ drop a steps → reverse more ≡ raw shapes small s) → slice_get counts' a ≡ Some (length more) → ((p : ℕ) → (p ≡ a → ⊥) → slice_get counts' p ≡ slice_get counts p) →
    State shapes small steps counts' a more
next_state shapes small steps counts counts' at a nodes more at_is st are here others = record { counted = λ p s from within e. go p s from within e (leb_tells at p); nodes_are = are }
  where
    go : (p : ℕ) (s : Forest) → a ≤ p → p ≤ length steps → steps_from p s ≡ drop p steps → ((leb at p ≡ true) × (at ≤ p)) ⊎ ((leb at p ≡ false) × (p < at)) →
        slice_get counts' p ≡ Some (length (raw shapes small s))
    go p s from within e (inl (t, le)) = others p (λ is. omega arith) ∙ st.counted p s le within e
    go p s from within e (inr (t, lt)) =
        let is : p ≡ a = omega arith in
        ap (slice_get counts') is ∙ here ∙ ap Some (sym (length-reverse more) ∙ ap length (are s (subst (λ n. steps_from n s ≡ drop n steps) is e)))

-- the same where what the two calls of the body ensure is at hand
pub after_step : (shapes : List Shape) (small : ℕ → Bool) (steps : List Step) (counts counts' : List ℕ) (nodes middle more : List Made) (at a : ℕ) → at ≡ a + 1 → at ≤ length steps →
    State shapes small steps counts at nodes → (s : Step) → slice_get steps a ≡ Some s →
    ((b : IsBody shapes small steps counts at s.next nodes) → reverse middle ≡ turns shapes small s.from 0 b.below ++ (raw shapes small b.below ++ raw shapes small b.after)) →
    (shape : Shape) → shape ≡ shape_of shapes s.rule → (n : ℕ) → slice_get counts s.next ≡ Some n →
    ((ns : Nodes) (rest : List Made) → reverse middle ≡ flat ns ++ rest → n ≡ length rest → reverse more ≡ flat (by_itself shape s.from s.to ns) ++ rest) →
    slice_get counts' a ≡ Some (length more) → ((p : ℕ) → (p ≡ a → ⊥) → slice_get counts' p ≡ slice_get counts p) → State shapes small steps counts' a more
after_step shapes small steps counts counts' nodes middle more at a at_is within st s is put shape shape_is n n_at own here others =
    next_state shapes small steps counts counts' at a nodes more at_is st from_top here others
  where
    from_top : (u : Forest) → steps_from a u ≡ drop a steps → reverse more ≡ raw shapes small u
    from_top no_tree eu = absurd (let l : 0 ≡ length (drop a steps) = ap length eu in let d : length (drop a steps) ≡ length steps - a = length-drop a steps in omega arith)
    from_top (tree r i j bl af) eu =
        let x : Top steps a = record { r = r; i = i; j = j; bl = bl; af = af; here = eu } in
        own_is shapes small steps counts nodes at a at_is st x s is shape more shape_is
        (own (shaped shapes small s.from no_nodes bl) (raw shapes small af) (body_is shapes small steps counts nodes at a at_is st x s is middle put) (count_is shapes small steps counts nodes at a at_is st x s is n n_at))

-- all steps as one body
pub the_whole : (shapes : List Shape) (small : ℕ → Bool) (steps : List Step) (d : Forest) → steps ≡ steps_of d → (counts : List ℕ) (nodes : List Made) (at end : ℕ) → at ≡ 0 → end ≡ length steps → State shapes small steps counts at nodes →
    IsBody shapes small steps counts 0 end nodes
the_whole shapes small steps d are counts nodes at end is end_is st = record {
  below = d;
  after = no_tree;
  here = ap (steps_from 0) (append_none d) ∙ sym are;
  end_is = let k : length steps ≡ count d = ap length are ∙ steps_length 0 d in omega arith;
  counted = λ p s from within e. let le : at ≤ p = omega arith in st.counted p s le within e;
  nodes_are = st.nodes_are d (subst (λ n. steps_from n d ≡ drop n steps) (sym is) (sym are)) ∙ sym (append_nil (raw shapes small d));
}

pub the_result : (shapes : List Shape) (small : ℕ → Bool) (steps : List Step) (d : Forest) → steps ≡ steps_of d → (counts : List ℕ) (nodes more : List Made) (at end : ℕ) → at ≡ 0 → end ≡ length steps → State shapes small steps counts at nodes →
    ((b : IsBody shapes small steps counts 0 end nodes) → reverse more ≡ turns shapes small 0 0 b.below ++ (raw shapes small b.below ++ raw shapes small b.after)) →
    reverse more ≡ flat (shaped shapes small 0 no_nodes d)
unfolding the_whole
the_result shapes small steps d are counts nodes more at end is end_is st put =
    put (the_whole shapes small steps d are counts nodes at end is end_is st) ∙ ap (λ l. turns shapes small 0 0 d ++ l) (append_nil (raw shapes small d)) ∙ sym (flat-body shapes small 0 d)
