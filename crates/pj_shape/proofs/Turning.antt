-- Putting the turns of a body, one after the other.
use Rattle.std.proofs.Common.{◌≡◌, ℕ, Bool, ◌+◌, ◌<◌, ◌≤◌, List, [], ◌∷◌, ◌++◌, length, reverse, drop, Some, slice_get, refl, ◌∙◌, ap, arith, append_assoc, length-append}
use Rattle.std.specs.Prelude.{◌==◌}
use Rattle.pj_tree.specs.declared.kind.Kind.{Kind}
use Rattle.pj_peg_grammar.specs.Derivation.{Forest, no_tree, tree, append, count, steps_from}
use Rattle.pj_peg_grammar.specs.declared.derivation.Step.{Step}
use Rattle.pj_shape.specs.declared.shape.Shape.{Shape}
use Rattle.pj_shape.specs.declared.shape.Shape.TheVariants.{Pass, Node, Joined, Turn, Segment}
use Rattle.pj_shape.specs.declared.made.Made.{Made}
use Rattle.pj_shape.specs.Shaped.{acts, shape_of, shaped, no_nodes}
use Rattle.pj_shape.specs.Flat.{flat, by_itself, raw, leads_by, turn_onto, with_turn, turns}
use Rattle.pj_shape.specs.Body.{AreCounts}
use Rattle.pj_shape.proofs.Places.{raw-append, step_here, past, lengths}

-- the steps from `at` to `end` are left of the body
pub record Turning (shapes : List Shape) (small : ℕ → Bool) (start : ℕ) (steps : List Step) (below after : Forest) (at end : ℕ) (nodes : List Made) : Type 0 where
  pub left : Forest
  pub done : List Made
  pub n : ℕ
  pub here : steps_from at (append left after) ≡ drop at steps
  pub end_is : end ≡ at + count left
  pub turns_are : turns shapes small start 0 below ≡ turns shapes small start n left ++ done
  pub nodes_are : reverse nodes ≡ done ++ (raw shapes small below ++ raw shapes small after)
  pub counted : n + length (raw shapes small left) ≡ length done + length (raw shapes small below)

module _ (shapes : List Shape) (small : ℕ → Bool) (start : ℕ) (steps : List Step) (below after : Forest) (end : ℕ) where
  abbrev pub own : ℕ → ℕ → ℕ → Forest → List Made
  own r i j bl = flat (by_itself (shape_of shapes r) i j (shaped shapes small i no_nodes bl))

  -- what stands at a place before the end
  pub record Next (at : ℕ) (nodes : List Made) : Type 0 where
    pub r : ℕ
    pub i : ℕ
    pub j : ℕ
    pub bl : Forest
    pub af : Forest
    pub done : List Made
    pub n : ℕ
    pub here : steps_from at (tree r i j bl (append af after)) ≡ drop at steps
    pub end_is : end ≡ at + 1 + count bl + count af
    pub turns_are : turns shapes small start 0 below ≡ turns shapes small start n (tree r i j bl af) ++ done
    pub nodes_are : reverse nodes ≡ done ++ (raw shapes small below ++ raw shapes small after)
    pub counted : n + length (own r i j bl) + length (raw shapes small af) ≡ length done + length (raw shapes small below)

  pub next_of : (at : ℕ) (nodes : List Made) → at < end → Turning shapes small start steps below after at end nodes → Next at nodes
  next_of at nodes lt t = go t.left t.here t.end_is t.turns_are t.counted
    where
      go : (left : Forest) → steps_from at (append left after) ≡ drop at steps → end ≡ at + count left →
          turns shapes small start 0 below ≡ turns shapes small start t.n left ++ t.done → t.n + length (raw shapes small left) ≡ length t.done + length (raw shapes small below) → Next at nodes
      go no_tree here is ts counted = absurd (omega arith)
      go (tree r i j bl af) here is ts counted = record {
        r = r;
        i = i;
        j = j;
        bl = bl;
        af = af;
        done = t.done;
        n = t.n;
        here = here;
        end_is = let one : count (tree r i j bl af) ≡ 1 + count bl + count af = refl in omega arith;
        turns_are = ts;
        nodes_are = t.nodes_are;
        counted =
            let two : length (own r i j bl ++ raw shapes small af) ≡ length (own r i j bl) + length (raw shapes small af) = length-append (own r i j bl) (raw shapes small af) in
            let one : length (raw shapes small (tree r i j bl af)) ≡ length (own r i j bl ++ raw shapes small af) = refl in
            omega arith;
      }

  module _ (at : ℕ) (nodes : List Made) (x : Next at nodes) where
    pub step_is : slice_get steps at ≡ Some record { rule = x.r; from = x.i; to = x.j; next = at + 1 + count x.bl }
    step_is = step_here steps at x.r x.i x.j x.bl (append x.af after) x.here

    pub past_is : steps_from (at + 1 + count x.bl) (append x.af after) ≡ drop (at + 1 + count x.bl) steps
    past_is = past steps at x.r x.i x.j x.bl (append x.af after) x.here

    pub count_is : (counts : List ℕ) (first : ℕ) → AreCounts shapes small steps counts first → first ≤ at →
        slice_get counts (at + 1 + count x.bl) ≡ Some (length (raw shapes small x.af) + length (raw shapes small after))
    count_is counts first are le =
        are (at + 1 + count x.bl) (append x.af after) (omega arith) within past_is ∙
        ap Some (ap length (raw-append shapes small x.af after) ∙ length-append (raw shapes small x.af) (raw shapes small after))
      where
        within : at + 1 + count x.bl ≤ length steps
        within = let a = lengths steps at x.r x.i x.j x.bl (append x.af after) x.here in omega arith

    abbrev pub taken : ℕ
    taken = x.n + length (own x.r x.i x.j x.bl)

    -- what the step is where it stands
    abbrev pub acting : Shape
    acting = acts (shape_of shapes x.r) (leads_by small x.i x.j (x.n == 0) x.af)

    turned_by : (s : Shape) → acting ≡ s →
        turns shapes small start x.n (tree x.r x.i x.j x.bl x.af) ≡ turn_onto s start x.j taken (turns shapes small start (with_turn s taken) x.af)
    turned_by s e = ap (λ z. turn_onto z start x.j taken (turns shapes small start (with_turn z taken) x.af)) e

    -- the step is no turn
    on : turns shapes small start x.n (tree x.r x.i x.j x.bl x.af) ≡ turns shapes small start taken x.af → Turning shapes small start steps below after (at + 1 + count x.bl) end nodes
    on e = record {
      left = x.af;
      done = x.done;
      n = taken;
      here = past_is;
      end_is = x.end_is;
      turns_are = x.turns_are ∙ ap (λ l. l ++ x.done) e;
      nodes_are = x.nodes_are;
      counted = x.counted;
    }

    pub passed : (s : Shape) → acting ≡ s → ((k : Kind) → s ≡ Turn k → ⊥) → Turning shapes small start steps below after (at + 1 + count x.bl) end nodes
    passed (Turn k) e not = absurd (not k refl)
    passed Pass e not = on (turned_by Pass e)
    passed (Node k) e not = on (turned_by (Node k) e)
    passed (Joined k) e not = on (turned_by (Joined k) e)
    passed (Segment k) e not = on (turned_by (Segment k) e)

    -- as many nodes as there are when the node of a turn is put
    pub size_is : (len : ℕ) → len ≡ length (reverse nodes) → len ≡ taken + (length (raw shapes small x.af) + length (raw shapes small after))
    size_is len is =
        let a : length (reverse nodes) ≡ length (x.done ++ (raw shapes small below ++ raw shapes small after)) = ap length x.nodes_are in
        let b : length (x.done ++ (raw shapes small below ++ raw shapes small after)) ≡ length x.done + length (raw shapes small below ++ raw shapes small after) = length-append x.done (raw shapes small below ++ raw shapes small after) in
        let d : length (raw shapes small below ++ raw shapes small after) ≡ length (raw shapes small below) + length (raw shapes small after) = length-append (raw shapes small below) (raw shapes small after) in
        let e = x.counted in
        omega arith

    -- the step is a turn
    pub turned : (k : Kind) (more : List Made) (size : ℕ) → acting ≡ Turn k → size ≡ 1 + taken →
        reverse more ≡ record { kind = k; from = start; to = x.j; size = size } ∷ reverse nodes → Turning shapes small start steps below after (at + 1 + count x.bl) end more
    turned k more size e size_is' is =
        let top : ℕ → Made = λ z. record { kind = k; from = start; to = x.j; size = z } in
        record {
          left = x.af;
          done = top (1 + taken) ∷ x.done;
          n = 1 + taken;
          here = past_is;
          end_is = x.end_is;
          turns_are = x.turns_are ∙ ap (λ l. l ++ x.done) (turned_by (Turn k) e) ∙ append_assoc (turns shapes small start (1 + taken) x.af) (top (1 + taken) ∷ []) x.done;
          nodes_are = is ∙ ap (λ l. top size ∷ l) x.nodes_are ∙ ap (λ z. top z ∷ x.done ++ (raw shapes small below ++ raw shapes small after)) size_is';
          counted = let h = x.counted in omega arith;
        }
