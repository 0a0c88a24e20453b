-- The nodes of a body in preorder are its turns and the nodes under them.
use Rattle.std.proofs.Common.{◌≡◌, ℕ, suc, ◌+◌, Bool, true, false, List, [], ◌∷◌, ◌++◌, length, refl, sym, ◌∙◌, ap, arith, append_assoc, length-append}
use lib.Dec.{eqb-suc-zero}
use Rattle.std.specs.Prelude.{◌==◌}
use Rattle.pj_tree.specs.declared.kind.Kind.{Kind}
use Rattle.pj_peg_grammar.specs.Derivation.{Forest, no_tree, tree}
use Rattle.pj_shape.specs.declared.shape.Shape.{Shape}
use Rattle.pj_shape.specs.declared.shape.Shape.TheVariants.{Pass, Node, Joined, Turn, Segment}
use Rattle.pj_shape.specs.declared.made.Made.{Made}
use Rattle.pj_shape.specs.Shaped.{Nodes, no_nodes, node, append, one_node, joined, with_rule, acts, is_empty, shape_of, shaped}
use Rattle.pj_shape.specs.Flat.{flat, by_itself, raw, leads_by, turn_onto, with_turn, turns}

pub flat-append : (ns ms : Nodes) → flat (append ns ms) ≡ flat ns ++ flat ms
flat-append no_nodes ms = refl
flat-append (node k i j below after) ms =
    let head : Made = record { kind = k; from = i; to = j; size = 1 + length (flat below) } in
    ap (λ l. head ∷ flat below ++ l) (flat-append after ms) ∙ ap (λ l. head ∷ l) (sym (append_assoc (flat below) (flat after) (flat ms)))

pub append_nil : {A : Type 0} (xs : List A) → xs ++ [] ≡ xs
append_nil [] = refl
append_nil (x ∷ xs) = ap (λ l. x ∷ l) (append_nil xs)

-- the turns over the nodes so far, and those nodes, and the others
module _ (shapes : List Shape) (small : ℕ → Bool) (start : ℕ) where
  beside : (so_far y : Nodes) (after : Forest) →
      ((x : Nodes) → flat (shaped shapes small start x after) ≡ turns shapes small start (length (flat x)) after ++ flat x ++ raw shapes small after) →
      flat (shaped shapes small start (append so_far y) after) ≡ turns shapes small start (length (flat so_far) + length (flat y)) after ++ flat so_far ++ (flat y ++ raw shapes small after)
  beside so_far y after h =
      h (append so_far y) ∙
      ap (λ l. turns shapes small start (length l) after ++ l ++ raw shapes small after) (flat-append so_far y) ∙
      ap (λ n. turns shapes small start n after ++ (flat so_far ++ flat y) ++ raw shapes small after) (length-append (flat so_far) (flat y)) ∙
      regroup (turns shapes small start (length (flat so_far) + length (flat y)) after) (flat so_far) (flat y) (raw shapes small after)
    where
      regroup : (t a b r : List Made) → t ++ (a ++ b) ++ r ≡ t ++ a ++ (b ++ r)
      regroup t a b r = ap (λ l. l ++ r) (sym (append_assoc t a b)) ∙ append_assoc (t ++ a) b r

  over : (k : Kind) (j : ℕ) (so_far ns : Nodes) (after : Forest) →
      ((x : Nodes) → flat (shaped shapes small start x after) ≡ turns shapes small start (length (flat x)) after ++ flat x ++ raw shapes small after) →
      flat (shaped shapes small start (one_node k start j (append so_far ns)) after) ≡
      turns shapes small start (1 + (length (flat so_far) + length (flat ns))) after ++ record { kind = k; from = start; to = j; size = 1 + (length (flat so_far) + length (flat ns)) } ∷ [] ++
      flat so_far ++ (flat ns ++ raw shapes small after)
  over k j so_far ns after h =
      let n = length (flat so_far) + length (flat ns) in
      let top : ℕ → Made = λ m. record { kind = k; from = start; to = j; size = 1 + m } in
      let all : flat (append so_far ns) ≡ flat so_far ++ flat ns = flat-append so_far ns in
      let count : length (flat so_far ++ flat ns) ≡ n = length-append (flat so_far) (flat ns) in
      let whole : flat (one_node k start j (append so_far ns)) ≡ top n ∷ (flat so_far ++ flat ns) =
      ap (λ l. top (length l) ∷ l ++ []) all ∙ ap (λ m. top m ∷ (flat so_far ++ flat ns) ++ []) count ∙ ap (λ l. top n ∷ l) (append_nil (flat so_far ++ flat ns)) in
      h (one_node k start j (append so_far ns)) ∙
      ap (λ l. turns shapes small start (length l) after ++ l ++ raw shapes small after) whole ∙
      ap (λ m. turns shapes small start m after ++ (top n ∷ (flat so_far ++ flat ns)) ++ raw shapes small after) (suc_of (length (flat so_far ++ flat ns)) n count) ∙
      regroup (turns shapes small start (1 + n) after) (top n) (flat so_far) (flat ns) (raw shapes small after)
    where
      suc_of : (m n : ℕ) → m ≡ n → suc m ≡ 1 + n
      suc_of m n e = omega arith

      regroup : (t : List Made) (x : Made) (a b r : List Made) → t ++ (x ∷ (a ++ b)) ++ r ≡ (t ++ x ∷ []) ++ a ++ (b ++ r)
      regroup t x a b r = ap (λ l. l ++ r) (sym (append_assoc t (x ∷ []) (a ++ b))) ∙ ap (λ l. l ++ r) (sym (append_assoc (t ++ x ∷ []) a b)) ∙ append_assoc ((t ++ x ∷ []) ++ a) b r

  go : (s : Shape) (b : Bool) (i j : ℕ) (so_far ns : Nodes) (after : Forest) →
      ((x : Nodes) → flat (shaped shapes small start x after) ≡ turns shapes small start (length (flat x)) after ++ flat x ++ raw shapes small after) →
      flat (shaped shapes small start (with_rule (acts s b) start i j so_far ns) after) ≡
      turn_onto (acts s b) start j (length (flat so_far) + length (flat (by_itself s i j ns))) (turns shapes small start (with_turn (acts s b) (length (flat so_far) + length (flat (by_itself s i j ns)))) after) ++
      flat so_far ++ (flat (by_itself s i j ns) ++ raw shapes small after)
  go Pass b i j so_far ns after h = beside so_far ns after h
  go (Node k) b i j so_far ns after h = beside so_far (one_node k i j ns) after h
  go (Joined k) b i j so_far ns after h = beside so_far (joined k i j ns) after h
  go (Turn k) b i j so_far ns after h = over k j so_far ns after h
  go (Segment k) true i j so_far ns after h = beside so_far ns after h
  go (Segment k) false i j so_far ns after h = over k j so_far ns after h

  empty_is : (x : Nodes) → is_empty x ≡ (length (flat x) == 0)
  empty_is no_nodes = refl
  empty_is (node k i j below after) = sym (eqb-suc-zero (length (flat below ++ flat after)))

  pub flat-shaped : (t : Forest) (so_far : Nodes) → flat (shaped shapes small start so_far t) ≡ turns shapes small start (length (flat so_far)) t ++ flat so_far ++ raw shapes small t
  flat-shaped no_tree so_far = sym (append_nil (flat so_far))
  flat-shaped (tree r i j below after) so_far =
      let ns = shaped shapes small i no_nodes below in
      let s : Bool → Shape = λ b. acts (shape_of shapes r) (leads_by small i j b after) in
      ap (λ b. flat (shaped shapes small start (with_rule (s b) start i j so_far ns) after)) (empty_is so_far) ∙
      go (shape_of shapes r) (leads_by small i j (length (flat so_far) == 0) after) i j so_far ns after (flat-shaped after)

  -- the nodes of a body
  pub flat-body : (t : Forest) → flat (shaped shapes small start no_nodes t) ≡ turns shapes small start 0 t ++ raw shapes small t
  flat-body t = flat-shaped t no_nodes ∙ ap (λ l. l ++ raw shapes small t) (append_nil (turns shapes small start 0 t))
