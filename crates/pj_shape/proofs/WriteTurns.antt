-- The turns of the loop that writes nodes, by what its calls ensure.
use Rattle.std.proofs.Common.{◌≡◌, ℕ, suc, ◌+◌, ◌<◌, ◌≤◌, Bool, true, false, List, [], ◌∷◌, ◌++◌, length, reverse, drop, Option, Some, None, IsSome, slice_get, refl, sym, ◌∙◌, ap, subst, arith}
use Rattle.std.specs.Prelude.{slice_range}
use Rattle.std.specs.List.{fold, All}
use Rattle.std.proofs.lemmas.List.{reverse-append}
use Rattle.std.proofs.lemmas.Option.{slice_get_within, get_or_from_slice_get}
use Rattle.pj_tree.specs.Building.{Building, Close, after_call, opened, closed}
use Rattle.pj_tree.specs.Nested.{calls_of}
use Rattle.pj_tree.specs.declared.kind.Kind.TheVariants as k
use Rattle.pj_tree.specs.declared.node.Span.{Span}
use Rattle.pj_shape.specs.declared.made.Made.{Made}
use Rattle.pj_shape.specs.declared.writing.Pending.{Pending}
use Rattle.pj_shape.specs.Shaped.{no_nodes, node}
use Rattle.pj_shape.specs.Flat.{flat}
use Rattle.pj_shape.specs.Typed.{Words, around_of, typed, is_class}
use Rattle.pj_shape.specs.ShapedTree.{roots_of}
use Rattle.pj_shape.specs.Writing.{IsWithin, Root, IsRoot, root_of, owns, type_calls, is_class_by}
use Rattle.pj_shape.specs.Written.{begin_of, end_of, parts_of}
use Rattle.pj_shape.proofs.PutTurns.{some_one}
use Rattle.pj_shape.proofs.Opening.{AreOpen, some_open, open_opened, open_owns, open_closed, after_calls}
use Rattle.pj_shape.proofs.WriteNodes.{Writing, Top, Next, Frame, top_of, next_of, finish, close_turn, open_turn, type_turn, the_node, node_is, mark_is, fits, to_within, marked_is}

pub popped : (stack rest : List Pending) (top : Pending) → stack ≡ rest ++ top ∷ [] → reverse stack ≡ top ∷ reverse rest
popped stack rest top e = ap reverse e ∙ reverse-append rest (top ∷ [])

pub within_at : (count : ℕ) (nodes : List Made) (i : ℕ) (n : Made) → All (IsWithin count) nodes → slice_get nodes i ≡ Some n → IsWithin count n
within_at count nodes i n all is = subst (IsWithin count) (get_or_from_slice_get nodes i n n is) (all i n (slice_get_within nodes i n is))

open_type : (text : List ℕ) (spans : List Span) (b : Building) (i j depth : ℕ) → AreOpen b depth → AreOpen (fold after_call b (type_calls text spans i j)) depth
open_type text spans b i j depth o =
    let beg = begin_of text spans i in
    let end = end_of text spans i j in
    let b1 = opened b k.TypeExpression beg in
    let b2 = opened b1 k.ClassType beg in
    let b3 = fold after_call b2 (owns (slice_range spans i j)) in
    let o1 : AreOpen b1 (suc depth) = open_opened b k.TypeExpression beg depth o in
    let o2 : AreOpen b2 (suc (suc depth)) = open_opened b1 k.ClassType beg (suc depth) o1 in
    let o3 : AreOpen b3 (suc (suc depth)) = open_owns b2 (slice_range spans i j) (suc depth) o2 in
    let o4 : AreOpen (closed b3 end) (suc depth) = open_closed b3 end (suc depth) o3 in
    let o5 : AreOpen (closed (closed b3 end) end) depth = open_closed (closed b3 end) end depth o4 in
    subst (λ x. AreOpen x depth) (sym (after_calls b2 (owns (slice_range spans i j)) (Close end ∷ Close end ∷ []))) o5

-- the root was opened
pub begin : (text : List ℕ) (spans : List Span) (w : Words) (r : Root) (nodes : List Made) (ms : List Bool) (b b' : Building) (n : Made) (around : Option ℕ) (empty stack : List Pending) →
    IsRoot w r nodes ms → r.to ≤ length spans → slice_get nodes 0 ≡ Some n → b' ≡ opened b n.kind (begin_of text spans n.from) → around ≡ around_of n.kind n.from → empty ≡ [] →
    stack ≡ empty ++ record { end = 0 + n.size; to = n.to; close = end_of text spans n.from n.to } ∷ [] →
    Writing text spans w nodes ms (fold after_call b (calls_of (roots_of text spans (typed w None (root_of r))))) b' 1 n.from around stack
begin text spans w r nodes ms b b' n around empty stack is within at e_b e_around none e_stack =
    let root : Made = record { kind = r.kind; from = r.from; to = r.to; size = 1 + length (flat r.below) } in
    let same : root ≡ n = some_one (sym (ap (λ l. slice_get l 0) is.nodes_are) ∙ at) in
    subst (λ m. b' ≡ opened b m.kind (begin_of text spans m.from) → around ≡ around_of m.kind m.from → stack ≡ record { end = 0 + m.size; to = m.to; close = end_of text spans m.from m.to } ∷ [] →
    Writing text spans w nodes ms (fold after_call b (calls_of (roots_of text spans (typed w None (root_of r))))) b' 1 m.from around stack) same
    base e_b e_around (e_stack ∙ ap (λ l. l ++ record { end = 0 + n.size; to = n.to; close = end_of text spans n.from n.to } ∷ []) none)
  where
    base : b' ≡ opened b r.kind (begin_of text spans r.from) → around ≡ around_of r.kind r.from →
        stack ≡ record { end = 0 + (1 + length (flat r.below)); to = r.to; close = end_of text spans r.from r.to } ∷ [] →
        Writing text spans w nodes ms (fold after_call b (calls_of (roots_of text spans (typed w None (root_of r))))) b' 1 r.from around stack
    base e1 e2 e3 =
        let beg = begin_of text spans r.from in
        let end = end_of text spans r.from r.to in
        let size : 0 + (1 + length (flat r.below)) ≡ 1 + length (flat r.below) = omega arith in
        let f : Frame = record { to = r.to; close = end; after = no_nodes } in
        record {
          ns = r.below;
          frames = f ∷ [];
          stack_is = ap reverse e3 ∙ ap (λ m. record { end = m; to = r.to; close = end } ∷ []) size;
          nodes_are = ap (drop 1) is.nodes_are;
          marks_are = ap (drop 1) is.marks_are;
          calls_are =
              ap (λ a. fold after_call b' (calls_of (parts_of text spans r.from r.to (typed w a r.below)) ++ Close end ∷ [])) e2 ∙
              ap (λ x. fold after_call x (calls_of (parts_of text spans r.from r.to (typed w (around_of r.kind r.from) r.below)) ++ Close end ∷ [])) e1;
          are_open = subst (λ x. AreOpen x 1) (sym e1) (open_opened b r.kind beg 0 tt);
          tos = (within, tt);
        }

module _ (text : List ℕ) (spans : List Span) (w : Words) (nodes : List Made) (ms : List Bool) (total b : Building) (next at : ℕ) (around : Option ℕ) (stack rest : List Pending) (top : Pending)
    (st : Writing text spans w nodes ms total b next at around stack) (is : stack ≡ rest ++ top ∷ []) where
  abbrev x : Top text spans w nodes ms total b next at around top rest
  x = top_of text spans w nodes ms total b next at around stack rest top st (popped stack rest top is)

  pub top_within : top.to ≤ length spans
  top_within = to_within text spans w nodes ms total b next at around top rest x

  pub top_open : IsSome b.current
  top_open = some_open b (length x.fs) x.are_open

  pub close_next : (b1 b2 : Building) → top.end ≤ next → b1 ≡ fold after_call b (owns (slice_range spans at top.to)) → b2 ≡ closed b1 top.close → Writing text spans w nodes ms total b2 next top.to None rest
  close_next = close_turn text spans w nodes ms total b next at around top rest x

  module _ (lt : next < top.end) where
    abbrev y : Next text spans w nodes ms total b next at around top rest x
    y = next_of text spans w nodes ms total b next at around top rest x lt

    pub node_within : next < length nodes
    node_within = slice_get_within nodes next _ (node_is text spans w nodes ms total b next at around top rest x y)

    pub mark_within : next < length ms
    mark_within = slice_get_within ms next _ (mark_is text spans w nodes ms total b next at around top rest x y)

    module _ (n : Made) (n_is : slice_get nodes next ≡ Some n) where
      same : the_node text spans w nodes ms total b next at around top rest x y ≡ n
      same = some_one (sym (node_is text spans w nodes ms total b next at around top rest x y) ∙ n_is)

      pub next_fits : (next + n.size ≤ length nodes) × (0 < n.size)
      next_fits =
          let s : 1 + length (flat y.below) ≡ n.size = ap (λ m. m.size) same in
          let f = fits text spans w nodes ms total b next at around top rest x y in
          (omega arith, omega arith)

      module _ (mark cls : Bool) (mark_at : slice_get ms next ≡ Some mark) (cls_is : cls ≡ is_class_by around n.from mark) where
        class_is : is_class w around (node y.kind y.i y.j y.below no_nodes) ≡ cls
        class_is =
            marked_is w around y.kind y.i y.j y.below ∙
            ap (is_class_by around y.i) (some_one (sym (mark_is text spans w nodes ms total b next at around top rest x y) ∙ mark_at)) ∙
            ap (λ m. is_class_by around m.from mark) same ∙ sym cls_is

        pub open_next : (b1 b2 : Building) (around' : Option ℕ) (back stack' : List Pending) → cls ≡ false → n.to ≤ length spans →
            b1 ≡ fold after_call b (owns (slice_range spans at n.from)) → b2 ≡ opened b1 n.kind (begin_of text spans n.from) → around' ≡ around_of n.kind n.from →
            back ≡ rest ++ top ∷ [] → stack' ≡ back ++ record { end = next + n.size; to = n.to; close = end_of text spans n.from n.to } ∷ [] →
            Writing text spans w nodes ms total b2 (next + 1) n.from around' stack'
        open_next b1 b2 around' back stack' not_class within e1 e2 e3 e4 e5 =
            subst (λ m. m.to ≤ length spans → b1 ≡ fold after_call b (owns (slice_range spans at m.from)) → b2 ≡ opened b1 m.kind (begin_of text spans m.from) → around' ≡ around_of m.kind m.from →
            reverse stack' ≡ record { end = next + m.size; to = m.to; close = end_of text spans m.from m.to } ∷ top ∷ reverse rest → Writing text spans w nodes ms total b2 (next + 1) m.from around' stack')
            same base within e1 e2 e3
            (ap reverse e5 ∙ reverse-append back (record { end = next + n.size; to = n.to; close = end_of text spans n.from n.to } ∷ []) ∙
            ap (λ l. record { end = next + n.size; to = n.to; close = end_of text spans n.from n.to } ∷ l) (popped back rest top e4))
          where
            base : y.j ≤ length spans → b1 ≡ fold after_call b (owns (slice_range spans at y.i)) → b2 ≡ opened b1 y.kind (begin_of text spans y.i) → around' ≡ around_of y.kind y.i →
                reverse stack' ≡ record { end = next + (1 + length (flat y.below)); to = y.j; close = end_of text spans y.i y.j } ∷ top ∷ reverse rest → Writing text spans w nodes ms total b2 (next + 1) y.i around' stack'
            base h f1 f2 f3 f4 =
                subst (λ a. Writing text spans w nodes ms total b2 (next + 1) y.i a stack') (sym f3)
                (open_turn text spans w nodes ms total b next at around top rest x y b1 b2 stack' (end_of text spans y.i y.j) (class_is ∙ not_class) h f1 f2 refl f4)

        pub type_next : (b1 b2 : Building) (back : List Pending) → cls ≡ true →
            b1 ≡ fold after_call b (owns (slice_range spans at n.from)) → b2 ≡ fold after_call b1 (type_calls text spans n.from n.to) → back ≡ rest ++ top ∷ [] →
            Writing text spans w nodes ms total b2 (next + n.size) n.to None back
        type_next b1 b2 back a_class e1 e2 e3 =
            subst (λ m. b1 ≡ fold after_call b (owns (slice_range spans at m.from)) → b2 ≡ fold after_call b1 (type_calls text spans m.from m.to) → Writing text spans w nodes ms total b2 (next + m.size) m.to None back)
            same base e1 e2
          where
            base : b1 ≡ fold after_call b (owns (slice_range spans at y.i)) → b2 ≡ fold after_call b1 (type_calls text spans y.i y.j) → Writing text spans w nodes ms total b2 (next + (1 + length (flat y.below))) y.j None back
            base f1 f2 =
                let o1 : AreOpen b1 (suc (length x.fs)) = subst (λ z. AreOpen z (suc (length x.fs))) (sym f1) (open_owns b (slice_range spans at y.i) (length x.fs) x.are_open) in
                type_turn text spans w nodes ms total b next at around top rest x y b1 b2 back (class_is ∙ a_class) f1 f2
                (subst (λ z. AreOpen z (suc (length x.fs))) (sym f2) (open_type text spans b1 y.i y.j (suc (length x.fs)) o1)) (popped back rest top e3)

-- at the end
pub all_done : (text : List ℕ) (spans : List Span) (w : Words) (nodes : List Made) (ms : List Bool) (total b : Building) (next at : ℕ) (around : Option ℕ) (stack rest : List Pending) →
    Writing text spans w nodes ms total b next at around stack → length stack ≡ 0 → b ≡ total
all_done text spans w nodes ms total b next at around [] rest st e = finish text spans w nodes ms total b next at around [] st refl
all_done text spans w nodes ms total b next at around (p ∷ stack) rest st e = absurd (omega arith)

pub root_within : (count : ℕ) (w : Words) (r : Root) (nodes : List Made) (ms : List Bool) → IsRoot w r nodes ms → All (IsWithin count) nodes → r.to ≤ count
root_within count w r nodes ms is all =
    let root : Made = record { kind = r.kind; from = r.from; to = r.to; size = 1 + length (flat r.below) } in
    (within_at count nodes 0 root all (ap (λ l. slice_get l 0) is.nodes_are)).1
