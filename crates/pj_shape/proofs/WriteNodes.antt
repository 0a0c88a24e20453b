-- The loop that writes nodes.
use Rattle.std.proofs.Common.{◌≡◌, ℕ, suc, ◌+◌, ◌-◌, ◌<◌, ◌≤◌, Bool, true, false, List, [], ◌∷◌, ◌++◌, length, reverse, drop, Option, Some, None, slice_get, refl, sym, ◌∙◌, ap, subst, arith, append_assoc, length-append, length-drop, ◌⊎◌, inl, inr, ◌≢◌, eqb}
use Rattle.std.specs.Prelude.{slice_range, ◌==◌, ◌&&◌, not, if◌then◌else◌}
use Rattle.std.specs.List.{fold}
use Rattle.std.proofs.Math.Seq.{drop-append_seam}
use Rattle.std.proofs.lemmas.Bool.Decides.{eqb_tells}
use Rattle.pj_tree.specs.Building.{Building, Call, Open, Close, after_call, opened, closed}
use Rattle.pj_tree.specs.Nested.{Parts, NoMore, Child, calls_of}
use Rattle.pj_tree.specs.declared.kind.Kind.{Kind}
use Rattle.pj_tree.specs.declared.kind.Kind.TheVariants as k
use Rattle.pj_tree.specs.declared.node.Span.{Span}
use Rattle.pj_shape.specs.declared.made.Made.{Made}
use Rattle.pj_shape.specs.declared.writing.Pending.{Pending}
use Rattle.pj_shape.specs.Shaped.{Nodes, no_nodes, node, one_node}
use Rattle.pj_shape.specs.Flat.{flat}
use Rattle.pj_shape.specs.Marks.{marks}
use Rattle.pj_shape.specs.Typed.{Words, names, names_by, is_class_name, around_of, is_class, type_then, typed}
use Rattle.pj_shape.specs.Writing.{owns, type_calls, is_class_by}
use Rattle.pj_shape.specs.Written.{begin_of, end_of, tokens_then, parts_of}
use Rattle.pj_shape.proofs.Ranges.{range_none}
use Rattle.pj_shape.proofs.Opening.{AreOpen, open_opened, open_owns, open_closed, after_calls}
use Rattle.pj_shape.proofs.Flattening.{append_nil}
use Rattle.pj_shape.proofs.Places.{drop_add, get_of_drop}

-- a node whose children are being written: the place up to which it takes the tokens, the offset where it ends, and the nodes after it
pub record Frame : Type 0 where
  pub to : ℕ
  pub close : ℕ
  pub after : Nodes

-- ---- marks

pub marks_length : (w : Words) (ns : Nodes) → length (marks w ns) ≡ length (flat ns)
marks_length w no_nodes = refl
marks_length w (node kind i j below after) =
    let a = marks_length w below in
    let b = marks_length w after in
    let c = length-append (marks w below) (marks w after) in
    let d = length-append (flat below) (flat after) in
    let e : length (marks w below ++ marks w after) ≡ length (flat below ++ flat after) = omega arith in
    ap suc e

-- a node is the name of a class where it stands, by its mark
pub marked_is : (w : Words) (around : Option ℕ) (kind : Kind) (i j : ℕ) (below : Nodes) →
    is_class w around (node kind i j below no_nodes) ≡ is_class_by around i (is_class_name w.capital (names i (node kind i j below no_nodes)) && not (w.declared i))
marked_is w None kind i j below = refl
marked_is w (Some start) kind i j below = go (eqb_tells i start)
  where
    mark : ℕ → Bool
    mark s = is_class_name w.capital (names s (node kind i j below no_nodes)) && not (w.declared s)

    other : (b : Bool) → b ≡ false →
        is_class_name w.capital (if b then names_by kind (j - 1) (names start below) else []) && not (w.declared start) ≡ false
    other true e = absurd cc
    other false e = refl

    go : ((eqb i start ≡ true) × (i ≡ start)) ⊎ ((eqb i start ≡ false) × (i ≢ start)) →
        is_class_name w.capital (names start (node kind i j below no_nodes)) && not (w.declared start) ≡ ((i == start) && (is_class_name w.capital (names i (node kind i j below no_nodes)) && not (w.declared i)))
    go (inl (t, e)) =
        ap (λ s. is_class_name w.capital (names s (node kind i j below no_nodes)) && not (w.declared s)) (sym e) ∙
        sym (ap (λ b. b && (is_class_name w.capital (names i (node kind i j below no_nodes)) && not (w.declared i))) t)
    go (inr (f, ne)) =
        other (i == start) f ∙
        sym (ap (λ b. b && (is_class_name w.capital (names i (node kind i j below no_nodes)) && not (w.declared i))) f)

-- ---- calls

pub calls-tokens : (tokens : List Span) (rest : Parts) → calls_of (tokens_then tokens rest) ≡ owns tokens ++ calls_of rest
calls-tokens [] rest = refl
calls-tokens (t ∷ ts) rest = ap (λ l. Call.Own t ∷ l) (calls-tokens ts rest)

module _ (text : List ℕ) (spans : List Span) where
  -- the calls of a node, and of those after it
  pub calls_of_node : (at to : ℕ) (kind : Kind) (i j : ℕ) (below after : Nodes) →
      calls_of (parts_of text spans at to (node kind i j below after)) ≡
      owns (slice_range spans at i) ++ Open kind (begin_of text spans i) ∷ (calls_of (parts_of text spans i j below) ++ Close (end_of text spans i j) ∷ calls_of (parts_of text spans j to after))
  calls_of_node at to kind i j below after =
      calls-tokens (slice_range spans at i) (Child kind (begin_of text spans i) (parts_of text spans i j below) (end_of text spans i j) (parts_of text spans j to after))

  pub calls_of_end : (at to : ℕ) → calls_of (parts_of text spans at to no_nodes) ≡ owns (slice_range spans at to)
  calls_of_end at to = calls-tokens (slice_range spans at to) NoMore ∙ append_nil (owns (slice_range spans at to))

  one_type : (i j : ℕ) → calls_of (parts_of text spans i j (one_node k.ClassType i j no_nodes)) ≡
      Open k.ClassType (begin_of text spans i) ∷ (owns (slice_range spans i j) ++ Close (end_of text spans i j) ∷ [])
  one_type i j =
      let le : i ≤ i = omega arith in
      let le' : j ≤ j = omega arith in
      calls_of_node i j k.ClassType i j no_nodes no_nodes ∙
      ap (λ l. owns l ++ Open k.ClassType (begin_of text spans i) ∷ (calls_of (parts_of text spans i j no_nodes) ++ Close (end_of text spans i j) ∷ calls_of (parts_of text spans j j no_nodes))) (range_none spans i i le) ∙
      ap (λ l. Open k.ClassType (begin_of text spans i) ∷ (l ++ Close (end_of text spans i j) ∷ calls_of (parts_of text spans j j no_nodes))) (calls_of_end i j) ∙
      ap (λ l. Open k.ClassType (begin_of text spans i) ∷ (owns (slice_range spans i j) ++ Close (end_of text spans i j) ∷ l)) (calls_of_end j j ∙ ap owns (range_none spans j j le'))

  pub calls_of_type : (at to i j : ℕ) (after : Nodes) →
      calls_of (parts_of text spans at to (type_then i j after)) ≡ owns (slice_range spans at i) ++ (type_calls text spans i j ++ calls_of (parts_of text spans j to after))
  calls_of_type at to i j after =
      let beg = begin_of text spans i in
      let end = end_of text spans i j in
      let rest = calls_of (parts_of text spans j to after) in
      calls_of_node at to k.TypeExpression i j (one_node k.ClassType i j no_nodes) after ∙
      ap (λ l. owns (slice_range spans at i) ++ Open k.TypeExpression beg ∷ (l ++ Close end ∷ rest)) (one_type i j) ∙
      ap (λ l. owns (slice_range spans at i) ++ Open k.TypeExpression beg ∷ Open k.ClassType beg ∷ l)
      (append_assoc (owns (slice_range spans i j)) (Close end ∷ []) (Close end ∷ rest) ∙ sym (append_assoc (owns (slice_range spans i j)) (Close end ∷ Close end ∷ []) rest))

-- ---- what is left

abbrev pub stack_of : ℕ → Nodes → List Frame → List Pending
stack_of next ns [] = []
stack_of next ns (f ∷ fs) = record { end = next + length (flat ns); to = f.to; close = f.close } ∷ stack_of (next + length (flat ns)) f.after fs

abbrev pub left_nodes : Nodes → List Frame → List Made
left_nodes ns [] = []
left_nodes ns (f ∷ fs) = flat ns ++ left_nodes f.after fs

abbrev pub left_marks : Words → Nodes → List Frame → List Bool
left_marks w ns [] = []
left_marks w ns (f ∷ fs) = marks w ns ++ left_marks w f.after fs

abbrev pub left_calls : List ℕ → List Span → Words → ℕ → Option ℕ → Nodes → List Frame → List Call
left_calls text spans w at around ns [] = []
left_calls text spans w at around ns (f ∷ fs) = calls_of (parts_of text spans at f.to (typed w around ns)) ++ Close f.close ∷ left_calls text spans w f.to None f.after fs

abbrev pub AreTos : ℕ → List Frame → Type 0
AreTos n [] = Unit {0}
AreTos n (f ∷ fs) = (f.to ≤ n) × AreTos n fs

-- where the loop is
pub record Writing (text : List ℕ) (spans : List Span) (w : Words) (nodes : List Made) (ms : List Bool) (total b : Building) (next at : ℕ) (around : Option ℕ) (stack : List Pending) : Type 0 where
  pub ns : Nodes
  pub frames : List Frame
  pub stack_is : reverse stack ≡ stack_of next ns frames
  pub nodes_are : drop next nodes ≡ left_nodes ns frames
  pub marks_are : drop next ms ≡ left_marks w ns frames
  pub calls_are : fold after_call b (left_calls text spans w at around ns frames) ≡ total
  pub are_open : AreOpen b (length frames)
  pub tos : AreTos (length spans) frames

module _ (text : List ℕ) (spans : List Span) (w : Words) (nodes : List Made) (ms : List Bool) (total : Building) where
  -- at the end nothing is left
  pub finish : (b : Building) (next at : ℕ) (around : Option ℕ) (stack : List Pending) → Writing text spans w nodes ms total b next at around stack → reverse stack ≡ [] → b ≡ total
  finish b next at around stack st none = go st.frames (sym st.stack_is ∙ none) st.calls_are
    where
      go : (fs : List Frame) → stack_of next st.ns fs ≡ [] → fold after_call b (left_calls text spans w at around st.ns fs) ≡ total → b ≡ total
      go [] e c = c
      go (f ∷ fs) e c = absurd cc

  -- the innermost node that is being written
  pub record Top (b : Building) (next at : ℕ) (around : Option ℕ) (top : Pending) (rest : List Pending) : Type 0 where
    pub ns : Nodes
    pub f : Frame
    pub fs : List Frame
    pub top_is : record { end = next + length (flat ns); to = f.to; close = f.close } ≡ top
    pub rest_is : reverse rest ≡ stack_of (next + length (flat ns)) f.after fs
    pub nodes_are : drop next nodes ≡ flat ns ++ left_nodes f.after fs
    pub marks_are : drop next ms ≡ marks w ns ++ left_marks w f.after fs
    pub calls_are : fold after_call b (left_calls text spans w at around ns (f ∷ fs)) ≡ total
    pub are_open : AreOpen b (suc (length fs))
    pub tos : AreTos (length spans) (f ∷ fs)

  pub top_of : (b : Building) (next at : ℕ) (around : Option ℕ) (stack rest : List Pending) (top : Pending) → Writing text spans w nodes ms total b next at around stack → reverse stack ≡ top ∷ reverse rest → Top b next at around top rest
  top_of b next at around stack rest top st is = go st.frames (sym st.stack_is ∙ is) st.nodes_are st.marks_are st.calls_are st.are_open st.tos
    where
      go : (fs : List Frame) → stack_of next st.ns fs ≡ top ∷ reverse rest → drop next nodes ≡ left_nodes st.ns fs → drop next ms ≡ left_marks w st.ns fs →
          fold after_call b (left_calls text spans w at around st.ns fs) ≡ total → AreOpen b (length fs) → AreTos (length spans) fs → Top b next at around top rest
      go [] e n m c o t = absurd cc
      go (f ∷ fs) e n m c o t = record {
        ns = st.ns;
        f = f;
        fs = fs;
        top_is = cc;
        rest_is = cc;
        nodes_are = n;
        marks_are = m;
        calls_are = c;
        are_open = o;
        tos = t;
      }

  module _ (b : Building) (next at : ℕ) (around : Option ℕ) (top : Pending) (rest : List Pending) (x : Top b next at around top rest) where
    pub to_is : x.f.to ≡ top.to
    to_is = ap (λ p. p.to) x.top_is

    pub end_is : next + length (flat x.ns) ≡ top.end
    end_is = ap (λ p. p.end) x.top_is

    pub to_within : top.to ≤ length spans
    to_within = subst (λ n. n ≤ length spans) to_is x.tos.0

    -- the node is at its end
    pub close_turn : (b1 b2 : Building) → top.end ≤ next → b1 ≡ fold after_call b (owns (slice_range spans at top.to)) → b2 ≡ closed b1 top.close →
        Writing text spans w nodes ms total b2 next top.to None rest
    close_turn b1 b2 le e1 e2 = go x.ns end_is x.rest_is x.nodes_are x.marks_are x.calls_are
      where
        go : (ns : Nodes) → next + length (flat ns) ≡ top.end → reverse rest ≡ stack_of (next + length (flat ns)) x.f.after x.fs → drop next nodes ≡ flat ns ++ left_nodes x.f.after x.fs →
            drop next ms ≡ marks w ns ++ left_marks w x.f.after x.fs → fold after_call b (left_calls text spans w at around ns (x.f ∷ x.fs)) ≡ total →
            Writing text spans w nodes ms total b2 next top.to None rest
        go (node kind i j below after) is r n m c = absurd (let l : length (flat (node kind i j below after)) ≡ suc (length (flat below ++ flat after)) = refl in omega arith)
        go no_nodes is r n m c =
            let zero_is : next + 0 ≡ next = omega arith in
            let L = left_calls text spans w x.f.to None x.f.after x.fs in
            let made : fold after_call b (calls_of (parts_of text spans at x.f.to no_nodes) ++ Close x.f.close ∷ L) ≡ fold after_call b2 L =
            ap (λ l. fold after_call b (l ++ Close x.f.close ∷ L)) (calls_of_end text spans at x.f.to) ∙
            after_calls b (owns (slice_range spans at x.f.to)) (Close x.f.close ∷ L) ∙
            ap (λ p. fold after_call (closed (fold after_call b (owns (slice_range spans at p.to))) p.close) L) x.top_is ∙
            ap (λ y. fold after_call (closed y top.close) L) (sym e1) ∙ ap (λ y. fold after_call y L) (sym e2) in
            record {
              ns = x.f.after;
              frames = x.fs;
              stack_is = r ∙ ap (λ n'. stack_of n' x.f.after x.fs) zero_is;
              nodes_are = n;
              marks_are = m;
              calls_are = ap (λ t. fold after_call b2 (left_calls text spans w t None x.f.after x.fs)) (sym to_is) ∙ sym made ∙ c;
              are_open =
                  let o1 : AreOpen b1 (suc (length x.fs)) = subst (λ y. AreOpen y (suc (length x.fs))) (sym e1) (open_owns b (slice_range spans at top.to) (length x.fs) x.are_open) in
                  subst (λ y. AreOpen y (length x.fs)) (sym e2) (open_closed b1 top.close (length x.fs) o1);
              tos = x.tos.1;
            }

    -- a node is next
    pub record Next : Type 0 where
      pub kind : Kind
      pub i : ℕ
      pub j : ℕ
      pub below : Nodes
      pub after : Nodes
      pub ns_are : x.ns ≡ node kind i j below after

    pub next_of : next < top.end → Next
    next_of lt = go x.ns refl
      where
        go : (ns : Nodes) → x.ns ≡ ns → Next
        go no_nodes e = absurd (let l : length (flat x.ns) ≡ 0 = ap (λ y. length (flat y)) e in let is = end_is in omega arith)
        go (node kind i j below after) e = record { kind = kind; i = i; j = j; below = below; after = after; ns_are = e }

    module _ (y : Next) where
      abbrev pub the_node : Made
      the_node = record { kind = y.kind; from = y.i; to = y.j; size = 1 + length (flat y.below) }

      abbrev pub the_mark : Bool
      the_mark = is_class_name w.capital (names y.i (node y.kind y.i y.j y.below no_nodes)) && not (w.declared y.i)

      abbrev left : List Made
      left = left_nodes x.f.after x.fs

      abbrev left' : List Bool
      left' = left_marks w x.f.after x.fs

      nodes_from : drop next nodes ≡ the_node ∷ (flat y.below ++ (flat y.after ++ left))
      nodes_from = x.nodes_are ∙ ap (λ ns. flat ns ++ left) y.ns_are ∙ ap (λ l. the_node ∷ l) (append_assoc (flat y.below) (flat y.after) left)

      marks_from : drop next ms ≡ the_mark ∷ (marks w y.below ++ (marks w y.after ++ left'))
      marks_from = x.marks_are ∙ ap (λ ns. marks w ns ++ left') y.ns_are ∙ ap (λ l. the_mark ∷ l) (append_assoc (marks w y.below) (marks w y.after) left')

      pub node_is : slice_get nodes next ≡ Some the_node
      node_is = get_of_drop nodes next the_node (flat y.below ++ (flat y.after ++ left)) (sym nodes_from)

      pub mark_is : slice_get ms next ≡ Some the_mark
      mark_is = get_of_drop ms next the_mark (marks w y.below ++ (marks w y.after ++ left')) (sym marks_from)

      pub size_is : length (flat x.ns) ≡ 1 + length (flat y.below) + length (flat y.after)
      size_is =
          let a : length (flat x.ns) ≡ suc (length (flat y.below ++ flat y.after)) = ap (λ ns. length (flat ns)) y.ns_are in
          let c = length-append (flat y.below) (flat y.after) in
          omega arith

      pub fits : next + (1 + length (flat y.below)) ≤ length nodes
      fits =
          let a : length (drop next nodes) ≡ suc (length (flat y.below ++ (flat y.after ++ left))) = ap length nodes_from in
          let c = length-append (flat y.below) (flat y.after ++ left) in
          let d = length-drop next nodes in
          omega arith

      -- what follows the node, and what follows its subtree
      after_one : drop (next + 1) nodes ≡ flat y.below ++ (flat y.after ++ left)
      after_one = drop_add next 1 nodes ∙ ap (drop 1) nodes_from

      after_one' : drop (next + 1) ms ≡ marks w y.below ++ (marks w y.after ++ left')
      after_one' = drop_add next 1 ms ∙ ap (drop 1) marks_from

      after_all : drop (next + (1 + length (flat y.below))) nodes ≡ flat y.after ++ left
      after_all =
          let e : next + (1 + length (flat y.below)) ≡ next + 1 + length (flat y.below) = omega arith in
          ap (λ n. drop n nodes) e ∙ drop_add (next + 1) (length (flat y.below)) nodes ∙ ap (drop (length (flat y.below))) after_one ∙ drop-append_seam (flat y.below) (flat y.after ++ left)

      after_all' : drop (next + (1 + length (flat y.below))) ms ≡ marks w y.after ++ left'
      after_all' =
          let len = marks_length w y.below in
          let e : next + (1 + length (flat y.below)) ≡ next + 1 + length (marks w y.below) = omega arith in
          ap (λ n. drop n ms) e ∙ drop_add (next + 1) (length (marks w y.below)) ms ∙ ap (drop (length (marks w y.below))) after_one' ∙ drop-append_seam (marks w y.below) (marks w y.after ++ left')

      typed_is : (b' : Bool) → is_class w around (node y.kind y.i y.j y.below no_nodes) ≡ b' →
          typed w around x.ns ≡ (if b' then type_then y.i y.j (typed w None y.after) else node y.kind y.i y.j (typed w (around_of y.kind y.i) y.below) (typed w None y.after))
      typed_is b' e =
          ap (typed w around) y.ns_are ∙
          ap (λ t. if t then type_then y.i y.j (typed w None y.after) else node y.kind y.i y.j (typed w (around_of y.kind y.i) y.below) (typed w None y.after)) e

      abbrev L : List Call
      L = left_calls text spans w x.f.to None x.f.after x.fs

      made : (p : Nodes) → typed w around x.ns ≡ p → fold after_call b (calls_of (parts_of text spans at x.f.to p) ++ Close x.f.close ∷ L) ≡ total
      made p e = sym (ap (λ q. fold after_call b (calls_of (parts_of text spans at x.f.to q) ++ Close x.f.close ∷ L)) e) ∙ x.calls_are

      -- its children are next
      pub open_turn : (b1 b2 : Building) (stack : List Pending) (close : ℕ) → is_class w around (node y.kind y.i y.j y.below no_nodes) ≡ false → y.j ≤ length spans →
          b1 ≡ fold after_call b (owns (slice_range spans at y.i)) → b2 ≡ opened b1 y.kind (begin_of text spans y.i) → close ≡ end_of text spans y.i y.j →
          reverse stack ≡ record { end = next + (1 + length (flat y.below)); to = y.j; close = close } ∷ top ∷ reverse rest →
          Writing text spans w nodes ms total b2 (next + 1) y.i (around_of y.kind y.i) stack
      open_turn b1 b2 stack close no_class within e1 e2 close_is is =
          let beg = begin_of text spans y.i in
          let end = end_of text spans y.i y.j in
          let inner = calls_of (parts_of text spans y.i y.j (typed w (around_of y.kind y.i) y.below)) in
          let outer = calls_of (parts_of text spans y.j x.f.to (typed w None y.after)) in
          let M = Close x.f.close ∷ L in
          let new : Frame = record { to = y.j; close = end; after = y.after } in
          let all : fold after_call b (calls_of (parts_of text spans at x.f.to (node y.kind y.i y.j (typed w (around_of y.kind y.i) y.below) (typed w None y.after))) ++ M) ≡
          fold after_call b2 (inner ++ Close end ∷ (outer ++ M)) =
          ap (λ l. fold after_call b (l ++ M)) (calls_of_node text spans at x.f.to y.kind y.i y.j (typed w (around_of y.kind y.i) y.below) (typed w None y.after)) ∙
          ap (fold after_call b) (append_assoc (owns (slice_range spans at y.i)) (Open y.kind beg ∷ (inner ++ Close end ∷ outer)) M) ∙
          after_calls b (owns (slice_range spans at y.i)) (Open y.kind beg ∷ ((inner ++ Close end ∷ outer) ++ M)) ∙
          ap (λ z. fold after_call (opened z y.kind beg) ((inner ++ Close end ∷ outer) ++ M)) (sym e1) ∙
          ap (λ z. fold after_call z ((inner ++ Close end ∷ outer) ++ M)) (sym e2) ∙
          ap (fold after_call b2) (append_assoc inner (Close end ∷ outer) M) in
          let e_new : next + (1 + length (flat y.below)) ≡ next + 1 + length (flat y.below) = omega arith in
          let e_top : next + length (flat x.ns) ≡ next + 1 + length (flat y.below) + length (flat y.after) = (let s = size_is in omega arith) in
          record {
            ns = y.below;
            frames = new ∷ x.f ∷ x.fs;
            stack_is =
                is ∙ ap (λ n. record { end = n; to = y.j; close = close } ∷ top ∷ reverse rest) e_new ∙
                ap (λ n. record { end = next + 1 + length (flat y.below); to = y.j; close = n } ∷ top ∷ reverse rest) close_is ∙
                ap (λ l. record { end = next + 1 + length (flat y.below); to = y.j; close = end } ∷ l)
                (ap (λ t. t ∷ reverse rest) (sym x.top_is) ∙ ap (λ l. record { end = next + length (flat x.ns); to = x.f.to; close = x.f.close } ∷ l) x.rest_is ∙
                ap (λ n. record { end = n; to = x.f.to; close = x.f.close } ∷ stack_of n x.f.after x.fs) e_top);
            nodes_are = after_one;
            marks_are = after_one';
            calls_are = sym all ∙ made (node y.kind y.i y.j (typed w (around_of y.kind y.i) y.below) (typed w None y.after)) (typed_is false no_class);
            are_open =
                let o1 : AreOpen b1 (suc (length x.fs)) = subst (λ z. AreOpen z (suc (length x.fs))) (sym e1) (open_owns b (slice_range spans at y.i) (length x.fs) x.are_open) in
                subst (λ z. AreOpen z (suc (suc (length x.fs)))) (sym e2) (open_opened b1 y.kind (begin_of text spans y.i) (suc (length x.fs)) o1);
            tos = (within, x.tos);
          }

      -- it was the name of a class
      pub type_turn : (b1 b2 : Building) (stack : List Pending) → is_class w around (node y.kind y.i y.j y.below no_nodes) ≡ true →
          b1 ≡ fold after_call b (owns (slice_range spans at y.i)) → b2 ≡ fold after_call b1 (type_calls text spans y.i y.j) →
          AreOpen b2 (suc (length x.fs)) →
          reverse stack ≡ top ∷ reverse rest →
          Writing text spans w nodes ms total b2 (next + (1 + length (flat y.below))) y.j None stack
      type_turn b1 b2 stack a_class e1 e2 o2 is =
          let outer = calls_of (parts_of text spans y.j x.f.to (typed w None y.after)) in
          let M = Close x.f.close ∷ L in
          let ty = type_calls text spans y.i y.j in
          let all : fold after_call b (calls_of (parts_of text spans at x.f.to (type_then y.i y.j (typed w None y.after))) ++ M) ≡ fold after_call b2 (outer ++ M) =
          ap (λ l. fold after_call b (l ++ M)) (calls_of_type text spans at x.f.to y.i y.j (typed w None y.after)) ∙
          ap (fold after_call b) (append_assoc (owns (slice_range spans at y.i)) (ty ++ outer) M ∙ ap (λ l. owns (slice_range spans at y.i) ++ l) (append_assoc ty outer M)) ∙
          after_calls b (owns (slice_range spans at y.i)) (ty ++ (outer ++ M)) ∙
          ap (λ z. fold after_call z (ty ++ (outer ++ M))) (sym e1) ∙
          after_calls b1 ty (outer ++ M) ∙ ap (λ z. fold after_call z (outer ++ M)) (sym e2) in
          let e_top : next + length (flat x.ns) ≡ next + (1 + length (flat y.below)) + length (flat y.after) = (let s = size_is in omega arith) in
          record {
            ns = y.after;
            frames = x.f ∷ x.fs;
            stack_is =
                is ∙ ap (λ t. t ∷ reverse rest) (sym x.top_is) ∙ ap (λ l. record { end = next + length (flat x.ns); to = x.f.to; close = x.f.close } ∷ l) x.rest_is ∙
                ap (λ n. record { end = n; to = x.f.to; close = x.f.close } ∷ stack_of n x.f.after x.fs) e_top;
            nodes_are = after_all;
            marks_are = after_all';
            calls_are = sym all ∙ made (type_then y.i y.j (typed w None y.after)) (typed_is true a_class);
            are_open = o2;
            tos = x.tos;
          }
