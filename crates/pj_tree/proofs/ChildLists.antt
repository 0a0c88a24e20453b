-- The children of a node, one after another.
use Rattle.std.proofs.lemmas.List.Elements.{All-nil, All-cons}
use Rattle.std.proofs.Common.{ℕ, ◌≡◌, ◌+◌, ◌-◌, ◌<◌, ◌≤◌, Bool, true, false, List, [], ◌∷◌, length, get_or, drop, map, refl, ap, ◌∙◌, arith, zero-add, inl, inr, Option, None, Some, subst, suc}
use Rattle.std.specs.List.{filter, enumerate_from, All}
use Rattle.std.proofs.lemmas.Bool.{eq-eqb, ne_eqb, cases_lt, cases_eq, cases_order, cases_Bool, eqb-true}
use Rattle.std.proofs.lemmas.List.{length-map, drop_all}
use Rattle.std.proofs.lemmas.List.FromFn.{length-enumerate_from, get_or-enumerate_from}
use Rattle.pj_tree.specs.Tree.{children_in, is_parent, node_numbered}
use Rattle.pj_tree.specs.Rows.{HasEnds, AllEnded, IsAmongChildren, children_left, row_parents, row_at, above, above_at, end_at}
use Rattle.pj_tree.specs.declared.row.Row.{Row}
use Rattle.pj_tree.specs.declared.node.Node.{Node}
use Rattle.pj_tree.proofs.Lists.{filter-skip, filter-first, filter-le}
use Rattle.pj_tree.proofs.Seen.{get_or-row_parents}

is_parent_at : (n : Node) (o : Option Node) → above o ≡ n.0 + 1 → is_parent n o ≡ true
is_parent_at n None e = absurd (omega arith)
is_parent_at n (Some p) e = eq-eqb p.0 n.0 (omega arith)

is_parent_else : (n : Node) (o : Option Node) → (above o ≡ n.0 + 1 → ⊥) → is_parent n o ≡ false
is_parent_else n None other = refl
is_parent_else n (Some p) other = ne_eqb p.0 n.0 (λ e. other (omega arith))

-- the parents with their numbers
abbrev numbered_parents : List Row → List (ℕ × Option Node)
numbered_parents rows = enumerate_from 0 (row_parents rows)

length-numbered_parents : (rows : List Row) → length (numbered_parents rows) ≡ length rows
length-numbered_parents rows = length-enumerate_from 0 (row_parents rows) ∙ length-map rows (λ (r : Row). r.parent)

abbrev no_parent : ℕ × Option Node
no_parent = (0, None)

get_or-numbered_parents : (rows : List Row) (k : ℕ) → k < length rows → get_or (numbered_parents rows) k no_parent ≡ (k, (row_at rows k).parent)
get_or-numbered_parents rows k h =
    let len : length (row_parents rows) ≡ length rows = length-map rows (λ (r : Row). r.parent) in
    get_or-enumerate_from 0 (row_parents rows) k no_parent (omega arith) ∙ rw (zero-add k, get_or-row_parents rows k h) refl

abbrev passes : Node → ℕ × Option Node → Bool
passes n p = is_parent n p.1

skipped : (rows : List Row) (n : Node) (i j : ℕ) → i ≤ j → ((k : ℕ) → i ≤ k → k < j → k < length rows → above_at rows k ≡ n.0 + 1 → ⊥) → children_left rows n i ≡ children_left rows n j
skipped rows n i j le none =
    ap (λ (ps : List (ℕ × Option Node)). map node_numbered ps)
    (filter-skip (passes n) (numbered_parents rows) no_parent i j le
    (λ k a b c. let in_rows : k < length rows = omega (arith, length-numbered_parents rows) in
    rw (get_or-numbered_parents rows k in_rows) (is_parent_else n (row_at rows k).parent (none k a b in_rows))))

-- all children stand behind the node
pub children_begin : (rows : List Row) (n : Node) → HasEnds rows → children_in (row_parents rows) n ≡ children_left rows n (n.0 + 1)
children_begin rows n ends = skipped rows n 0 (n.0 + 1) (omega arith) (λ k a b c e. omega (arith, ends.above_below k c))

-- and before its end
pub children_end : (rows : List Row) (n : Node) → HasEnds rows → children_left rows n (end_at rows n.0) ≡ []
children_end rows n ends =
    elim (cases_lt (length rows) (end_at rows n.0)) [
      | inl h ↦ none (end_at rows n.0) (omega arith)
      | inr h ↦ skipped rows n (end_at rows n.0) (length rows) h (λ k a b c e. omega (arith, ends.before_end k n.0 c e)) ∙ none (length rows) (omega arith)
    ]
  where
    none : (i : ℕ) → length rows ≤ i → children_left rows n i ≡ []
    none i h = ap (λ (ps : List (ℕ × Option Node)). map node_numbered (filter (passes n) ps)) (drop_all i (numbered_parents rows) (omega (arith, length-numbered_parents rows)))

-- the next child, and then those from its end on
pub children_next : (rows : List Row) (n : Node) (next end : ℕ) → IsAmongChildren rows n next end → next < end → children_left rows n next ≡ record { 0 = next } ∷ children_left rows n (end_at rows next)
children_next rows n next end s h =
    let in_rows : next < length rows = omega (arith, s.ended n.0 s.inside) in
    let past : next < end_at rows next = s.ends.past next in_rows in
    let is : get_or (numbered_parents rows) next no_parent ≡ (next, (row_at rows next).parent) = get_or-numbered_parents rows next in_rows in
    let test : passes n (get_or (numbered_parents rows) next no_parent) ≡ true = rw is (is_parent_at n (row_at rows next).parent (s.is h)) in
    let first : filter (passes n) (drop next (numbered_parents rows)) ≡ get_or (numbered_parents rows) next no_parent ∷ filter (passes n) (drop (next + 1) (numbered_parents rows))
    = filter-first (passes n) (numbered_parents rows) no_parent next (omega (arith, length-numbered_parents rows)) test in
    ap (λ (ps : List (ℕ × Option Node)). map node_numbered ps) first
    ∙ (ap (λ (p : ℕ × Option Node). node_numbered p ∷ children_left rows n (next + 1)) is
    ∙ ap (λ (rest : List Node). record { 0 = next } ∷ rest)
    (skipped rows n (next + 1) (end_at rows next) (omega arith) (λ k a b c e. omega (arith, s.ends.inside next k (omega arith) c b))))

-- what stands at a child's end, inside the node's subtree, is no child of another node
sibling : (rows : List Row) (n next e q : ℕ) → HasEnds rows → e ≡ end_at rows next → n < next → next < e → e < length rows → e < end_at rows n → above_at rows next ≡ n + 1 → above_at rows e ≡ q + 1 → q ≡ n
sibling rows n next e q ends is from past in_rows in_end child up =
    let low : q < e = omega (arith, ends.above_below e in_rows) in
    let high : n ≤ q = omega (arith, ends.inside n e (omega arith) in_rows in_end) in
    let reach : e < end_at rows q = ends.before_end e q in_rows up in
    elim (cases_eq q n) [
      | inl same ↦ same
      | inr other ↦ elim (cases_order q next) [
        | inl at ↦ absurd (omega (arith, ap (end_at rows) at))
        | inr off ↦ elim off [
          | inl below ↦ absurd (omega (arith, other, ends.inside q next below (omega arith) (omega arith)))
          | inr behind ↦ absurd (omega (arith, ends.nested next q behind (omega arith) (omega arith)))
        ]
      ]
    ]

-- the child's end is the next child, or the end of them all
pub among_next : (rows : List Row) (n : Node) (next end : ℕ) → IsAmongChildren rows n next end → next < end → IsAmongChildren rows n (end_at rows next) end
among_next rows n next end s h = record {
  ends = s.ends;
  ended = s.ended;
  inside = s.inside;
  end_is = s.end_is;
  from = omega arith;
  to = omega (arith, wide);
  is = λ more. child more;
}
  where
    in_rows : next < length rows
    in_rows = omega (arith, s.ended n.0 s.inside)

    past : next < end_at rows next
    past = s.ends.past next in_rows

    wide : end_at rows next ≤ end_at rows n.0
    wide = s.ends.nested n.0 next s.from in_rows (omega arith)

    child : end_at rows next < end → above_at rows (end_at rows next) ≡ n.0 + 1
    child more =
        let high : n.0 < above_at rows (end_at rows next) = s.ends.inside n.0 (end_at rows next) (omega arith) (omega (arith, s.ended n.0 s.inside)) (omega arith) in
        let same : above_at rows (end_at rows next) - 1 ≡ n.0 = sibling rows n.0 next (end_at rows next) (above_at rows (end_at rows next) - 1) s.ends refl s.from past (omega (arith, s.ended n.0 s.inside)) (omega arith) (s.is h) (omega arith) in
        omega arith

-- the first child, where there is one
pub among_first : (rows : List Row) (n : Node) → HasEnds rows → AllEnded rows → n.0 < length rows → IsAmongChildren rows n (n.0 + 1) (end_at rows n.0)
among_first rows n ends ended h = record {
  ends = ends;
  ended = ended;
  inside = h;
  end_is = refl;
  from = omega arith;
  to = omega (arith, ends.past n.0 h);
  is = λ more. omega (arith, ends.inside n.0 (n.0 + 1) (omega arith) (omega (arith, ended n.0 h)) more, ends.above_below (n.0 + 1) (omega (arith, ended n.0 h)));
}

-- what passes of the numbered parents of a list from n on
inside_from : (P : Node → Type 0) (n : Node) (i : ℕ) (ps : List (Option Node)) → ((k : ℕ) → k < length ps → is_parent n (get_or ps k None) ≡ true → P (record { 0 = i + k }))
    → All P (map node_numbered (filter (passes n) (enumerate_from i ps)))
inside_from P n i [] holds = All-nil P
inside_from P n i (p ∷ ps) holds =
    let rest : All P (map node_numbered (filter (passes n) (enumerate_from (i + 1) ps))) = inside_from P n (i + 1) ps (λ k h e. let at : P (record { 0 = i + suc k }) = holds (suc k) (omega arith) e in let same : i + suc k ≡ i + 1 + k = omega arith in subst (λ (j : ℕ). P (record { 0 = j })) same at) in
    elim (cases_Bool (is_parent n p)) [
      | inl e ↦ (let here : P (record { 0 = i + 0 }) = holds 0 (omega arith) e in let same : i + 0 ≡ i = omega arith in
          rw e (All-cons P (record { 0 = i }) (map node_numbered (filter (passes n) (enumerate_from (i + 1) ps))) (subst (λ (j : ℕ). P (record { 0 = j })) same here) rest))
      | inr e ↦ rw e rest
    ]

above_of : (n : Node) (o : Option Node) → is_parent n o ≡ true → above o ≡ n.0 + 1
above_of n None e = cc
above_of n (Some p) e = omega (arith, eqb-true p.0 n.0 e)

-- the children stand behind the node, and are nodes
pub children_inside : (rows : List Row) (n : Node) → HasEnds rows → All (λ c. (n.0 < c.0) × (c.0 < length rows)) (children_left rows n (n.0 + 1))
children_inside rows n ends =
    subst (λ (cs : List Node). All (λ c. (n.0 < c.0) × (c.0 < length rows)) cs) (children_begin rows n ends)
    (inside_from (λ (c : Node). (n.0 < c.0) × (c.0 < length rows)) n 0 (row_parents rows) (λ k h e.
    let in_rows : k < length rows = omega (arith, length-map rows (λ (r : Row). r.parent)) in
    let up : above_at rows k ≡ n.0 + 1 = above_of n (row_at rows k).parent (rw (get_or-row_parents rows k in_rows) at e) in
    (omega (arith, ends.above_below k in_rows), omega arith)))

-- there are no more children than nodes
pub children_few : (ps : List (Option Node)) (n : Node) → length (children_in ps n) ≤ length ps
children_few ps n = omega (arith, length-map (filter (passes n) (enumerate_from 0 ps)) node_numbered, filter-le (passes n) (enumerate_from 0 ps), length-enumerate_from 0 ps)
