-- Numbers that bound a recursion are never reached.
use Rattle.std.proofs.Common.{ℕ, zero, suc, ◌+◌, ◌<◌, ◌≤◌, ◌≡◌, ◌∙◌, ◌&&◌, Bool, true, false, cond, nat_le, List, [], ◌∷◌, length, get_or, map, filter, Option, None, Some, inl, inr, refl, sym, ap, subst, arith}
use Rattle.std.specs.Prelude.{find}
use Rattle.std.specs.List.{enumerate_from}
use Rattle.std.specs.Option.{IfSome, IsSomeAnd}
use Rattle.std.proofs.lemmas.Bool.{cases_eq, eqb-true, lt-leb}
use Rattle.std.proofs.lemmas.List.{length-map}
use Rattle.pj_tree.specs.Tree.{IsSyntaxTree, Tree, children_of, is_parent, node_numbered, parent_of, parents}
use Rattle.pj_tree.specs.Children.{child_of}
use Rattle.pj_tree.specs.Kinds.{is_kind}
use Rattle.pj_tree.specs.declared.kind.Kind.TheVariants as k
use Rattle.pj_tree.specs.declared.node.Node.{Node}
use Rattle.pj_written.specs.Words.{below_child}
use Rattle.pj_written.specs.Fits.{FitsEnd, argument_by, bare, brackets, fits_within, listed_fit, most_signs}
use Rattle.pj_written.specs.Written.{WrittenEnd, extended, innermost, name_within, with_outer}

-- ---- lists of type arguments in one another

-- where more signs than may be are open nothing fits
past : (t : Tree) (deep around : ℕ) (n : Node) → most_signs < around → fits_within t deep around n ≡ false
past t zero around n far = refl
past t (suc deep) around n far =
    let many : most_signs < around + brackets t n = omega (arith, far) in
    ap (λ b. b && listed_fit t (around + brackets t n + 1) (argument_by t (fits_within t deep (around + brackets t n + 1))) (below_child t (bare t n) k.TypeArguments))
    (lt-leb (around + brackets t n) most_signs many)

-- each list in another one opens a sign more
same_within : (t : Tree) (deep more around : ℕ) (n : Node) → most_signs < around + deep → most_signs < around + more → fits_within t deep around n ≡ fits_within t more around n
same_within t zero zero around n few less = refl
same_within t zero (suc more) around n few less = sym (past t (suc more) around n (omega (arith, few)))
same_within t (suc deep) zero around n few less = past t (suc deep) around n (omega (arith, less))
same_within t (suc deep) (suc more) around n few less =
    let signs = around + brackets t n + 1 in
    let fewer : most_signs < signs + deep = omega (arith, few) in
    let lesser : most_signs < signs + more = omega (arith, less) in
    λ i. nat_le (around + brackets t n) most_signs && listed_fit t signs (argument_by t (λ m. same_within t deep more signs m fewer lesser i)) (below_child t (bare t n) k.TypeArguments)

pub fits-end : (t : Tree) (around : ℕ) (n : Node) → FitsEnd t around n
fits-end t around n = λ more far. same_within t more (most_signs + 1) around n (omega (arith, far)) (omega arith)

-- ---- class types in one another: a child has a greater number

abbrev AreAfter : ℕ → ℕ → List Node → Type 0
AreAfter low count [] = Unit {0}
AreAfter low count (n ∷ ns) = (low < n.0) × (n.0 < count) × AreAfter low count ns

picked_after : (low count : ℕ) (b : Bool) (p : ℕ × Option Node) (ps : List (ℕ × Option Node)) → (b ≡ true → (low < p.0) × (p.0 < count)) → AreAfter low count (map node_numbered ps)
    → AreAfter low count (map node_numbered (cond b (p ∷ ps) ps))
picked_after low count true p ps here rest = ((here refl).0, (here refl).1, rest)
picked_after low count false p ps here rest = rest

is_child : (t : Tree) → IsSyntaxTree t → (n : Node) (i : ℕ) (parent : Option Node) → i < length t.nodes → parent_of t (record { 0 = i }) ≡ parent → is_parent n parent ≡ true → n.0 < i
is_child t s n i None low is holds = absurd (cc)
is_child t s n i (Some p) low is holds =
    let same : p.0 ≡ n.0 = eqb-true p.0 n.0 holds in
    elim (cases_eq i 0) [
      | inl root ↦ absurd (let none : Some p ≡ None = sym is ∙ ap (λ (j : ℕ). parent_of t (record { 0 = j })) root ∙ s.root in cc)
      | inr other ↦ (let below : p.0 < i = subst (λ (o : Option Node). IsSomeAnd o (λ q. q.0 < i)) is (s.below (record { 0 = i }) (omega (arith, other)) low) in omega (arith, below, same))
    ]

enumerated_after : (t : Tree) → IsSyntaxTree t → (n : Node) (from : ℕ) (ps : List (Option Node)) → from + length ps ≡ length t.nodes
    → ((k : ℕ) → k < length ps → get_or ps k None ≡ get_or (parents t.nodes) (from + k) None)
    → AreAfter n.0 (length t.nodes) (map node_numbered (filter (λ p. is_parent n p.1) (enumerate_from from ps)))
enumerated_after t s n from [] all same = tt
enumerated_after t s n from (p ∷ ps) all same =
    let here : from < length t.nodes = omega (arith, all) in
    let first : from + 0 ≡ from = omega arith in
    let its : parent_of t (record { 0 = from }) ≡ p = sym (same 0 (omega arith) ∙ ap (λ i. get_or (parents t.nodes) i None) first) in
    picked_after n.0 (length t.nodes) (is_parent n p) (from, p) (filter (λ q. is_parent n q.1) (enumerate_from (from + 1) ps)) (λ holds. (is_child t s n from p here its holds, here))
    (enumerated_after t s n (from + 1) ps (omega (arith, all)) (λ k low. let next : from + suc k ≡ from + 1 + k = omega arith in same (suc k) (omega (arith, low)) ∙ ap (λ i. get_or (parents t.nodes) i None) next))

children_after : (t : Tree) → IsSyntaxTree t → (n : Node) → AreAfter n.0 (length t.nodes) (children_of t n)
children_after t s n = enumerated_after t s n 0 (parents t.nodes) (omega (arith, length-map t.nodes (λ x. x.parent))) (λ k low. let here : k ≡ 0 + k = omega arith in ap (λ i. get_or (parents t.nodes) i None) here)

some_after : (low count : ℕ) (b : Bool) (n : Node) (o : Option Node) → (low < n.0) × (n.0 < count) → IfSome o (λ m. (low < m.0) × (m.0 < count)) → IfSome (cond b (Some n) o) (λ m. (low < m.0) × (m.0 < count))
some_after low count true n o first second = first
some_after low count false n o first second = second

found_after : (low count : ℕ) (p : Node → Bool) (ns : List Node) → AreAfter low count ns → IfSome (find p ns) (λ m. (low < m.0) × (m.0 < count))
found_after low count p [] after = tt
found_after low count p (n ∷ ns) after = some_after low count (p n) n (find p ns) (after.0, after.1) (found_after low count p ns after.2)

child_after : (t : Tree) → IsSyntaxTree t → (n child : Node) → child_of t n k.ClassType ≡ Some child → (n.0 < child.0) × (child.0 < length t.nodes)
child_after t s n child is =
    subst (λ (o : Option Node). IfSome o (λ m. (n.0 < m.0) × (m.0 < length t.nodes))) is (found_after n.0 (length t.nodes) (is_kind t k.ClassType) (children_of t n) (children_after t s n))

same_outer : (t : Tree) (deep more : ℕ) (n : Node) (outer : Option Node) → ((child : Node) → outer ≡ Some child → name_within t deep child ≡ name_within t more child)
    → with_outer t (name_within t deep) n outer ≡ with_outer t (name_within t more) n outer
same_outer t deep more n None same = refl
same_outer t deep more n (Some child) same = ap (λ name. extended t name n) (same child refl)

same_name : (t : Tree) → IsSyntaxTree t → (deep more : ℕ) (n : Node) → n.0 < length t.nodes → length t.nodes ≤ n.0 + deep → length t.nodes ≤ n.0 + more → name_within t deep n ≡ name_within t more n
same_name t s zero more n inside few less = absurd (omega (arith, inside, few))
same_name t s (suc deep) zero n inside few less = absurd (omega (arith, inside, less))
same_name t s (suc deep) (suc more) n inside few less =
    same_outer t deep more n (child_of t n k.ClassType)
    (λ child is. let after = child_after t s n child is in same_name t s deep more child after.1 (omega (arith, few, after.0)) (omega (arith, less, after.0)))

pub written-end : (t : Tree) → IsSyntaxTree t → (n : Node) → n.0 < length t.nodes → WrittenEnd t n
written-end t s n inside = λ more far. same_name t s more (length t.nodes) n inside (omega (arith, far)) (omega arith)
