-- Nodes that are all among those of a tree: children, and lists made of them.
use Rattle.std.proofs.Common.{ℕ, ◌<◌, ◌+◌, ◌≡◌, Bool, true, false, cond, List, [], ◌∷◌, ◌++◌, length, Option, Some, None, map, filter, subst, sym, arith}
use Rattle.std.specs.Prelude.{find}
use Rattle.std.specs.List.{All, enumerate_from}
use Rattle.std.specs.Option.{IfSome, option_and_then}
use Rattle.std.proofs.lemmas.List.{length-map}
use Rattle.std.proofs.lemmas.List.Elements.{All-cons, All-nil}
use Rattle.pj_tree.specs.Tree.{Tree, children_of, is_parent, node_numbered, parent_of, parents}
use Rattle.pj_tree.specs.declared.kind.Kind.{Kind}
use Rattle.pj_tree.specs.declared.kind.Kind.TheVariants as k
use Rattle.pj_tree.specs.declared.node.Node.{Node}
use Rattle.pj_tree.specs.Children.{child_of}
use Rattle.pj_tree.specs.Kinds.{is_kind}
use Rattle.pj_tree.proofs.Inside.{AreInside}
use Rattle.pj_written.specs.Words.{below_child, children_or, last_in, one_or_none}
use Rattle.pj_written.specs.Headers.{all_bounds, bounds_among, bounds_in, bounds_of, created, if_bound, listed_bounds, writes_bound, written_supertypes}

-- ---- lists

pub all_inside : (count : ℕ) (ns : List Node) → AreInside count ns → All (λ m. m.0 < count) ns
all_inside count [] inside = All-nil (λ (m : Node). m.0 < count)
all_inside count (n ∷ ns) inside = All-cons (λ (m : Node). m.0 < count) n ns inside.0 (all_inside count ns inside.1)

pub append_inside : (count : ℕ) (ns more : List Node) → AreInside count ns → AreInside count more → AreInside count (ns ++ more)
append_inside count [] more first second = second
append_inside count (n ∷ ns) more first second = (first.0, append_inside count ns more first.1 second)

cond_inside : (count : ℕ) (b : Bool) (ns more : List Node) → AreInside count ns → AreInside count more → AreInside count (cond b ns more)
cond_inside count true ns more first second = first
cond_inside count false ns more first second = second

pub last_inside : (count : ℕ) (before : Option Node) (ns : List Node) → IfSome before (λ m. m.0 < count) → AreInside count ns → IfSome (last_in before ns) (λ m. m.0 < count)
last_inside count before [] first inside = first
last_inside count before (n ∷ ns) first inside = last_inside count (Some n) ns inside.0 inside.1

some_inside : (count : ℕ) (b : Bool) (n : Node) (o : Option Node) → n.0 < count → IfSome o (λ m. m.0 < count) → IfSome (cond b (Some n) o) (λ m. m.0 < count)
some_inside count true n o first second = first
some_inside count false n o first second = second

found_inside : (count : ℕ) (p : Node → Bool) (ns : List Node) → AreInside count ns → IfSome (find p ns) (λ m. m.0 < count)
found_inside count p [] inside = tt
found_inside count p (n ∷ ns) inside = some_inside count (p n) n (find p ns) inside.0 (found_inside count p ns inside.1)

one_inside : (count : ℕ) (o : Option Node) → IfSome o (λ m. m.0 < count) → AreInside count (one_or_none o)
one_inside count None inside = tt
one_inside count (Some n) inside = (inside, tt)

-- ---- children

numbered : (count : ℕ) (b : Bool) (p : ℕ × Option Node) (ps : List (ℕ × Option Node)) → p.0 < count → AreInside count (map node_numbered ps) → AreInside count (map node_numbered (cond b (p ∷ ps) ps))
numbered count true p ps first rest = (first, rest)
numbered count false p ps first rest = rest

enumerated : (count : ℕ) (n : Node) (from : ℕ) (ps : List (Option Node)) → from + length ps ≡ count → AreInside count (map node_numbered (filter (λ p. is_parent n p.1) (enumerate_from from ps)))
enumerated count n from [] all = tt
enumerated count n from (p ∷ ps) all =
    numbered count (is_parent n p) (from, p) (filter (λ p. is_parent n p.1) (enumerate_from (from + 1) ps)) (omega (arith, all)) (enumerated count n (from + 1) ps (omega (arith, all)))

pub children_inside : (t : Tree) (n : Node) → AreInside (length t.nodes) (children_of t n)
children_inside t n = enumerated (length t.nodes) n 0 (parents t.nodes) (omega (arith, length-map t.nodes (λ x. x.parent)))

listed_inside : (t : Tree) (list : Option Node) → AreInside (length t.nodes) (children_or t list)
listed_inside t None = tt
listed_inside t (Some n) = children_inside t n

pub below_inside : (t : Tree) (n : Node) (kind : Kind) → AreInside (length t.nodes) (below_child t n kind)
below_inside t n kind = listed_inside t (child_of t n kind)

-- ---- bounds

bound_inside : (t : Tree) (n : Node) → n.0 < length t.nodes → AreInside (length t.nodes) (bounds_in t n)
bound_inside t n inside = cond_inside (length t.nodes) (is_kind t k.IntersectionType n) (children_of t n) (n ∷ []) (children_inside t n) (inside, tt)

among_inside : (t : Tree) (ns : List Node) → AreInside (length t.nodes) ns → AreInside (length t.nodes) (bounds_among t ns)
among_inside t [] inside = tt
among_inside t (n ∷ ns) inside =
    append_inside (length t.nodes) (if_bound t n) (bounds_among t ns)
    (cond_inside (length t.nodes) (writes_bound t n) (bounds_in t n) [] (bound_inside t n inside.0) tt)
    (among_inside t ns inside.1)

pub bounds_inside : (t : Tree) (n : Node) → AreInside (length t.nodes) (bounds_of t n)
bounds_inside t n = among_inside t (children_of t n) (children_inside t n)

of_each_inside : (t : Tree) (ns : List Node) → AreInside (length t.nodes) (listed_bounds t ns)
of_each_inside t [] = tt
of_each_inside t (n ∷ ns) = append_inside (length t.nodes) (bounds_of t n) (listed_bounds t ns) (bounds_inside t n) (of_each_inside t ns)

pub all_bounds_inside : (t : Tree) (n : Node) → AreInside (length t.nodes) (all_bounds t n)
all_bounds_inside t n = of_each_inside t (below_child t n k.TypeParameters)

-- ---- supertypes

child_inside : (t : Tree) (n : Node) (kind : Kind) → IfSome (child_of t n kind) (λ m. m.0 < length t.nodes)
child_inside t n kind = found_inside (length t.nodes) (is_kind t kind) (children_of t n) (children_inside t n)

below_parent : (t : Tree) (above : Option Node) → IfSome (option_and_then (λ new. child_of t new k.ClassType) above) (λ m. m.0 < length t.nodes)
below_parent t None = tt
below_parent t (Some new) = child_inside t new k.ClassType

pub supertypes_inside : (t : Tree) (class : Node) → AreInside (length t.nodes) (written_supertypes t class)
supertypes_inside t class =
    cond_inside (length t.nodes) (is_kind t k.AnonymousClassDeclaration class) (one_or_none (created t class)) (below_child t class k.ExtendsList ++ below_child t class k.ImplementsList)
    (one_inside (length t.nodes) (created t class) (below_parent t (parent_of t class)))
    (append_inside (length t.nodes) (below_child t class k.ExtendsList) (below_child t class k.ImplementsList) (below_inside t class k.ExtendsList) (below_inside t class k.ImplementsList))

-- ---- by what a call gives

pub inside_by : (count : ℕ) (ns meant : List Node) → ns ≡ meant → AreInside count meant → All (λ m. m.0 < count) ns
inside_by count ns meant same inside = all_inside count ns (subst (AreInside count) (sym same) inside)
