-- Nodes that are all among the nodes of a tree, one after another.
use Rattle.std.proofs.Common.{ℕ, ◌<◌, List, [], ◌∷◌}
use Rattle.std.specs.List.{All}
use Rattle.std.proofs.lemmas.List.Elements.{All-head, All-tail}
use Rattle.pj_tree.specs.declared.node.Node.{Node}

abbrev pub AreInside : ℕ → List Node → Type 0
AreInside count [] = Unit {0}
AreInside count (n ∷ ns) = (n.0 < count) × AreInside count ns

pub are_inside : (parent : Node) (count : ℕ) (ns : List Node) → All (λ c. (parent.0 < c.0) × (c.0 < count)) ns → AreInside count ns
are_inside parent count [] all = tt
are_inside parent count (n ∷ ns) all =
    ((All-head (λ (c : Node). (parent.0 < c.0) × (c.0 < count)) n ns all).1, are_inside parent count ns (All-tail (λ (c : Node). (parent.0 < c.0) × (c.0 < count)) n ns all))
