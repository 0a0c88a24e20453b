use Rattle.std.proofs.Common.{ℕ, ◌≡◌, ◌<◌, List, [], ◌∷◌, length, Option, Some, subst, sym, rules, arith}
use Rattle.std.proofs.lemmas.Grind.{common_steps}
use Rattle.std.specs.Option.{IfSome}
use Rattle.pj_tree.specs.declared.node.Node.{Node}
use Rattle.pj_tree.specs.Children.{second_in}
use Rattle.pj_tree.proofs.Inside.{AreInside, are_inside}
use Rattle.pj_tree.proofs.children_by_kind.second_child.Goals as goal

second_inside : (count : ℕ) (ns : List Node) → AreInside count ns → IfSome (second_in ns) (λ child. child.0 < count)
second_inside count [] inside = tt
second_inside count (n ∷ []) inside = tt
second_inside count (n ∷ m ∷ ns) inside = inside.1.0

pub returns-in-Some-clause-inside : goal.returns-in-Some-clause-inside
returns-in-Some-clause-inside c =
    let t = c.args.tree.now in
    let second : c.next-in-Some.result ≡ second_in c.children-children.result = first_of (search rules, grind (arith, common_steps)) in
    subst (λ (o : Option Node). IfSome o (λ child. child.0 < length t.nodes)) (sym second) (second_inside (length t.nodes) c.children-children.result (are_inside c.args.n (length t.nodes) c.children-children.result c.children-children.ensures.inside))
