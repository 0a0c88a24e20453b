use Rattle.std.specs.List.{All}
use Rattle.std.proofs.Common.{List, length, arith, sym, ◌∙◌, ap, Option, ℕ, ◌≡◌, ◌<◌, subst}
use Rattle.pj_tree.specs.Tree.{Tree, parents, children_in}
use Rattle.pj_tree.specs.Rows.{row_parents}
use Rattle.pj_tree.specs.declared.node.Node.{Node}
use Rattle.pj_tree.specs.declared.row.Row.{Row}
use Rattle.pj_tree.proofs.syntax_tree.SyntaxTree.children.Goals as goal
use Rattle.pj_tree.proofs.Seen.{length-nodes_seen, parents-nodes_seen}

pub new-requires-clause-inside : goal.new-requires-clause-inside
new-requires-clause-inside c =
    omega (arith, c.requires.inside, ap length c.as_slice.ensures.value, ap (λ (t : Tree). length t.nodes) (sym c.self.view_is), length-nodes_seen c.self.inside.rows.items c.self.inside.tokens.items)

pub returns-clause-value : goal.returns-clause-value
returns-clause-value c =
    c.new.ensures.value ∙ (ap (λ (rows : List Row). children_in (row_parents rows) c.args.n) c.as_slice.ensures.value
    ∙ ap (λ (ps : List (Option Node)). children_in ps c.args.n)
    (sym (ap (λ (t : Tree). parents t.nodes) (sym c.self.view_is) ∙ parents-nodes_seen c.self.inside.rows.items c.self.inside.tokens.items)))

pub returns-clause-inside : goal.returns-clause-inside
returns-clause-inside c =
    let len : length c.as_slice.result.now ≡ length c.args.self.now.nodes
    = ap length c.as_slice.ensures.value ∙ sym (ap (λ (t : Tree). length t.nodes) (sym c.self.view_is) ∙ length-nodes_seen c.self.inside.rows.items c.self.inside.tokens.items) in
    subst (λ (n : ℕ). All (λ x. (c.args.n.0 < x.0) × (x.0 < n)) c.new.result) len c.new.ensures.inside
