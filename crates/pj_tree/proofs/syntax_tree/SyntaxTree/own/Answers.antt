use Rattle.std.proofs.Common.{◌≡◌, List, length, arith, sym, ◌∙◌, ap, Some, map}
use Rattle.std.specs.Option.{option_map}
use Rattle.pj_tree.specs.Tree.{Tree, TreeNode, slice_at}
use Rattle.pj_tree.specs.Rows.{own_spans}
use Rattle.pj_tree.specs.declared.row.Row.{Row}
use Rattle.pj_tree.proofs.syntax_tree.SyntaxTree.own.Goals as goal
use Rattle.pj_tree.proofs.Seen.{length-nodes_seen}
use Rattle.pj_tree.proofs.ReadRows.{IsRead, reads}
use Rattle.pj_tree.specs.declared.row.OwnToken.{OwnToken}

pub index-requires : goal.index-requires
index-requires c = omega (arith, c.requires.inside, ap (λ (t : Tree). length t.nodes) (sym c.self.view_is), length-nodes_seen c.self.inside.rows.items c.self.inside.tokens.items)

pub new-requires-clause-first : goal.new-requires-clause-first
new-requires-clause-first c =
    let r : IsRead c.self.inside.text.now c.self.inside.rows.items c.self.inside.tokens.items c.args.self.now c.args.n.0 c.index.result.now
    = reads c.self.inside.text.now c.self.inside.rows.items c.self.inside.tokens.items c.args.self.now c.args.n.0 c.index.result.now c.self.view_is c.requires.inside c.index.ensures in
    rw (c.as_slice.ensures.value, ap (λ (s : Row). s.first_own) r.is) (c.self.invariant.leads_in c.args.n.0 r.in_rows)

pub returns-clause-value : goal.returns-clause-value
returns-clause-value c =
    let r : IsRead c.self.inside.text.now c.self.inside.rows.items c.self.inside.tokens.items c.args.self.now c.args.n.0 c.index.result.now
    = reads c.self.inside.text.now c.self.inside.rows.items c.self.inside.tokens.items c.args.self.now c.args.n.0 c.index.result.now c.self.view_is c.requires.inside c.index.ensures in
    let own : c.new.result ≡ map (slice_at c.self.inside.text.now) (own_spans c.self.inside.tokens.items c.args.n.0)
    = c.new.ensures.value ∙ ap (λ (ts : List OwnToken). map (slice_at c.self.inside.text.now) (own_spans ts c.args.n.0)) c.as_slice.ensures.value in
    ap (option_map (λ (x : TreeNode). map (slice_at c.args.self.now.text) x.own)) r.node ∙ rw r.text_is (ap Some (sym own))
