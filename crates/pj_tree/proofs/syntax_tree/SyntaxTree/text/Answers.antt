use Rattle.std.proofs.Common.{length, arith, sym, ◌∙◌, ap, subst, Some, Option}
use Rattle.std.specs.Option.{option_map}
use Rattle.pj_tree.specs.Tree.{Tree, TreeNode, slice_at}
use Rattle.pj_tree.specs.Tree.{IsSpanOf}
use Rattle.pj_tree.specs.declared.row.Row.{Row}
use Rattle.pj_tree.proofs.syntax_tree.SyntaxTree.text.Goals as goal
use Rattle.pj_tree.proofs.Seen.{length-nodes_seen}
use Rattle.pj_tree.proofs.ReadRows.{IsRead, reads}

pub index-requires : goal.index-requires
index-requires c = omega (arith, c.requires.inside, ap (λ (t : Tree). length t.nodes) (sym c.self.view_is), length-nodes_seen c.self.inside.rows.items c.self.inside.tokens.items)

pub range-requires-clause-start_le_end : goal.range-requires-clause-start_le_end
range-requires-clause-start_le_end c =
    let r : IsRead c.self.inside.text.now c.self.inside.rows.items c.self.inside.tokens.items c.args.self.now c.args.n.0 c.index.result.now
    = reads c.self.inside.text.now c.self.inside.rows.items c.self.inside.tokens.items c.args.self.now c.args.n.0 c.index.result.now c.self.view_is c.requires.inside c.index.ensures in
    let s : IsSpanOf c.self.inside.text.now c.index.result.now.span = subst (λ (s : Row). IsSpanOf c.self.inside.text.now s.span) (sym r.is) (c.self.invariant.spans c.args.n.0 r.in_rows) in
    s.ordered

pub range-requires-clause-start_boundary : goal.range-requires-clause-start_boundary
range-requires-clause-start_boundary c =
    let r : IsRead c.self.inside.text.now c.self.inside.rows.items c.self.inside.tokens.items c.args.self.now c.args.n.0 c.index.result.now
    = reads c.self.inside.text.now c.self.inside.rows.items c.self.inside.tokens.items c.args.self.now c.args.n.0 c.index.result.now c.self.view_is c.requires.inside c.index.ensures in
    let s : IsSpanOf c.self.inside.text.now c.index.result.now.span = subst (λ (s : Row). IsSpanOf c.self.inside.text.now s.span) (sym r.is) (c.self.invariant.spans c.args.n.0 r.in_rows) in
    λ _. s.begins

pub range-requires-clause-end_boundary : goal.range-requires-clause-end_boundary
range-requires-clause-end_boundary c =
    let r : IsRead c.self.inside.text.now c.self.inside.rows.items c.self.inside.tokens.items c.args.self.now c.args.n.0 c.index.result.now
    = reads c.self.inside.text.now c.self.inside.rows.items c.self.inside.tokens.items c.args.self.now c.args.n.0 c.index.result.now c.self.view_is c.requires.inside c.index.ensures in
    let s : IsSpanOf c.self.inside.text.now c.index.result.now.span = subst (λ (s : Row). IsSpanOf c.self.inside.text.now s.span) (sym r.is) (c.self.invariant.spans c.args.n.0 r.in_rows) in
    s.ends

pub returns : goal.returns
returns c =
    let r : IsRead c.self.inside.text.now c.self.inside.rows.items c.self.inside.tokens.items c.args.self.now c.args.n.0 c.index.result.now
    = reads c.self.inside.text.now c.self.inside.rows.items c.self.inside.tokens.items c.args.self.now c.args.n.0 c.index.result.now c.self.view_is c.requires.inside c.index.ensures in
    record {
      value = ap (λ (o : Option TreeNode). option_map (slice_at c.args.self.now.text) (option_map (λ (x : TreeNode). x.span) o)) r.node
          ∙ rw r.text_is (ap Some (sym c.range.ensures.value));
    }
