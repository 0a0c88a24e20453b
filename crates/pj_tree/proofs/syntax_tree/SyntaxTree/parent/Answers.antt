use Rattle.std.proofs.Common.{ℕ, ◌≡◌, ◌<◌, ◌≤◌, length, arith, sym, ap, Some, None, Option, IfSome, inl, inr, refl}
use Rattle.std.specs.Option.{IsNone}
use Rattle.pj_tree.specs.Tree.{Tree}
use Rattle.pj_tree.specs.Rows.{above}
use Rattle.pj_tree.specs.declared.node.Node.{Node}
use Rattle.pj_tree.specs.declared.row.Row.{Row}
use Rattle.pj_tree.proofs.syntax_tree.SyntaxTree.parent.Goals as goal
use Rattle.pj_tree.proofs.Seen.{length-nodes_seen}
use Rattle.pj_tree.proofs.ReadRows.{IsRead, reads}
use Rattle.std.proofs.lemmas.Bool.{cases_lt}

-- a node without a parent is the root
root : (n : ℕ) (o : Option Node) → (0 < n → 0 < above o) → IsNone o → n ≡ 0
root n None up none = elim (cases_lt 0 n) [ inl h ↦ absurd (omega (arith, up h)) | inr h ↦ omega arith ]
root n (Some p) up none = cc

-- and the root has none
rootless : (n : ℕ) (o : Option Node) → above o ≤ n → n ≡ 0 → IsNone o
rootless n None low is = refl
rootless n (Some p) low is = absurd (omega arith)

below : (n : ℕ) (o : Option Node) → above o ≤ n → IfSome o (λ p. p.0 < n)
below n None low = tt
below n (Some p) low = omega arith

pub index-requires : goal.index-requires
index-requires c = omega (arith, c.requires.inside, ap (λ (t : Tree). length t.nodes) (sym c.self.view_is), length-nodes_seen c.self.inside.rows.items c.self.inside.tokens.items)

pub returns-clause-value : goal.returns-clause-value
returns-clause-value c =
    let r : IsRead c.self.inside.text.now c.self.inside.rows.items c.self.inside.tokens.items c.args.self.now c.args.n.0 c.index.result.now
    = reads c.self.inside.text.now c.self.inside.rows.items c.self.inside.tokens.items c.args.self.now c.args.n.0 c.index.result.now c.self.view_is c.requires.inside c.index.ensures in
    r.parent

pub returns-clause-root : goal.returns-clause-root
returns-clause-root c =
    let r : IsRead c.self.inside.text.now c.self.inside.rows.items c.self.inside.tokens.items c.args.self.now c.args.n.0 c.index.result.now
    = reads c.self.inside.text.now c.self.inside.rows.items c.self.inside.tokens.items c.args.self.now c.args.n.0 c.index.result.now c.self.view_is c.requires.inside c.index.ensures in (
      root c.args.n.0 c.index.result.now.parent (λ up. omega (arith, c.self.invariant.one_root c.args.n.0 up r.in_rows, ap (λ (s : Row). above s.parent) r.is)),
      rootless c.args.n.0 c.index.result.now.parent (omega (arith, c.self.invariant.ends.above_below c.args.n.0 r.in_rows, ap (λ (s : Row). above s.parent) r.is)),
    )

pub returns-clause-before : goal.returns-clause-before
returns-clause-before c =
    let r : IsRead c.self.inside.text.now c.self.inside.rows.items c.self.inside.tokens.items c.args.self.now c.args.n.0 c.index.result.now
    = reads c.self.inside.text.now c.self.inside.rows.items c.self.inside.tokens.items c.args.self.now c.args.n.0 c.index.result.now c.self.view_is c.requires.inside c.index.ensures in
    below c.args.n.0 c.index.result.now.parent (omega (arith, c.self.invariant.ends.above_below c.args.n.0 r.in_rows, ap (λ (s : Row). above s.parent) r.is))
