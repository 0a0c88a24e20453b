use Rattle.std.proofs.Common.{ℕ, ◌≡◌, List, length, ap, sym, ◌∙◌, arith, subst, Ok}
use Rattle.pj_tree.specs.Building.{Building, tree_of, IsWhole}
use Rattle.pj_tree.specs.Tree.{Tree, TreeNode}
use Rattle.pj_tree.proofs.builder.Builder.finish.Goals as goal
use Rattle.pj_tree.specs.Tree.{greatest_depth}
use Rattle.pj_tree.proofs.Seen.{length-nodes_seen}
use Rattle.pj_tree.proofs.Calls.{building_seen, greatest_depth-seen, finished-deep, finished-many, finished-tree, roots, spans, token_spans}

abbrev tree : List ℕ → List TreeNode → Tree
tree text nodes = record { text = text; nodes = nodes }

pub returns-then-self-gt-MAX_DEPTH : goal.returns-then-self-gt-MAX_DEPTH
returns-then-self-gt-MAX_DEPTH c =
    let deep : greatest_depth c.args.self.nodes ≡ c.self.inside.deepest
    = ap (λ (b : Building). greatest_depth b.nodes) (sym c.self.view_is) ∙ greatest_depth-seen c.self.inside.rows.items c.self.inside.tokens.items c.self.inside.current c.self.inside.depth c.self.inside.deepest c.self.inside.last_child c.self.invariant in
    let len : length c.args.self.nodes ≡ length c.self.inside.rows.items
    = ap (λ (b : Building). length b.nodes) (sym c.self.view_is) ∙ length-nodes_seen c.self.inside.rows.items c.self.inside.tokens.items in
    record { value = sym (finished-deep c.args.self c.self.inside.deepest deep c.if-self-gt-MAX_DEPTH.true) }

pub returns-then-len-gt-MAX_NODES : goal.returns-then-len-gt-MAX_NODES
returns-then-len-gt-MAX_NODES c =
    let deep : greatest_depth c.args.self.nodes ≡ c.self.inside.deepest
    = ap (λ (b : Building). greatest_depth b.nodes) (sym c.self.view_is) ∙ greatest_depth-seen c.self.inside.rows.items c.self.inside.tokens.items c.self.inside.current c.self.inside.depth c.self.inside.deepest c.self.inside.last_child c.self.invariant in
    let len : length c.args.self.nodes ≡ length c.self.inside.rows.items
    = ap (λ (b : Building). length b.nodes) (sym c.self.view_is) ∙ length-nodes_seen c.self.inside.rows.items c.self.inside.tokens.items in
    record { value = sym (finished-many c.args.self c.self.inside.deepest c.len-then-len-gt-MAX_NODES.result deep c.if-self-gt-MAX_DEPTH.false (omega (arith, len, c.len-then-len-gt-MAX_NODES.ensures)) (omega (arith, c.if-len-gt-MAX_NODES.true, c.len.ensures, c.len-then-len-gt-MAX_NODES.ensures))) }

pub linked-requires-clause-one_root : goal.linked-requires-clause-one_root
linked-requires-clause-one_root c =
    let whole : IsWhole (building_seen c.self.inside.text.now c.self.inside.rows.items c.self.inside.tokens.items c.self.inside.current)
    = subst (λ (b : Building). IsWhole b) (sym c.self.view_is) c.requires.whole in
    roots c.self.inside.text.now c.self.inside.rows.items c.self.inside.tokens.items c.self.inside.current whole

pub linked-requires-clause-spans : goal.linked-requires-clause-spans
linked-requires-clause-spans c =
    let whole : IsWhole (building_seen c.self.inside.text.now c.self.inside.rows.items c.self.inside.tokens.items c.self.inside.current)
    = subst (λ (b : Building). IsWhole b) (sym c.self.view_is) c.requires.whole in
    spans c.self.inside.text.now c.self.inside.rows.items c.self.inside.tokens.items c.self.inside.current whole

pub linked-requires-clause-token_spans : goal.linked-requires-clause-token_spans
linked-requires-clause-token_spans c =
    let whole : IsWhole (building_seen c.self.inside.text.now c.self.inside.rows.items c.self.inside.tokens.items c.self.inside.current)
    = subst (λ (b : Building). IsWhole b) (sym c.self.view_is) c.requires.whole in
    token_spans c.self.inside.text.now c.self.inside.rows.items c.self.inside.tokens.items c.self.inside.current whole c.self.invariant.owners

pub returns : goal.returns
returns c =
    let deep : greatest_depth c.args.self.nodes ≡ c.self.inside.deepest
    = ap (λ (b : Building). greatest_depth b.nodes) (sym c.self.view_is) ∙ greatest_depth-seen c.self.inside.rows.items c.self.inside.tokens.items c.self.inside.current c.self.inside.depth c.self.inside.deepest c.self.inside.last_child c.self.invariant in
    let len : length c.args.self.nodes ≡ length c.self.inside.rows.items
    = ap (λ (b : Building). length b.nodes) (sym c.self.view_is) ∙ length-nodes_seen c.self.inside.rows.items c.self.inside.tokens.items in
    let tree : c.linked.result ≡ tree_of c.args.self
    = ap (λ (text : List ℕ). tree text c.linked.result.nodes) c.linked.ensures.text
    ∙ (ap (λ (nodes : List TreeNode). tree c.self.inside.text.now nodes) c.linked.ensures.nodes ∙ ap (λ (b : Building). tree_of b) c.self.view_is) in
    record { value = ap Ok tree ∙ sym (finished-tree c.args.self c.self.inside.deepest (length c.self.inside.rows.items) deep c.if-self-gt-MAX_DEPTH.false len (omega (arith, c.if-len-gt-MAX_NODES.false, c.len.ensures))) }
