-- The number behind a node, from the numbers of its descendants.
use Rattle.std.proofs.Common.{ℕ, zero, suc, ◌≡◌, ◌+◌, ◌<◌, ◌≤◌, ◌↔◌, false, cond, IsTrue, length, ap, sym, ◌∙◌, arith, inl, inr, true≢false}
use Rattle.std.proofs.lemmas.Bool.{cases_Bool, cases_lt as which}
use Rattle.pj_tree.specs.Tree.{Tree, is_descendant}
use Rattle.pj_tree.specs.declared.node.Node.{Node}
use Rattle.pj_declared.specs.Behind.{past_from, behind}

pub numbered : ℕ → Node
numbered k = record { 0 = k }

abbrev Descendants : Tree → Node → ℕ → Type 0
Descendants t n end = (m : Node) → IsTrue (is_descendant t m n) ↔ ((n.0 < m.0) × (m.0 < end))

past_is : (t : Tree) (n : Node) (end : ℕ) → Descendants t n end → (left k : ℕ) → n.0 < k → k ≤ end → end ≤ k + left → past_from t n left k ≡ end
past_is t n end all zero k above below near = omega arith
past_is t n end all (suc left) k above below near = elim (cases_Bool (is_descendant t (record { 0 = k }) n)) [
  | inl is ↦ (let inside : k < end = ((all (record { 0 = k })).0 is).1 in
      ap (λ b. cond b (past_from t n left (k + 1)) k) is ∙ past_is t n end all left (k + 1) (omega arith) (omega arith) (omega arith))
  | inr is ↦ (let last : end ≤ k = not_inside is in ap (λ b. cond b (past_from t n left (k + 1)) k) is ∙ same last)
]
  where
    not_inside : is_descendant t (record { 0 = k }) n ≡ false → end ≤ k
    not_inside is = elim (which k end) [
      | inl inside ↦ absurd (true≢false (sym ((all (record { 0 = k })).1 (above, inside)) ∙ is))
      | inr past ↦ past
    ]

    same : end ≤ k → k ≡ end
    same last = omega arith

pub behind_is : (t : Tree) (n : Node) (end : ℕ) → Descendants t n end → n.0 < end → end ≤ length t.nodes → behind t n ≡ end
unfolding behind
behind_is t n end all past within = past_is t n end all (length t.nodes) (n.0 + 1) (omega arith) (omega arith) (omega arith)
