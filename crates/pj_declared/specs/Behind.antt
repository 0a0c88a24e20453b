-- What stands behind a node.
use Rattle.std.specs.Prelude.{ℕ, zero, suc, ◌+◌, if◌then◌else◌, length}
use Rattle.pj_tree.specs.Tree.{Tree, is_descendant}
use Rattle.pj_tree.specs.declared.node.Node.{Node}

-- the first number from one on, of so many, that no descendant of the node has
abbrev pub past_from : Tree → Node → ℕ → ℕ → ℕ
past_from t n zero k = k
past_from t n (suc left) k = if is_descendant t (record { 0 = k }) n then past_from t n left (k + 1) else k

-- the number behind the node and all below, which the next node has, if there is one
unfoldable pub behind : Tree → Node → ℕ
behind t n = past_from t n (length t.nodes) (n.0 + 1)
