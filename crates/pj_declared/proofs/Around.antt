-- Nodes around a place, parent by parent.
use Rattle.std.proofs.Common.{◌≡◌, ◌<◌, true, false, cond, [], ◌∷◌, length, Option, None, Some, ap, ◌∙◌, subst}
use Rattle.std.specs.Option.{MatchOption}
use Rattle.pj_tree.specs.Tree.{Tree, IsSyntaxTree, parent_of, ancestors_of}
use Rattle.pj_tree.specs.declared.node.Node.{Node}
use Rattle.pj_declared.specs.Bindings.{ends_binding, binding_end_from, binding_end}

pub above_is : (t : Tree) (n p : Node) → IsSyntaxTree t → n.0 < length t.nodes → parent_of t n ≡ Some p → ancestors_of t n ≡ p ∷ ancestors_of t p
above_is t n p s h e =
    subst (λ (o : Option Node). MatchOption o (ancestors_of t n ≡ []) (λ q. ancestors_of t n ≡ q ∷ ancestors_of t q)) e (s.ancestry n h)

pub root_is : (t : Tree) (n : Node) → IsSyntaxTree t → n.0 < length t.nodes → parent_of t n ≡ None → ancestors_of t n ≡ []
root_is t n s h e =
    subst (λ (o : Option Node). MatchOption o (ancestors_of t n ≡ []) (λ q. ancestors_of t n ≡ q ∷ ancestors_of t q)) e (s.ancestry n h)

-- ---- the end of a binding

pub end_found : (t : Tree) (n p : Node) → IsSyntaxTree t → n.0 < length t.nodes → parent_of t n ≡ Some p → ends_binding t p n ≡ true → binding_end t n ≡ Some n
end_found t n p s h up is =
    ap (binding_end_from t n) (above_is t n p s h up) ∙ ap (λ b. cond b (Some n) (binding_end_from t p (ancestors_of t p))) is

pub end_skipped : (t : Tree) (n p : Node) → IsSyntaxTree t → n.0 < length t.nodes → parent_of t n ≡ Some p → ends_binding t p n ≡ false → binding_end t n ≡ binding_end t p
end_skipped t n p s h up is =
    ap (binding_end_from t n) (above_is t n p s h up) ∙ ap (λ b. cond b (Some n) (binding_end_from t p (ancestors_of t p))) is

pub end_none : (t : Tree) (n : Node) → IsSyntaxTree t → n.0 < length t.nodes → parent_of t n ≡ None → binding_end t n ≡ None
end_none t n s h up = ap (binding_end_from t n) (root_is t n s h up)
