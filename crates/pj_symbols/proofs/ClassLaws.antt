-- The class around a node, parent by parent.
use Rattle.std.proofs.Common.{◌≡◌, ◌<◌, Bool, true, false, cond, [], ◌∷◌, length, Option, None, Some, ap, ◌∙◌, subst}
use Rattle.std.specs.Option.{MatchOption, option_map_or}
use Rattle.pj_tree.specs.Tree.{Tree, IsSyntaxTree, kind_of, parent_of, ancestors_of}
use Rattle.pj_tree.specs.declared.kind.Kind.{Kind}
use Rattle.pj_tree.specs.declared.node.Node.{Node}
use Rattle.pj_symbols.specs.Kinds.{is_class, declares_class}
use Rattle.pj_symbols.specs.Names.{package_name, package_prefix}
use Rattle.pj_symbols.specs.Classes.{first_class, class_around, name_along, named_in, around_name, binary_name}

above_is : (t : Tree) (n p : Node) → IsSyntaxTree t → n.0 < length t.nodes → parent_of t n ≡ Some p → ancestors_of t n ≡ p ∷ ancestors_of t p
above_is t n p s h e =
    subst (λ (o : Option Node). MatchOption o (ancestors_of t n ≡ []) (λ q. ancestors_of t n ≡ q ∷ ancestors_of t q)) e (s.ancestry n h)

root_is : (t : Tree) (n : Node) → IsSyntaxTree t → n.0 < length t.nodes → parent_of t n ≡ None → ancestors_of t n ≡ []
root_is t n s h e =
    subst (λ (o : Option Node). MatchOption o (ancestors_of t n ≡ []) (λ q. ancestors_of t n ≡ q ∷ ancestors_of t q)) e (s.ancestry n h)

-- whether a node declares a class, by its kind
pub declares : (t : Tree) (n : Node) (kind : Kind) (b : Bool) → kind_of t n ≡ Some kind → is_class kind ≡ b → declares_class t n ≡ b
declares t n kind b e is = ap (λ (o : Option Kind). option_map_or is_class o false) e ∙ is

pub around_found : (t : Tree) (n p : Node) → IsSyntaxTree t → n.0 < length t.nodes → parent_of t n ≡ Some p → declares_class t p ≡ true → class_around t n ≡ Some p
around_found t n p s h e is =
    ap (first_class t) (above_is t n p s h e) ∙ ap (λ b. cond b (Some p) (first_class t (ancestors_of t p))) is

pub around_skipped : (t : Tree) (n p : Node) → IsSyntaxTree t → n.0 < length t.nodes → parent_of t n ≡ Some p → declares_class t p ≡ false → class_around t n ≡ class_around t p
around_skipped t n p s h e is =
    ap (first_class t) (above_is t n p s h e) ∙ ap (λ b. cond b (Some p) (first_class t (ancestors_of t p))) is

pub around_none : (t : Tree) (n : Node) → IsSyntaxTree t → n.0 < length t.nodes → parent_of t n ≡ None → class_around t n ≡ None
around_none t n s h e = ap (first_class t) (root_is t n s h e)

pub name_found : (t : Tree) (n p : Node) → IsSyntaxTree t → n.0 < length t.nodes → parent_of t n ≡ Some p → declares_class t p ≡ true → around_name t n ≡ binary_name t p
name_found t n p s h e is =
    ap (name_along t) (above_is t n p s h e) ∙ ap (λ b. cond b (named_in t p (name_along t (ancestors_of t p))) (name_along t (ancestors_of t p))) is

pub name_skipped : (t : Tree) (n p : Node) → IsSyntaxTree t → n.0 < length t.nodes → parent_of t n ≡ Some p → declares_class t p ≡ false → around_name t n ≡ around_name t p
name_skipped t n p s h e is =
    ap (name_along t) (above_is t n p s h e) ∙ ap (λ b. cond b (named_in t p (name_along t (ancestors_of t p))) (name_along t (ancestors_of t p))) is

pub name_none : (t : Tree) (n : Node) → IsSyntaxTree t → n.0 < length t.nodes → parent_of t n ≡ None → around_name t n ≡ package_prefix (package_name t)
name_none t n s h e = ap (name_along t) (root_is t n s h e)
