-- Classes of a file by their names: the table that finds them, and that the node of one is a node of the tree.
use Rattle.std.proofs.Common.{◌≡◌, ◌∙◌, ℕ, zero, suc, ◌+◌, ◌<◌, ◌≤◌, ◌++◌, arith, ap, sym, refl, Bool, true, false, cond, List, [], ◌∷◌, length, drop, get_or, Option, None, Some}
use Rattle.std.specs.Prelude.{find, nat_eq}
use Rattle.std.specs.Borrow.{Bor}
use Rattle.std.specs.BTreeMap.{BTreeMap, get_by, UpdatesBy}
use Rattle.std.specs.Cmp.Lexicographic.{pointwise, slice_cmp}
use Rattle.std.specs.Option.{IfSome, option_copied, option_map}
use Rattle.std.specs.Ordering.{nat_cmp}
use Rattle.std.specs.Str.{bytes_eq}
use Rattle.std.proofs.lemmas.List.{at_drop_more}
use Rattle.std.proofs.lemmas.Map.Text.{btree_map_updates_str}
use Rattle.pj_tree.specs.Tree.{Tree}
use Rattle.pj_tree.specs.declared.node.Node.{Node}
use Rattle.pj_symbols.specs.Kinds.{declares_class}
use Rattle.pj_symbols.specs.Symbols.{class_at, class_of, classes_below, one_class}
use Rattle.pj_symbols.specs.declared.class.Class.{Class as DeclaredClass}
use Rattle.pj_outer_names.specs.ByName.{FindsNames, class_by_name}
use Rattle.pj_outer_names.specs.Candidates.{class_named, file_classes, node_named}

-- ---- the table

copied-cond : (b : Bool) (class : Bor DeclaredClass) (other : Option (Bor DeclaredClass)) → option_copied (cond b (Some class) other) ≡ cond b (Some class.now) (option_copied other)
copied-cond true class other = refl
copied-cond false class other = refl

-- the table of the classes from one on, with the class before them put in
pub finds-more : (classes : List DeclaredClass) (i j : ℕ) (table new : BTreeMap (Bor (List ℕ)) (Bor DeclaredClass)) (name : List ℕ) (class : Bor DeclaredClass)
    → i + 1 ≡ j → i < length classes → class.now ≡ get_or classes i class.now → name ≡ class.now.name → FindsNames table (drop j classes)
    → UpdatesBy (λ x y. slice_cmp nat_cmp x.now y.now) (λ k. slice_cmp nat_cmp name k.now) table new (Some class)
    → FindsNames new (drop i classes)
finds-more classes i j table new name class next inside is its_name before updates q =
    ap option_copied (btree_map_updates_str name table new (Some class) updates q)
    ∙ copied-cond (bytes_eq name q) class (get_by (λ k. slice_cmp nat_cmp q k.now) table)
    ∙ ap (λ (o : Option DeclaredClass). cond (bytes_eq name q) (Some class.now) o) (before q ∙ ap (λ (k : ℕ). class_named (drop k classes) q) (sym next))
    ∙ ap (λ (n : List ℕ). cond (bytes_eq n q) (Some class.now) (class_named (drop (i + 1) classes) q)) its_name
    ∙ ap (λ (c : DeclaredClass). class_named (c ∷ drop (i + 1) classes) q) is
    ∙ sym (at_drop_more (λ (cs : List DeclaredClass). class_named cs q) classes i class.now inside)

-- ---- their nodes

abbrev AreDeclared : ℕ → List DeclaredClass → Type 0
AreDeclared count [] = Unit {0}
AreDeclared count (class ∷ classes) = (class.node.0 < count) × AreDeclared count classes

declared_append : (count : ℕ) (classes more : List DeclaredClass) → AreDeclared count classes → AreDeclared count more → AreDeclared count (classes ++ more)
declared_append count [] more first second = second
declared_append count (class ∷ classes) more first second = (first.0, declared_append count classes more first.1 second)

declared_one : (count : ℕ) (b : Bool) (class : DeclaredClass) → class.node.0 < count → AreDeclared count (one_class (cond b (Some class) None))
declared_one count true class inside = (inside, tt)
declared_one count false class inside = tt

declared_below : (t : Tree) (count n : ℕ) → n ≤ count → AreDeclared count (classes_below t n)
declared_below t count zero few = tt
declared_below t count (suc n) few =
    let node : Node = record { 0 = n } in
    declared_append count (classes_below t n) (one_class (class_at t node)) (declared_below t count n (omega (arith, few)))
    (declared_one count (declares_class t node) (class_of t node) (omega (arith, few)))

found_cond : (count : ℕ) (b : Bool) (class : DeclaredClass) (found : Option DeclaredClass) → class.node.0 < count → IfSome found (λ c. c.node.0 < count) → IfSome (cond b (Some class) found) (λ c. c.node.0 < count)
found_cond count true class found first rest = first
found_cond count false class found first rest = rest

found_declared : (count : ℕ) (p : DeclaredClass → Bool) (classes : List DeclaredClass) → AreDeclared count classes → IfSome (find p classes) (λ c. c.node.0 < count)
found_declared count p [] inside = tt
found_declared count p (class ∷ classes) inside = found_cond count (p class) class (find p classes) inside.0 (found_declared count p classes inside.1)

node_inside : (count : ℕ) (found : Option DeclaredClass) → IfSome found (λ c. c.node.0 < count) → IfSome (option_map (λ (class : DeclaredClass). class.node) found) (λ n. n.0 < count)
node_inside count None inside = tt
node_inside count (Some class) inside = inside

pub node_named_inside : (t : Tree) (name : List ℕ) → IfSome (node_named (file_classes t) name) (λ n. n.0 < length t.nodes)
node_named_inside t name =
    node_inside (length t.nodes) (class_named (file_classes t) name)
    (found_declared (length t.nodes) (λ class. pointwise nat_eq class.name name) (file_classes t) (declared_below t (length t.nodes) (length t.nodes) (omega arith)))
