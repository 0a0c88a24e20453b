-- Names, by the own tokens of nodes.
use Rattle.std.specs.Prelude.{ℕ, Bool, true, not, Option, None, Some, if◌then◌else◌, false, List, [], ◌∷◌, ◌++◌, codes, nat_eq}
use Rattle.std.specs.List.{list_any}
use Rattle.std.specs.Option.{option_map_or}
use Rattle.std.specs.Cmp.Lexicographic.{pointwise}
use Rattle.pj_tree.specs.Words.{words_of, last_of}
use Rattle.pj_tree.specs.Tree.{Tree, kind_of}
use Rattle.pj_tree.specs.declared.kind.Kind.{Kind}
use Rattle.pj_tree.specs.declared.kind.Kind.TheVariants as k
use Rattle.pj_tree.specs.declared.node.Node.{Node}

-- the name of a class (JLS 8.1): the last own token of its declaration, and nothing for an anonymous class, which has none
abbrev pub simple_name : Tree → Node → List ℕ
simple_name t n = last_of [] (words_of t n)

-- ---- packages (JLS 7.4)

abbrev pub other_words : List (List ℕ)
other_words = codes "package" ∷ codes ";" ∷ []

abbrev pub is_of_name : List ℕ → Bool
is_of_name word = not (list_any (pointwise nat_eq word) other_words)

-- the name that is declared: the tokens between `package` and `;`
abbrev pub joined_name : List (List ℕ) → List ℕ
joined_name [] = []
joined_name (word ∷ words) = (if is_of_name word then word else []) ++ joined_name words

abbrev pub is_package : Kind → Bool
is_package k.PackageDeclaration = true
is_package other = false

-- the package declaration of a file, if it has one: it stands first, so it is the node behind the root
abbrev pub package_of : Tree → Option Node
package_of t = if option_map_or is_package (kind_of t (record { 0 = 1 })) false then Some (record { 0 = 1 }) else None

-- the name of the file's package, and the empty text for the unnamed package
abbrev pub package_name : Tree → List ℕ
package_name t = option_map_or (λ n. joined_name (words_of t n)) (package_of t) []

-- what stands before the name of a top level class
abbrev pub package_prefix : List ℕ → List ℕ
package_prefix [] = []
package_prefix (c ∷ cs) = (c ∷ cs) ++ codes "."
