-- The name of a class type, as it is written (JLS 4.3).
use Rattle.std.specs.Prelude.{ℕ, zero, suc, ◌≡◌, ◌≤◌, false, Option, None, Some, List, [], ◌++◌, length, codes}
use Rattle.pj_tree.specs.Tree.{Tree}
use Rattle.pj_tree.specs.declared.kind.Kind.TheVariants as k
use Rattle.pj_tree.specs.declared.node.Node.{Node}
use Rattle.pj_tree.specs.Words.{words_of, has}
use Rattle.pj_tree.specs.Children.{child_of}
use Rattle.pj_names.specs.ClassName.{parts}
use Rattle.pj_written.specs.declared.written.Written.{Written}
use Rattle.pj_written.specs.Names.{begins_package, own_parts}

-- A name is known by its parts between dots, by whether it begins with a package, and by the node at which its first part is looked up: the `Written` of the code.
module _ (t : Tree) where
  -- the name of a class type that has no other one before a dot: it alone can begin with a package, and then a dot is among its own words
  abbrev pub innermost : Node → Written
  innermost n = record { at = n; has_package = has (codes ".") (words_of t n); parts = own_parts (words_of t n) }

  -- a name, and then the parts of a class type around
  abbrev pub extended : Written → Node → Written
  extended name n = record { at = name.at; has_package = name.has_package; parts = name.parts ++ own_parts (words_of t n) }

  -- A class type has the one of the name before its last dot as a child.
  abbrev pub with_outer : (Node → Written) → Node → Option Node → Written
  with_outer written n None = innermost n
  with_outer written n (Some outer) = extended (written outer) n

  -- at most so many class types in one another, of which there are no more than nodes
  abbrev pub name_within : ℕ → Node → Written
  name_within zero n = record { at = n; has_package = false; parts = [] }
  name_within (suc deep) n = with_outer (name_within deep) n (child_of t n k.ClassType)

  -- the name of a class type
  abbrev pub written_name : Node → Written
  written_name n = name_within (length t.nodes) n

-- the name that a text is, looked up at a place
abbrev pub name_of_text : Node → List ℕ → Written
name_of_text place text = record { at = place; has_package = begins_package (parts text); parts = parts text }

-- The number by which class types in one another are counted is never reached: with a larger one the name is the same.
abbrev pub WrittenEnd : Tree → Node → Type 0
WrittenEnd t n = (more : ℕ) → length t.nodes ≤ more → name_within t more n ≡ written_name t n
