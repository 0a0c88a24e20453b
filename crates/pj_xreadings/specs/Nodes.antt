-- What a node looks like, by what its parts look like.
use mathlib.Core.Path.{ap}
use Rattle.std.proofs.Common.{◌≡◌, refl, List, [], ◌∷◌, length, map}
use Rattle.pj_xexpressions.specs.Trees.{Tree, Construct, trees, node}
use Rattle.pj_xreadings.specs.Nesting.{Nested, is_descendants_by, nested_by, nested_of, nested_each}
use Rattle.pj_xreadings.specs.Shapes.{level_by, part_by, part_of_tree, parts_of_trees}

pub parts_of_trees_each : (parts : List Tree) → parts_of_trees (trees parts) ≡ map part_of_tree parts
unfolding part_of_tree parts_of_trees
parts_of_trees_each [] = refl
parts_of_trees_each (first ∷ rest) = ap (λ more. part_of_tree first ∷ more) (parts_of_trees_each rest)

pub part_of_node : (construct : Construct) (parts : List Tree) → part_of_tree (node construct parts) ≡ part_by construct (map part_of_tree parts)
unfolding part_of_tree parts_of_trees
part_of_node construct parts = ap (part_by construct) (parts_of_trees_each parts)

pub nested_each_of : (parts : List Tree) → nested_each (trees parts) ≡ map nested_of parts
unfolding nested_of nested_each
nested_each_of [] = refl
nested_each_of (first ∷ rest) = ap (λ more. nested_of first ∷ more) (nested_each_of rest)

abbrev pub nested_as : Construct → List Nested → Nested
nested_as construct parts = record { level = level_by construct (length parts); is_descendants = is_descendants_by construct (length parts); nesting = nested_by construct parts }

pub nested_of_node : (construct : Construct) (parts : List Tree) → nested_of (node construct parts) ≡ nested_as construct (map nested_of parts)
unfolding nested_of nested_each
nested_of_node construct parts = ap (nested_as construct) (nested_each_of parts)
