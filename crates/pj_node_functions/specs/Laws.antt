-- What is said of the tables of this crate.
use Rattle.std.specs.Prelude.{◌≡◌, ℕ, Bool, true, ◌&&◌, IsTrue, Contains, List, [], ◌∷◌, codes, map}
use Rattle.std.specs.Cmp.Lexicographic.{slice_cmp}
use Rattle.std.specs.Ordering.{is_lt, nat_cmp}
use Rattle.pj_attrs.specs.Table.{is_expression}
use Rattle.pj_tree.specs.Kind.{name_of}
use Rattle.pj_tree.specs.declared.kind.Kind.{Kind}
use Rattle.pj_xvalue.specs.declared.modifiers.Modifier.{Modifier}
use Rattle.pj_node_functions.specs.Kinds.{is_in_group}
use Rattle.pj_node_functions.specs.ModifierWords.{all_modifiers, word_of}

-- whether each text is less than the next one, by their bytes
abbrev pub ascend : List (List ℕ) → Bool
ascend [] = true
ascend (text ∷ []) = true
ascend (text ∷ (next ∷ rest)) = is_lt (slice_cmp nat_cmp text next) && ascend (next ∷ rest)

-- no modifier is left out
abbrev pub AreAllModifiers : Type 0
AreAllModifiers = (modifier : Modifier) → Contains all_modifiers modifier

-- their words stand in byte order, each once
abbrev pub WordsAscend : Type 0
WordsAscend = IsTrue (ascend (map word_of all_modifiers))

-- The group `Expression` has just the kinds that have the attributes of expressions.
abbrev pub ExpressionsAreOneGroup : Type 0
ExpressionsAreOneGroup = (kind : Kind) → is_in_group (codes "Expression") (name_of kind) ≡ is_expression kind
