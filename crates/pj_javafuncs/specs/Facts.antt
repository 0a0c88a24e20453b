-- What the functions know of a file besides its tree.
use Rattle.std.specs.Prelude.{ℕ, Bool, List, Option}
use Rattle.pj_tree.specs.declared.node.Node.{Node}
use Rattle.pj_tree.specs.declared.node.Place.{Place}
use Rattle.pj_xvalue.specs.declared.modifiers.Modifiers.{Modifiers}
use Rattle.pj_xvalue.specs.Items.{ItemValue}

-- the values and names of attributes, the modifiers, effective ones (`true`) or those that are written, the places of offsets, and the path
pub record Facts : Type 0 where
  pub attribute_of : Node → List ℕ → Option ItemValue
  pub names_of : Node → List (List ℕ)
  pub modifiers_of : Node → Bool → Modifiers
  pub place_of : ℕ → Place
  pub path : List ℕ

abbrev pub facts : (Node → List ℕ → Option ItemValue) → (Node → List (List ℕ)) → (Node → Bool → Modifiers) → (ℕ → Place) → List ℕ → Facts
facts attribute_of names_of modifiers_of place_of path =
    record { attribute_of = attribute_of; names_of = names_of; modifiers_of = modifiers_of; place_of = place_of; path = path }
