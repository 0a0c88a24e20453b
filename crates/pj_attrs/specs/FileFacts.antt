-- What an evaluator is told of a file.
use Rattle.std.specs.Prelude.{ℕ, Bool, Option, if◌then◌else◌, List, []}
use Rattle.std.specs.Option.{option_map_or}
use Rattle.pj_source.specs.SourceText.{SourceText}
use Rattle.pj_modifiers.specs.Sets.{explicit_modifiers, effective_modifiers}
use Rattle.pj_parse.specs.Parses.{FileParsed}
use Rattle.pj_tree.specs.Tree.{kind_of}
use Rattle.pj_tree.specs.Places.{first_place}
use Rattle.pj_tree.specs.declared.node.Node.{Node}
use Rattle.pj_tree.specs.declared.node.Place.{Place}
use Rattle.std.specs.Prelude.{slice_index_or}
use Rattle.pj_xvalue.specs.Items.{ItemValue}
use Rattle.pj_xvalue.specs.declared.modifiers.Modifiers.{Modifiers}
use Rattle.pj_attrs.specs.Attribute.{attribute, attribute_names}

-- the text of a file with its places, and its tree with its tokens
pub record FileFacts : Type 0 where
  pub source : SourceText
  pub file : FileParsed

abbrev pub facts_of : SourceText → FileParsed → FileFacts
facts_of source file = record { source = source; file = file }

abbrev pub attribute_in : FileFacts → Node → List ℕ → Option ItemValue
attribute_in facts n name = attribute facts.file n name

-- the names of the attributes of a node, in order
abbrev pub names_at : FileFacts → Node → List (List ℕ)
names_at facts n = option_map_or attribute_names (kind_of facts.file.tree n) []

abbrev pub modifiers_at : FileFacts → Node → Bool → Modifiers
modifiers_at facts n effective = if effective then effective_modifiers facts.file.tree n else explicit_modifiers facts.file.tree n

-- the place in the file of an offset into its text
abbrev pub place_in : FileFacts → ℕ → Place
place_in facts offset = slice_index_or facts.source.places offset first_place
