-- What a Java file is to the expressions of rules.
use Rattle.std.specs.Prelude.{ℕ, List, Option}
use Rattle.pj_attrs.specs.FileFacts.{FileFacts, attribute_in, facts_of, names_at, place_in}
use Rattle.pj_parse.specs.JavaFile.{JavaFile}
use Rattle.pj_tree.specs.declared.node.Node.{Node}
use Rattle.pj_tree.specs.declared.node.Place.{Place}
use Rattle.pj_xsteps.specs.Context.{Around, around}
use Rattle.pj_xpatterns.specs.Meaning.{Pattern}
use Rattle.pj_xvalue.specs.Items.{ItemValue}

-- the text of a file with its places, and its tree with its tokens
abbrev pub facts : JavaFile → FileFacts
facts file = facts_of file.source (record { tree = file.tree; tokens = file.tokens })

-- the value of a node's attribute of a name, if it has one
abbrev pub attribute_of : JavaFile → Node → List ℕ → Option ItemValue
attribute_of file = attribute_in (facts file)

-- the place in the file of an offset into its text
abbrev pub place_of : JavaFile → ℕ → Place
place_of file = place_in (facts file)

-- what is around the expressions of a rule with these patterns
abbrev pub around_file : JavaFile → List Pattern → Around
around_file file patterns = around file.tree (attribute_of file) (names_at (facts file)) patterns
