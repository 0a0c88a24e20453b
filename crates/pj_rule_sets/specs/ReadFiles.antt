-- Files that are read, with their lists.
use Rattle.std.specs.Prelude.{List, Option}
use Rattle.std.specs.Map.{lookup}
use Rattle.indexmap.specs.IndexMap.{insert_entry}
use Rattle.pj_rule_sets.specs.Lists.{Taken}
use Rattle.pj_rule_texts.specs.Values.{Text, is_same}

abbrev pub Read : Type 0
Read = List (Text × List Taken)

abbrev pub list_at : Read → Text → Option (List Taken)
list_at read path = lookup (is_same path) read

abbrev pub put_list : Read → Text → List Taken → Read
put_list read path list = insert_entry is_same read path list
