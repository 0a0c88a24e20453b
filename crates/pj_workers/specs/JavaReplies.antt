-- What the functions of PMD reply in a Java file of a path: by the file's tree, the attributes, modifiers and places of its nodes, and the path. The classes of the
-- file answer by their declarations, and every other class is asked.
use Rattle.pj_attrs.specs.FileFacts.{modifiers_at, names_at}
use Rattle.pj_file_oracle.specs.FileAnswer.{file_answer}
use Rattle.pj_javafuncs.specs.Facts.{Facts, facts as known}
use Rattle.pj_javafuncs.specs.Replies.{reply}
use Rattle.pj_names.specs.Expand.{expand}
use Rattle.pj_parse.specs.JavaFile.{JavaFile}
use Rattle.pj_workers.specs.FileFacts.{attribute_of, facts, place_of}
use Rattle.pj_outside.specs.Files.{Bytes}
use Rattle.pj_workers.specs.FileMeaning.{Replies}

-- what they know of a file of a path besides its tree
abbrev pub known_in : Bytes → JavaFile → Facts
known_in path file = known (attribute_of file) (names_at (facts file)) (modifiers_at (facts file)) (place_of file) path

abbrev pub java_replies : Replies
java_replies path file function at arguments = expand (file_answer file.tree) (reply (known_in path file) file.tree function at arguments)
