-- What is said of a file that has no tree.
use Rattle.std.specs.Prelude.{ℕ, List, ◌++◌, codes, decimal}
use Rattle.pj_parse.specs.declared.file_fault.FileFault.{FileFault}
use Rattle.pj_parse.specs.declared.file_fault.FileFault.TheVariants as fault
use Rattle.pj_tree.specs.declared.node.Place.{Place}

-- a line and a column
abbrev pub place_text : Place → List ℕ
place_text place = decimal place.line ++ (codes ":" ++ decimal place.column)

abbrev pub fault_message : FileFault → List ℕ
fault_message (fault.NotUtf8 offset) = codes "not UTF-8 at byte " ++ decimal offset
fault_message (fault.Escape place) = codes "bad unicode escape at " ++ place_text place
fault_message (fault.Lexical kind place) = codes "lexical fault " ++ (decimal kind ++ (codes " at " ++ place_text place))
fault_message (fault.TooManyTokens count) = codes "too many tokens"
fault_message fault.Syntax = codes "syntax fault"
fault_message (fault.TooDeep depth) = codes "too deep"
fault_message (fault.TooManyNodes count) = codes "too many nodes"
