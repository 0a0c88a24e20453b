-- The outcome of the bytes of a file, as a function: the one that comes of them, which is there and is one by `file_has_one_outcome`.
use Rattle.std.specs.Prelude.{ℕ, List, Result}
use Rattle.pj_parse.specs.JavaFile.{JavaFile}
use Rattle.pj_parse.specs.declared.file_fault.FileFault.{FileFault}
use Rattle.pj_parse.specs.FileThere.{file_there}

unfoldable pub outcome_of : List ℕ → Result JavaFile FileFault
outcome_of bytes = (file_there bytes).0
