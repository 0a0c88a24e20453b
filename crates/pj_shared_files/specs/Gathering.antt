-- What is left of files, put together, for private clauses.
use Rattle.std.specs.Prelude.{ℕ, List, [], ◌∷◌, ◌++◌, Bool, map}
use Rattle.pj_cache.specs.declared.cache.Entry.{Entry}
use Rattle.pj_cached_files.specs.declared.entry.LeftFile.{LeftFile}
use Rattle.pj_fitting.specs.Left.{File}
use Rattle.pj_outside.specs.Files.{Bytes}
use Rattle.pj_workers.specs.Evaluated.{with_path}

-- the entry that is left of a file, under the path of the file
abbrev pub entry_of : File → LeftFile → Entry
entry_of file left = record left.entry { path = file.0 }

-- of files, one after the other
abbrev pub entries_of : List File → List LeftFile → List Entry
entries_of [] made = []
entries_of (file ∷ list) [] = []
entries_of (file ∷ list) (left ∷ made) = entry_of file left ∷ entries_of list made

-- for each of them whether it is used again as it is
abbrev pub flags_of : List LeftFile → List Bool
flags_of made = map (λ (left : LeftFile). left.is_reused) made

-- the rules that were evaluated on them, each with the path of its file
abbrev pub ran_of : List File → List LeftFile → List (Bytes × ℕ)
ran_of [] made = []
ran_of (file ∷ list) [] = []
ran_of (file ∷ list) (left ∷ made) = with_path file.0 left.ran ++ ran_of list made
