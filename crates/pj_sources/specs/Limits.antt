-- Limits of a run.
use Rattle.std.specs.Prelude.{ℕ}

-- how many files
abbrev pub most_files : ℕ
most_files = 100000

-- how many bytes of a file
abbrev pub most_file_bytes : ℕ
most_file_bytes = 1048576

-- how many bytes of all files together
abbrev pub most_all_bytes : ℕ
most_all_bytes = 536870912
