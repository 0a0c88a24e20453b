-- What is read of the sources.
use Rattle.std.specs.Prelude.{⊤, ◌≡◌, ◌<◌, ◌≤◌, ◌+◌, ℕ, List, ◌∷◌, ◌++◌, Contains, All, map, sum_by, length, None, Some}
use Rattle.pj_outside.specs.Files.{Files, Bytes, bytes_at}
use Rattle.pj_sources.specs.Limits.{most_file_bytes, most_all_bytes}
use Rattle.pj_sources.specs.declared.limits.SourceLimit.{SourceLimit}
use Rattle.pj_sources.specs.declared.limits.SourceLimit.TheVariants as limit
use Rattle.pj_sources.specs.declared.refused.ReadRefused.{ReadRefused}
use Rattle.pj_sources.specs.declared.refused.ReadRefused.TheVariants.{Failed, Missing, Limit, Memory}

-- how many bytes files have together
abbrev pub bytes_together : Files → ℕ
bytes_together read = sum_by (λ file. length file.1) read

-- There is a file for each path, in their order, and the files are within the limits.
pub record AreWithin (paths : List Bytes) (read : Files) : Type 0 where
  pub paths_are : map (λ file. file.0) read ≡ paths
  pub short : All (λ file. length file.1 ≤ most_file_bytes) read
  pub together : bytes_together read ≤ most_all_bytes

-- They have the bytes that are held under their paths.
pub record AreRead (files : Files) (paths : List Bytes) (read : Files) : Type 0 where
  pub within : AreWithin paths read
  pub bytes_are : All (λ file. bytes_at files file.0 ≡ Some file.1) read

-- The file of a path is refused, behind files that have so many bytes together.
pub data IsRefusedBehind (files : Files) (before : ℕ) (path : Bytes) : ReadRefused → Type 0 where
  missing : bytes_at files path ≡ None → IsRefusedBehind files before path (Missing path)
  too_long : (bytes : Bytes) → bytes_at files path ≡ Some bytes → most_file_bytes < length bytes → IsRefusedBehind files before path (Limit (limit.FileBytes path))
  too_much : (bytes : Bytes) → bytes_at files path ≡ Some bytes → length bytes ≤ most_file_bytes → most_all_bytes < before + length bytes → IsRefusedBehind files before path (Limit limit.AllBytes)

-- The first path that is refused is refused so: the files of those before it are read.
pub record IsRefused (files : Files) (paths : List Bytes) (refused : ReadRefused) : Type 0 where
  pub front : List Bytes
  pub path : Bytes
  pub behind : List Bytes
  pub paths_are : paths ≡ front ++ path ∷ behind
  pub read : Files
  pub are_read : AreRead files front read
  pub is_refused : IsRefusedBehind files (bytes_together read) path refused

-- What a refusal says of the files and the paths.
abbrev pub SaysNotRead : Files → List Bytes → ReadRefused → Type 0
SaysNotRead files paths Failed = ⊤
SaysNotRead files paths (Missing path) = IsRefused files paths (Missing path)
SaysNotRead files paths (Limit kind) = IsRefused files paths (Limit kind)
SaysNotRead files paths Memory = ⊤

-- Of a path of which nothing is known is said: it is one of them.
abbrev pub IsLimitOfPaths : List Bytes → SourceLimit → Type 0
IsLimitOfPaths paths limit.Files = ⊥
IsLimitOfPaths paths (limit.FileBytes path) = Contains paths path
IsLimitOfPaths paths limit.AllBytes = ⊤

-- What a refusal says where nothing is known of the files: its path is one of them, and its limit is one of bytes.
abbrev pub IsOfPaths : List Bytes → ReadRefused → Type 0
IsOfPaths paths Failed = ⊤
IsOfPaths paths (Missing path) = Contains paths path
IsOfPaths paths (Limit kind) = IsLimitOfPaths paths kind
IsOfPaths paths Memory = ⊤

-- ---- for the private clauses

abbrev pub IsFileRead : Files → Bytes → Bytes → Type 0
IsFileRead files path bytes = bytes_at files path ≡ Some bytes

-- the same, of one path
abbrev pub SaysNoFile : Files → ℕ → Bytes → ReadRefused → Type 0
SaysNoFile files before path Failed = ⊤
SaysNoFile files before path (Missing other) = IsRefusedBehind files before path (Missing other)
SaysNoFile files before path (Limit kind) = IsRefusedBehind files before path (Limit kind)
SaysNoFile files before path Memory = ⊤

abbrev pub IsLimitOfPath : Bytes → SourceLimit → Type 0
IsLimitOfPath path limit.Files = ⊥
IsLimitOfPath path (limit.FileBytes other) = other ≡ path
IsLimitOfPath path limit.AllBytes = ⊤

abbrev pub IsOfPath : Bytes → ReadRefused → Type 0
IsOfPath path Failed = ⊤
IsOfPath path (Missing other) = other ≡ path
IsOfPath path (Limit kind) = IsLimitOfPath path kind
IsOfPath path Memory = ⊤

-- It is said that the file of the path is absent, or too long, or memory was wanting.
abbrev pub IsMissing : Bytes → ReadRefused → Type 0
IsMissing path Failed = ⊥
IsMissing path (Missing other) = other ≡ path
IsMissing path (Limit kind) = ⊥
IsMissing path Memory = ⊤

abbrev pub IsTooLong : Bytes → ReadRefused → Type 0
IsTooLong path Failed = ⊥
IsTooLong path (Missing other) = ⊥
IsTooLong path (Limit kind) = kind ≡ limit.FileBytes path
IsTooLong path Memory = ⊤
