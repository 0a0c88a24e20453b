-- Which rules are evaluated on files where no cache serves any: on a file that has a tree, each rule that is active for its path. Rules of the same texts are each evaluated.
use Rattle.std.specs.Prelude.{ℕ, List, [], Result, Ok, Err, filter, flat_map, length, map}
use Rattle.pj_outside.specs.Files.{Bytes, Files}
use Rattle.pj_parse.specs.FileOutcome.{outcome_of}
use Rattle.pj_parse.specs.JavaFile.{JavaFile}
use Rattle.pj_parse.specs.declared.file_fault.FileFault.{FileFault}
use Rattle.pj_rule_sets.specs.Active.{is_active_at}
use Rattle.pj_rule_sets.specs.Rules.{EffectiveRules}
use Rattle.pj_workers.specs.Chosen.{numbers_to}

-- rules by their numbers, each with the path of a file
abbrev pub with_path : Bytes → List ℕ → List (Bytes × ℕ)
with_path path numbers = map (λ number. (path, number)) numbers

-- the numbers, from 0, of the rules of a set that are active for a path, ascending
abbrev pub active_numbers : EffectiveRules → Bytes → List ℕ
active_numbers set path = filter (λ number. is_active_at set number path) (numbers_to (length set.rules))

-- the numbers of the rules that are evaluated on a file with this outcome: none where there is no tree
abbrev pub evaluated : EffectiveRules → Bytes → Result JavaFile FileFault → List ℕ
evaluated set path (Ok file) = active_numbers set path
evaluated set path (Err fault) = []

-- the rules that are evaluated on files, each with the path of its file, in the order of the files and then of the numbers
abbrev pub evaluated_on : EffectiveRules → Files → List (Bytes × ℕ)
evaluated_on set files = flat_map (λ (file : Bytes × Bytes). with_path file.0 (evaluated set file.0 (outcome_of file.1))) files
