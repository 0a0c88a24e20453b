-- What rules of some numbers come to at a file: each of them alone, in the order of the numbers.
use Rattle.std.specs.Prelude.{ℕ, List, Result, slice_get}
use Rattle.std.specs.List.{filter_map, range_with_len}
use Rattle.pj_names.specs.Asking.{Asking, each}
use Rattle.pj_outside.specs.Files.{Bytes}
use Rattle.pj_parse.specs.FileOutcome.{outcome_of}
use Rattle.pj_parse.specs.JavaFile.{JavaFile}
use Rattle.pj_parse.specs.declared.file_fault.FileFault.{FileFault}
use Rattle.pj_reports.specs.declared.ruled.Ruled.{Ruled}
use Rattle.pj_workers.specs.FileMeaning.{Replies, rule_at}
use Rattle.pj_workers.specs.Results.{rules_in}
use Rattle.pj_workers.specs.Rules.{Rule}

-- the members of a list at these numbers, from 0, in the order of the numbers
abbrev pub chosen : {A : Type 0} → List ℕ → List A → List A
chosen numbers list = filter_map (λ number. slice_get list number) numbers

-- the numbers of so many members
abbrev pub numbers_to : ℕ → List ℕ
numbers_to count = range_with_len 0 count

module _ (replies : Replies) where
  -- What the rules of these numbers come to at a file with this outcome, one after the other. Where there is no tree, none is looked at.
  abbrev pub chosen_at : Bytes → Result JavaFile FileFault → List ℕ → List Rule → Asking (List Ruled)
  chosen_at path outcome numbers rules = each (rule_at replies path outcome) (rules_in outcome (chosen numbers rules))

  -- what they come to at a file of these bytes
  abbrev pub chosen_meaning : Bytes → Bytes → List ℕ → List Rule → Asking (List Ruled)
  chosen_meaning path bytes numbers rules = chosen_at path (outcome_of bytes) numbers rules
