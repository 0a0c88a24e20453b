-- What a reader of the key puts at the end of a copy.
use Rattle.std.specs.Prelude.{◌≡◌, ℕ, Bool, List, ◌++◌, Result, Ok, Err}
use Rattle.std.specs.Str.{is_utf8}
use Rattle.pj_format.specs.Format.{Format, first, ◌and_then◌}
use Rattle.pj_format.specs.Fields.{Fails}
use Rattle.pj_format.specs.declared.fault.Fault.{Fault}
use Rattle.pj_format.specs.declared.fault.Refused.{Refused}
use Rattle.pj_old_format.specs.ListKeys.{◌followed_by◌, all_tested, is_priority, is_top, listed, property_tests, word_tests}
use Rattle.pj_old_reading.specs.declared.keys.Test.{Test}
use Rattle.pj_old_reading.specs.declared.keys.Test.TheVariants as tests

-- what is read, at the end of a copy, and the place behind it
abbrev pub behind_copy : List ℕ → Result (List ℕ × ℕ) Fault → Result (List ℕ × ℕ) Fault
behind_copy copy read = read and_then λ x. Ok (copy ++ x.0, x.1)

-- The place behind what a format spells from a place on, which stands at the end of the copy; or its first fault.
abbrev pub Copies : Format (List ℕ) → List ℕ → ℕ → List ℕ → List ℕ → Result ℕ Refused → Type 0
Copies format bytes at old new (Ok end) = behind_copy old (first format bytes at) ≡ Ok (new, end)
Copies format bytes at old new (Err e) = Fails e (first format bytes at)

-- what a test is of
abbrev pub test_of : Test → List ℕ → Bool
test_of tests.Word = is_utf8
test_of tests.Top = is_top
test_of tests.Priority = is_priority

-- exclude patterns and include patterns of a rule
abbrev pub patterns : Format (List ℕ)
patterns = listed (all_tested word_tests) followed_by listed (all_tested word_tests)

-- its properties and these
abbrev pub lists : Format (List ℕ)
lists = listed (all_tested property_tests) followed_by patterns
