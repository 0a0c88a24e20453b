-- Lawful events, and what a run comes to.
--
-- Nothing is said here of what files, worlds and rows are. Who runs files fills the parameters so: `R` is what a worker
-- hands over for a file, and `T` the rows of a file. `rows_of` gives the rows of what was handed over, and `meaning` is by
-- file number the meaning of the file under the rules of the run: its rows, with the names that it asks. `world` gives
-- each name the answer of the class folders.
--
-- So a file is finished lawfully with whatever rows it has over the table, which need not answer any other name. What
-- else is handed over beside the rows, as results for a cache with their names, is free here: a result may have been
-- kept from another run, as long as the table has what shows that its rows are right.
use Rattle.std.specs.Prelude.{◌≡◌, ◌<◌, ◌+◌, ℕ, zero, suc, List, [], ◌∷◌, ◌++◌, length, Option, Some, None}
use Rattle.std.specs.FinMap as finmap
use Rattle.pj_names.specs.ClassName.{Name, NameSet}
use Rattle.pj_names.specs.Asking.{Asking}
use Rattle.pj_names.specs.Meaning.{Source, Means, Gives, whole}
use Rattle.pj_names.specs.declared.answer.Answer.{Answer}
use Rattle.pj_core.specs.declared.event.Event.{Event}
use Rattle.pj_core.specs.declared.event.Event.TheVariants.{Claim, Look, Finish}
use Rattle.pj_core.specs.declared.event.Did.{Did}
use Rattle.pj_core.specs.declared.event.Did.TheVariants.{Claimed, NoFile, Filled, Hit, Finished}
use Rattle.pj_core.specs.Events.{Table, State, file_of, result_of, step, MayStep}

-- the table as a source that is not whole: it answers the names that it has
abbrev pub source_of_table : Table → Source
source_of_table table name = finmap.get table name

-- The file means these rows over the source, whatever names it asks.
abbrev pub HasRows : {T : Type 0} → Source → Asking T → T → Type 0
HasRows source meaning rows = (names : NameSet) × Means source meaning (Gives rows names)

module _ {R T : Type 0} (rows_of : R → T) (meaning : ℕ → Asking T) (world : Name → Answer) where
  -- An event is lawful in a state where it may happen, where a look has the world's answer, and where a finish has the rows
  -- that its file means over the table.
  abbrev pub IsLawful : State R → Event R → Type 0
  IsLawful s (Claim worker) = MayStep s (Claim worker)
  IsLawful s (Look worker name answer) = MayStep s (Look worker name answer) × (answer.value ≡ world name)
  IsLawful s (Finish worker result) = (worker < length s.held) × (file : ℕ) × (file_of s worker ≡ Some file) × HasRows (source_of_table s.table) (meaning file) (rows_of result)

  -- Each event is lawful in its state.
  abbrev pub AreLawful : State R → List (Event R) → Type 0
  AreLawful s [] = Unit {0}
  AreLawful s (event ∷ events) = IsLawful s event × AreLawful (step s event).0 events

  -- The file is finished, with the rows that it means over the whole world.
  abbrev pub IsCold : State R → ℕ → Type 0
  IsCold s file = (result : R) × (result_of s file ≡ Some result) × HasRows (whole world) (meaning file) (rows_of result)

-- Each file is finished.
abbrev pub IsAllFinished : {R : Type 0} → State R → Type 0
IsAllFinished {R} s = (file : ℕ) → file < length s.results → (result : R) × (result_of s file ≡ Some result)

-- the number that a claim gave
abbrev pub number_in : Did → List ℕ
number_in (Claimed file) = file ∷ []
number_in NoFile = []
number_in Filled = []
number_in Hit = []
number_in Finished = []

-- the numbers of the files that were claimed, in the order of the claims
abbrev pub claims : {R : Type 0} → State R → List (Event R) → List ℕ
claims s [] = []
claims s (event ∷ events) = number_in (step s event).1 ++ claims (step s event).0 events

-- so many numbers from one on
abbrev pub count_up : ℕ → ℕ → List ℕ
count_up from zero = []
count_up from (suc more) = from ∷ count_up (from + 1) more

-- An answer, if there is one, is this one.
abbrev pub IsNoOther : Option Answer → Answer → Type 0
IsNoOther None answer = Unit {0}
IsNoOther (Some found) answer = found ≡ answer
