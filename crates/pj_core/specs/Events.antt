-- A run as events: who claims which file, which class is looked up, which file is finished.
use Rattle.std.specs.Prelude.{◌≡◌, ◌<◌, ◌+◌, Bool, true, false, nat_lt, ℕ, List, [], ◌∷◌, map, length, replicate, set, get_or, Option, Some, None, refl}
use Rattle.std.specs.FinMap as finmap
use Rattle.std.specs.Coded.{Coded, code_by, coded×, coded_ℕ, coded_list, coded_option}
use Rattle.std.specs.declared.sync.Arc.{Arc}
use Rattle.std.specs.declared.alloc.Global.{Global}
use Rattle.std.specs.Cmp.Lexicographic.{slice_cmp}
use Rattle.std.specs.Ordering.{nat_cmp}
use Rattle.pj_names.specs.ClassName.{Name}
use Rattle.pj_names.specs.declared.answer.Answer.{Answer}
use Rattle.pj_core.specs.declared.event.Event.{Event}
use Rattle.pj_core.specs.declared.event.Event.TheVariants.{Claim, Look, Finish}
use Rattle.pj_core.specs.declared.event.Did.{Did}
use Rattle.pj_core.specs.declared.event.Did.TheVariants.{Claimed, NoFile, Filled, Hit, Finished}

-- the names that were looked up, each with its answer: a finite map
abbrev pub Table : Type 0
Table = finmap.FinMap (slice_cmp nat_cmp) Answer

-- the table of some names with answers
abbrev pub table_of : List (Name × Arc Answer Global) → Table
table_of pairs = finmap.from_entries (map (λ pair. (pair.0, pair.1.value)) pairs)

-- The state of a run: the number of the file that is claimed next, by worker the file that it holds, the table, and by
-- file what it came to.
pub record State (R : Type 0) : Type 0 where
  pub next : ℕ
  pub held : List (Option ℕ)
  pub table : Table
  pub results : List (Option R)

-- a state is stored as the tuple of its parts
abbrev pub state_code : {R : Type 0} → Coded R → Coded Answer → Coded (State R)
state_code {R} result answer =
    code_by (ℕ × (List (Option ℕ) × (Table × List (Option R))))
    (coded× coded_ℕ (coded× (coded_list (coded_option coded_ℕ)) (coded× (finmap.code (coded_list coded_ℕ) answer) (coded_list (coded_option result)))))
    (λ s. (s.next, (s.held, (s.table, s.results)))) (λ p. record { next = p.0; held = p.1.0; table = p.1.1.0; results = p.1.1.1 }) (λ _. refl)

-- the file that a worker holds
abbrev pub file_of : {R : Type 0} → State R → ℕ → Option ℕ
file_of s worker = get_or s.held worker None

-- what a file came to, where it is finished
abbrev pub result_of : {R : Type 0} → State R → ℕ → Option R
result_of s file = get_or s.results file None

-- the state before the first event, of a run over so many files by so many workers
abbrev pub start : {R : Type 0} → ℕ → ℕ → State R
start files workers = record { next = 0; held = replicate workers None; table = finmap.empty; results = replicate files None }

-- a claim, where there is a file that is not claimed
abbrev pub claimed : {R : Type 0} → ℕ → State R → Bool → State R × Did
claimed worker s true = (record s { next = s.next + 1; held = set s.held worker (Some s.next) }, Claimed s.next)
claimed worker s false = (s, NoFile)

-- a look with an answer, by what the table has for the name
abbrev pub looked_up : {R : Type 0} → Name → Answer → State R → Option Answer → State R × Did
looked_up name answer s None = (record s { table = finmap.insert s.table name answer }, Filled)
looked_up name answer s (Some found) = (s, Hit)

-- a finish with rows, by the file that the worker holds
abbrev pub finished_with : {R : Type 0} → ℕ → R → State R → Option ℕ → State R × Did
finished_with worker rows s None = (s, Finished)
finished_with worker rows s (Some file) = (record s { held = set s.held worker None; results = set s.results file (Some rows) }, Finished)

-- One event: the state after it, and what it did.
abbrev pub step : {R : Type 0} → State R → Event R → State R × Did
step s (Claim worker) = claimed worker s (nat_lt s.next (length s.results))
step s (Look worker name answer) = looked_up name answer.value s (finmap.get s.table name)
step s (Finish worker rows) = finished_with worker rows s (file_of s worker)

-- The worker holds a file.
abbrev pub HoldsFile : {R : Type 0} → State R → ℕ → Type 0
HoldsFile s worker = (worker < length s.held) × (file : ℕ) × (file_of s worker ≡ Some file)

-- The event may happen: the worker is one of the run, and holds no file before a claim, and one before any other event.
abbrev pub MayStep : {R : Type 0} → State R → Event R → Type 0
MayStep s (Claim worker) = (worker < length s.held) × (file_of s worker ≡ None)
MayStep s (Look worker name answer) = HoldsFile s worker
MayStep s (Finish worker rows) = HoldsFile s worker

-- The event fills a name: of all events it alone takes memory.
abbrev pub IsFill : {R : Type 0} → State R → Event R → Type 0
IsFill s (Claim worker) = ⊥
IsFill s (Look worker name answer) = finmap.get s.table name ≡ None
IsFill s (Finish worker rows) = ⊥

-- Each file that a worker holds is one of so many.
abbrev pub AreThere : List (Option ℕ) → ℕ → Type 0
AreThere held files = (worker file : ℕ) → get_or held worker None ≡ Some file → file < files

-- the state after some events, one after the other
abbrev pub run : {R : Type 0} → State R → List (Event R) → State R
run s [] = s
run s (event ∷ events) = run (step s event).0 events
