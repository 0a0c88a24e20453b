-- What a search knows of a grammar and of a text.
use Rattle.std.specs.Prelude.{◌≡◌, ℕ, ◌^◌, ◌<◌, ◌≤◌, List, length, All, Option, Some, slice_get, IsSome}
use Rattle.std.specs.Option.{option_and_then}
use Rattle.pj_peg.specs.declared.plan.Plan.{Plan}
use Rattle.pj_peg.specs.declared.plan.Memo.{Memo}
use Rattle.pj_peg.specs.declared.plan.Question.{Question}
use Rattle.pj_peg_grammar.specs.declared.program.Program.{Program}
use Rattle.pj_peg.specs.declared.slots.KindSlots.{KindSlots}
use Rattle.pj_peg_grammar.specs.WellFormed.{IsWellFormed}
use Rattle.pj_peg_grammar.specs.Program.{IsProgram, rules_of}
use Rattle.pj_peg.specs.Table.{cell_at, end_of_code}
use Rattle.pj_peg.specs.Ends.{Ends}
use Rattle.pj_peg_grammar.specs.Firsts.{AreGoing}
use Rattle.pj_peg.specs.Slots.{row_number, columns, column_form, AreSlots}

pub record IsPlan (plan : Plan) : Type 0 where
  pub few : length plan.program.roots.items ≤ 2 ^ 16
  pub program_is : IsProgram plan.program
  pub well_formed : IsWellFormed (rules_of plan.program)
  pub goings_are : AreGoing plan.program plan.goings.items
  pub slots_are : AreSlots plan.program plan.slots.items

-- the slot of a column at a place
abbrev pub slot_at : List KindSlots → List ℕ → ℕ → ℕ → Option (Option ℕ)
slot_at slots kinds i c = option_and_then (λ (row : KindSlots). slice_get row.slots.items c) (slice_get slots (row_number kinds i))

-- a question is of a place and a column that are there
abbrev pub IsAsked : Program → List ℕ → Question → Type 0
IsAsked p kinds q = (q.place ≤ length kinds) × (q.column < columns p)

-- each slot has its cell, and each cell that has a code has the end of its column
pub record IsTrueTable (p : Program) (slots : List KindSlots) (kinds : List ℕ) (table : List (List (Option ℕ))) : Type 0 where
  pub there : (i c s : ℕ) → i ≤ length kinds → slot_at slots kinds i c ≡ Some (Some s) → IsSome (cell_at table i s)
  pub told : (i c s code : ℕ) → i ≤ length kinds → slot_at slots kinds i c ≡ Some (Some s) → cell_at table i s ≡ Some (Some code) →
      Ends (rules_of p) kinds (column_form p c) i (end_of_code code)

pub record IsSound (plan : Plan) (kinds : List ℕ) (memo : Memo) : Type 0 where
  pub table_is : IsTrueTable plan.program plan.slots.items kinds memo.table
  pub asked : All (IsAsked plan.program kinds) memo.given_up.items
