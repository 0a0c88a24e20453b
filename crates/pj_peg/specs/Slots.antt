-- The columns of a program, and their slots at the places of a text.
use Rattle.std.specs.Prelude.{◌≡◌, ℕ, ◌+◌, ◌-◌, ◌<◌, ◌≤◌, List, length, Option, Some, None, slice_get, slice_index_or, nat_lt, if◌then◌else◌}
use Rattle.pj_peg_grammar.specs.declared.program.Program.{Program}
use Rattle.pj_peg.specs.declared.slots.KindSlots.{KindSlots}
use Rattle.pj_peg_grammar.specs.Form.{Form, rule, star}
use Rattle.pj_peg_grammar.specs.Program.{form_at, forms_in, rules_of}
use Rattle.pj_peg.specs.Ends.{Ends}

-- the kind where it is below 128, else 128
abbrev pub row_of : Option ℕ → ℕ
row_of None = 128
row_of (Some kind) = if nat_lt kind 128 then kind else 128

-- the number of the slots for a place: the kind of the token there, or 128 where none or a further kind stands
abbrev pub row_number : List ℕ → ℕ → ℕ
row_number kinds i = row_of (slice_get kinds i)

-- how many columns there are: the rules, and then the repetitions
abbrev pub columns : Program → ℕ
columns p = length p.roots.items + length p.stars.items

-- the part of a repetition, by its column
abbrev pub star_part : Program → ℕ → Form
star_part p c = form_at (forms_in p.nodes.items) (slice_index_or p.stars.items (c - length p.roots.items) 0)

-- what a column stands for
abbrev pub column_form : Program → ℕ → Form
column_form p c = if nat_lt c (length p.roots.items) then rule c else star (star_part p c)

-- where a column ends that is ruled out: a rule fails, a repetition has no turn
abbrev pub ruled_out_end : Program → ℕ → ℕ → Option ℕ
ruled_out_end p c i = if nat_lt c (length p.roots.items) then None else Some i

-- the column is ruled out wherever this is the number of the slots
abbrev pub IsOutAt : Program → ℕ → ℕ → Type 0
IsOutAt p kind c = (kinds : List ℕ) (i : ℕ) → i ≤ length kinds → row_number kinds i ≡ kind → Ends (rules_of p) kinds (column_form p c) i (ruled_out_end p c i)

-- a slot of its own for each column that is not ruled out
pub record IsKindSlots (p : Program) (kind : ℕ) (row : KindSlots) : Type 0 where
  pub count : length row.slots.items ≡ columns p
  pub fits : (c s : ℕ) → slice_get row.slots.items c ≡ Some (Some s) → s < row.width
  pub one : (c d s : ℕ) → slice_get row.slots.items c ≡ Some (Some s) → slice_get row.slots.items d ≡ Some (Some s) → c ≡ d
  pub out : (c : ℕ) → slice_get row.slots.items c ≡ Some None → IsOutAt p kind c

pub record AreSlots (p : Program) (slots : List KindSlots) : Type 0 where
  pub count : length slots ≡ 129
  pub each : (k : ℕ) (row : KindSlots) → slice_get slots k ≡ Some row → IsKindSlots p k row
