-- What contracts say of a table and its seats.
use Rattle.std.specs.Prelude.{◌≡◌, ℕ, false, true}
use Rattle.atomic_table.specs.Seated.{TableId}
use Rattle.pj_table.specs.declared.seat.TableSeat.{TableSeat}
use Rattle.pj_table.specs.declared.seat.TypeTable.{TypeTable}
use Rattle.pj_table.specs.declared.view.View.{View}
use Rattle.pj_table.specs.Worlds.{World}

-- The seat is one of the table.
abbrev pub IsOf : TypeTable → TableSeat → Type 0
IsOf table seat = seat.seat.table_id ≡ table.table.shared.table_id

-- which seat of which table it is
abbrev pub Identity : Type 0
Identity = TableId × ℕ

abbrev pub identity_of : TableSeat → Identity
identity_of seat = (seat.seat.table_id, seat.seat.id)

-- It is the same seat of the same table, with what it knows now.
abbrev pub IsSameSeat : TableSeat → TableSeat → Type 0
IsSameSeat before after = (after.seat.table_id ≡ before.seat.table_id) × (after.seat.id ≡ before.seat.id)

-- Both are seats of one table.
abbrev pub AreOfOneTable : TableSeat → TableSeat → Type 0
AreOfOneTable one other = other.seat.table_id ≡ one.seat.table_id

-- what a seat knows
abbrev pub view_of : TableSeat → View
view_of seat = seat.seat.me.0

-- the world of a seat, which all seats of a table have
abbrev pub world_of : TableSeat → World
world_of seat = (view_of seat).world

-- the number of files of the seat's table
abbrev pub files_of : TableSeat → ℕ
files_of seat = (view_of seat).files

-- The seat is the one that the table was opened with.
abbrev pub IsOpening : TableSeat → Type 0
IsOpening seat = (view_of seat).own.number ≡ 0

-- The seat drew a number past the files.
abbrev pub HasEnded : TableSeat → Type 0
HasEnded seat = (view_of seat).own.past ≡ true

-- The seat drew no number past the files yet.
abbrev pub HasNotEnded : TableSeat → Type 0
HasNotEnded seat = (view_of seat).own.past ≡ false
