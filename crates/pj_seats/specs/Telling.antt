-- What the oracle over a seat tells.
use Rattle.std.specs.Borrow.{GName}
use Rattle.std.specs.Prelude.{ℕ}
use Rattle.pj_table.specs.Seats.{Identity}
use Rattle.pj_table.specs.declared.view.View.{View}

-- What an oracle over a seat keeps in every call: the reference by which the seat and the door are held, which seat of which
-- table it is, what the seat knew and how many finds the door had when the oracle was made.
pub record OverSeat : Type 0 where
  pub reference : GName
  pub identity : Identity
  pub start : View
  pub finds : ℕ
