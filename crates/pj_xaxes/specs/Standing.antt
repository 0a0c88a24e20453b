-- Positions as the code holds them.
use Rattle.std.specs.Prelude.{ℕ, Option}
use Rattle.pj_xaxes.specs.declared.order.Position.{Position}

abbrev pub standing : Option ℕ × Option ℕ → Position
standing p = record { node = p.0; attribute = p.1 }
