-- What the code has, as the definitions have them.
use Rattle.std.specs.Prelude.{ℕ, List, map}
use Rattle.std.specs.Borrow.{Bor}
use Rattle.pj_names.specs.JavaType.{type_list}
use Rattle.pj_written.specs.declared.spelling.Parameter.{Parameter as KeptParameter}
use Rattle.pj_written.specs.Spelling.{Parameter}

-- two texts that are lent
abbrev pub pair_of : Bor (List ℕ) × Bor (List ℕ) → List ℕ × List ℕ
pair_of pair = (pair.0.now, pair.1.now)

-- a type parameter with its bounds
abbrev pub parameter_view : KeptParameter → Parameter
parameter_view parameter = record { name = parameter.name; bounds = type_list parameter.bounds }

abbrev pub all_parameters : List KeptParameter → List Parameter
all_parameters parameters = map parameter_view parameters
