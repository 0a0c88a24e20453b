-- That all is of one tree, with so many nodes. These are records, so that a proof hands them on as they are.
use Rattle.std.specs.Prelude.{ℕ, List}
use Rattle.std.specs.List.{All}
use Rattle.pj_xvalue.specs.Items.{ItemValue, AreOfTree}

-- the items of a sequence
pub record OfTree (nodes : ℕ) (items : List ItemValue) : Type 0 where
  pub each : AreOfTree nodes items

-- the arguments of a call
pub record ArgumentsOfTree (nodes : ℕ) (arguments : List (List ItemValue)) : Type 0 where
  pub each : All (AreOfTree nodes) arguments

-- the values of variables, each behind its name
pub record VariablesOfTree (nodes : ℕ) (variables : List (List ℕ × List ItemValue)) : Type 0 where
  pub each : All (λ variable. AreOfTree nodes variable.1) variables
