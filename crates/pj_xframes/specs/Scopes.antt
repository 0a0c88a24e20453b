-- The variables as the code holds them.
use Rattle.std.specs.Prelude.{ℕ, List, ◌∷◌, ◌++◌, drop, map, reverse}
use Rattle.pj_xvalue.specs.Items.{ItemValue, values_of}
use Rattle.pj_xsteps.specs.Context.{Variables}
use Rattle.pj_xframes.specs.declared.scope.Binding.{Binding}

-- the variables that expressions bind, the last one first, and those that are given
pub record Scoped : Type 0 where
  pub bound : Variables
  pub given : Variables

abbrev pub variables_of : Scoped → Variables
variables_of scope = scope.bound ++ scope.given

-- with one more
abbrev pub with_variable : List ℕ → List ItemValue → Scoped → Scoped
with_variable name items scope = record { bound = (name, items) ∷ scope.bound; given = scope.given }

-- without the last so many that were bound
abbrev pub without : ℕ → Scoped → Scoped
without count scope = record { bound = drop count scope.bound; given = scope.given }

abbrev pub binding_value : Binding → List ℕ × List ItemValue
binding_value binding = (binding.name.now, values_of binding.value)

abbrev pub bound_of : List Binding → Variables
bound_of bindings = map binding_value (reverse bindings)
