-- The table of the choices of the parser.
use Rattle.std.specs.Prelude.{◌≡◌, ℕ, ◌+◌, ◌⊎◌, Bool, true, List, [], Option, Some, None, slice_get, slice_index_or, Vec}
use Rattle.std.specs.Option.{option_map, unwrap_or}
use Rattle.std.specs.Global.{Global}
use Rattle.pj_ll.specs.Grammar.{Entry}
use Rattle.pj_ll.specs.Predictive.{IsIn, IsChosenAt}

-- the column of the choices at a terminal, or at the end
abbrev pub column_of : Option ℕ → ℕ
column_of None = 0
column_of (Some t) = t + 1

-- what a row has in a column: nothing, where it is shorter
abbrev pub cell : List (Option ℕ) → ℕ → Option ℕ
cell row c = slice_index_or row c None

-- the row of a rule: an empty one, where there are fewer
abbrev pub row_at : List (Vec (Option ℕ) Global) → ℕ → List (Option ℕ)
row_at rows n = unwrap_or (option_map (λ (row : Vec (Option ℕ) Global). row.items) (slice_get rows n)) []

abbrev pub choice_in : List (Vec (Option ℕ) Global) → ℕ → Option ℕ → Option ℕ
choice_in rows n a = cell (row_at rows n) (column_of a)

-- the production is now chosen at these terminals, and at the end if it ends; elsewhere nothing changed
pub record AddsChoices (on : List ℕ) (at_end : Bool) (number : ℕ) (old new : List (Option ℕ)) : Type 0 where
  pub sets : (t : ℕ) → IsIn on t → cell new (t + 1) ≡ Some number
  pub sets_end : at_end ≡ true → cell new 0 ≡ Some number
  pub only : (t : ℕ) → (cell new (t + 1) ≡ cell old (t + 1)) ⊎ ((cell new (t + 1) ≡ Some number) × IsIn on t)
  pub only_end : (cell new 0 ≡ cell old 0) ⊎ ((cell new 0 ≡ Some number) × (at_end ≡ true))

-- the choice is a production of the rule that is chosen there, and there is none only where no production is
abbrev pub IsChoice : List Entry → ℕ → Option ℕ → Option ℕ → Type 0
IsChoice productions n a None = (p : ℕ) (x : Entry) → slice_get productions p ≡ Some x → x.rule ≡ n → IsChosenAt x a → ⊥
IsChoice productions n a (Some p) = (x : Entry) × (slice_get productions p ≡ Some x) × (x.rule ≡ n) × IsChosenAt x a

-- the rows have a choice for each rule at each terminal and at the end
pub record AreChoices (productions : List Entry) (rows : List (Vec (Option ℕ) Global)) : Type 0 where
  pub choice : (n : ℕ) (a : Option ℕ) → IsChoice productions n a (choice_in rows n a)
