-- One part as plain lists: its entries in the order of their fills, and its history.
use Rattle.std.specs.Prelude.{◌≡◌, ℕ, ◌+◌, ◌<◌, List, [], ◌∷◌, ◌++◌, map, filter, length, cond, ◌==◌, Bool, MatchBool, ◌≢◌}
use mathlib.Core.Option.{some}
use lib.ListN.{get_elem?}
use Rattle.std.specs.Arc.{arc_value}
use Rattle.pj_names.specs.ClassName.{Name}
use Rattle.pj_table.specs.Worlds.{World, IsAnswer}
use Rattle.pj_table.specs.declared.view.Entry.{Entry}
use Rattle.pj_table.specs.declared.view.Look.{Look}
use Rattle.pj_table.specs.declared.view.Asked.{Asked}

-- the number of fills, n of them before
abbrev pub next : ℕ → Look → ℕ
next n l = cond l.fill (n + 1) n

-- a fill has as place the number of fills before it, and a hit a smaller one
abbrev pub Fits : ℕ → Look → Type 0
Fits n l = MatchBool l.fill (l.place ≡ n) (l.place < n)

abbrev pub fills : ℕ → List Look → ℕ
fills n [] = n
fills n (l ∷ ls) = fills (next n l) ls

abbrev pub IsLegal : ℕ → List Look → Type 0
IsLegal n [] = Unit {0}
IsLegal n (l ∷ ls) = Fits n l × IsLegal (next n l) ls

abbrev pub look_of : ℕ → Asked → Look
look_of number a = record { seat = number; place = a.place; fill = a.fill }

abbrev pub looks_of : ℕ → List Look → List Look
looks_of number ls = filter (λ (l : Look). l.seat == number) ls

-- a legal history over these entries, which differ in name and have the world's answers
pub record IsSound (world : World) (es : List Entry) (ls : List Look) : Type 0 where
  pub legal : IsLegal 0 ls
  pub filled : fills 0 ls ≡ length es
  pub answers : (k : ℕ) (e : Entry) → get_elem? es k ≡ some e → IsAnswer world e.name (arc_value e.answer)
  pub apart : (j k : ℕ) (d e : Entry) → get_elem? es j ≡ some d → get_elem? es k ≡ some e → d.name ≡ e.name → j ≡ k

-- what was asked under a number is what the history has of it, and each look stands at the place of its name
pub record IsTold (es : List Entry) (ls : List Look) (number : ℕ) (asked : List Asked) : Type 0 where
  pub same : looks_of number ls ≡ map (look_of number) asked
  pub named : (k : ℕ) (a : Asked) → get_elem? asked k ≡ some a → (e : Entry) × (get_elem? es a.place ≡ some e) × (e.name ≡ a.name)

-- one look of the seat more, under its number: a hit, or a fill with its entry
pub record Grows (world : World) (number : ℕ) (es : List Entry) (ls : List Look) (a : Asked) (es' : List Entry) (ls' : List Look) : Type 0 where
  pub look : ls' ≡ ls ++ look_of number a ∷ []
  pub kept : (k : ℕ) (e : Entry) → get_elem? es k ≡ some e → get_elem? es' k ≡ some e
  pub named : (e : Entry) × (get_elem? es' a.place ≡ some e) × (e.name ≡ a.name)
  pub good : IsSound world es' ls'

abbrev pub asked : ℕ → ℕ → Bool → Name → Asked
asked part place fill name = record { part = part; place = place; fill = fill; name = name }

abbrev pub Stands : List Entry → ℕ → Name → Type 0
Stands es k name = (e : Entry) × (get_elem? es k ≡ some e) × (e.name ≡ name)

abbrev pub Lacks : List Entry → Name → Type 0
Lacks es name = (k : ℕ) (e : Entry) → get_elem? es k ≡ some e → e.name ≢ name
