-- What a seat gains by asks in a row.
use Rattle.std.specs.Prelude.{◌≡◌, ℕ, ◌-◌, List, [], ◌++◌, map, length, take, drop}
use Rattle.std.specs.List.{filter}
use Rattle.pj_names.specs.ClassName.{Name}
use Rattle.pj_outside.specs.Doors.{count_and}
use Rattle.pj_table.specs.Names.{part_of}
use Rattle.pj_table.specs.Plays.{Rests}
use Rattle.pj_table.specs.declared.view.Asked.{Asked}
use Rattle.pj_table.specs.declared.view.View.{View}

-- the looks that a seat made since
abbrev pub looks_since : View → View → List Asked
looks_since before after = drop (length before.own.asked) after.own.asked

-- where a look was made, and of which name
abbrev pub made_at : Asked → ℕ × Name
made_at look = (look.part, look.name)

-- where a name lies
abbrev pub lies_at : Name → ℕ × Name
lies_at name = (part_of name, name)

-- Each look is of its name, on the part of the name, in the order of the names.
abbrev pub AreLooksOf : List Name → List Asked → Type 0
AreLooksOf names looks = map made_at looks ≡ map lies_at names

-- The seat asked these names, one after the other: its list has one entry more for each, on the part of the name, and all else
-- that it knows is as it was.
pub record AddsLooks (before after : View) (names : List Name) : Type 0 where
  pub looks : AreLooksOf names (looks_since before after)
  pub own : after.own ≡ record before.own { asked = before.own.asked ++ looks_since before after }
  pub rests : Rests before after

-- the number of fills among looks
abbrev pub count_fills : List Asked → ℕ
count_fills looks = length (filter (λ (look : Asked). look.fill) looks)

-- The count of a door's finds rose by the number of fills among the looks.
abbrev pub CountsFinds : ℕ → ℕ → List Asked → Type 0
CountsFinds old new looks = new ≡ count_and old (count_fills looks)

-- what a seat knows between two calls, when it stands at no part
abbrev pub at_rest : View → View
at_rest view = record view { at = 0; phase = 0; ticket = 0; entries = []; looks = [] }

-- the last looks of a seat, so many
abbrev pub last_looks : ℕ → View → List Asked
last_looks number view = drop (length view.own.asked - number) view.own.asked

-- what a seat knew before its last looks, so many
abbrev pub before_last : ℕ → View → View
before_last number view = record (at_rest view) { own = record view.own { asked = take (length view.own.asked - number) view.own.asked } }
