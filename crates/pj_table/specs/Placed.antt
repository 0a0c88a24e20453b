-- Each name that a view has asked lies in the part where it was asked.
use Rattle.std.specs.Prelude.{◌≡◌, ℕ}
use mathlib.Core.Option.{some}
use lib.ListN.{get_elem?}
use Rattle.pj_table.specs.Names.{part_of}
use Rattle.pj_table.specs.declared.view.Asked.{Asked}
use Rattle.pj_table.specs.declared.view.Line.{Line}
use Rattle.pj_table.specs.declared.view.View.{View}

abbrev pub AtHome : Line → Type 0
AtHome l = (k : ℕ) (a : Asked) → get_elem? l.asked k ≡ some a → a.part ≡ part_of a.name

abbrev pub Placed : View → Type 0
Placed v = AtHome v.own × ((j : ℕ) (l : Line) → get_elem? v.joined j ≡ some l → AtHome l)
