-- Answers that a part has.
use Rattle.std.specs.Prelude.{◌≡◌, ℕ, List}
use Rattle.std.specs.declared.sync.Arc.{Arc}
use Rattle.std.specs.declared.alloc.Global.{Global}
use mathlib.Core.Option.{some}
use lib.ListN.{get_elem?}
use Rattle.pj_names.specs.declared.answer.Answer.{Answer}
use Rattle.pj_names.specs.ClassName.{Name}
use Rattle.pj_table.specs.declared.view.Entry.{Entry}

-- An entry of this name has this shared answer.
abbrev pub HasAnswer : List Entry → Name → Arc Answer Global → Type 0
HasAnswer es name answer = (k : ℕ) × (e : Entry) × (get_elem? es k ≡ some e) × (e.name ≡ name) × (e.answer ≡ answer)
