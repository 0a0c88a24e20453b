-- Facts that an oracle over a seat has of the table, the seat and the door. Each has one proof at most.
use Rattle.std.specs.Prelude.{◌≡◌, IsTrue, Bool, is_some}
use Rattle.std.specs.Coded.{Coded, Coded-set, coded_list, coded_option, coded×, coded_ℕ}
use Rattle.std.specs.BTreeMap.{BTreeMap, get}
use Rattle.std.specs.Cmp.Lexicographic.{slice_cmp}
use Rattle.std.specs.Ordering.{nat_cmp}
use Rattle.std.specs.FinSet as set
use Rattle.std.specs.declared.sync.Arc.{Arc}
use Rattle.std.specs.declared.alloc.Global.{Global}
use Rattle.atomic_table.specs.Seated.{table_id_coded}
use Rattle.pj_names.specs.declared.answer.Answer.{Answer}
use Rattle.pj_names.specs.ClassName.{Name, NameSet}
use Rattle.pj_table.specs.Seats.{IsOf}
use Rattle.pj_table.specs.Worlds.{World}
use Rattle.pj_table.specs.declared.seat.TableSeat.{TableSeat}
use Rattle.pj_table.specs.declared.seat.TypeTable.{TypeTable}

-- The answers of the map are those of these names, all of them.
abbrev pub AreAllHeld : NameSet → BTreeMap Name (Arc Answer Global) → Type 0
AreAllHeld names answers = (name : Name) → set.contains names name ≡ is_some (get (slice_cmp nat_cmp) answers name)

pub is_of_prop : (table : TypeTable) (seat : TableSeat) → IsProp (IsOf table seat)
is_of_prop table seat = Coded-set table_id_coded seat.seat.table_id table.table.shared.table_id

world_coded : Coded World
world_coded = coded_option (coded_list (coded_list (coded× (coded_list coded_ℕ) (coded_list coded_ℕ))))

pub same_world_prop : (one other : World) → IsProp (one ≡ other)
same_world_prop one other = Coded-set world_coded one other
