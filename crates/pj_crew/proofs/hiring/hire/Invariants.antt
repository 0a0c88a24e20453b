use Rattle.std.proofs.Common.{◌≡◌, ◌+◌, ◌++◌, ◌≤◌, reverse, vec_len, vec_capacity}
use Rattle.pj_table.specs.Seats.{IsSameSeat, view_of}
use Rattle.pj_crew.specs.Crew.{AreSeatedFrom, doors_of, with_numbers_given}
use Rattle.pj_crew.proofs.hiring.hire.Given as goal

abbrev pub invariant-loop : goal.invariant-loop
invariant-loop g l = record {
  table : IsSameSeat l.initial.seat l.seat;
  counted : view_of l.seat ≡ with_numbers_given l.counter (view_of l.initial.seat);
  doors : l.initial.doors.items ≡ l.doors.items ++ reverse (doors_of l.workers.items);
  left : vec_len l.doors + l.counter ≡ vec_len l.initial.doors;
  many : vec_len l.workers ≡ l.counter;
  same_room : vec_capacity l.doors ≡ vec_capacity l.initial.doors;
  room : vec_len l.initial.doors ≤ vec_capacity l.workers;
  seated : AreSeatedFrom l.table (view_of l.initial.seat) 0 l.workers.items;
}
