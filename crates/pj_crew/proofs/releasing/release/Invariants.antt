use Rattle.std.proofs.Common.{◌≡◌, ◌+◌, ◌++◌, ◌≤◌, List, reverse, vec_len, vec_capacity}
use Rattle.pj_table.specs.Seats.{IsSameSeat, view_of}
use Rattle.pj_crew.specs.Crew.{doors_of, ends_of, with_seats_of}
use Rattle.pj_crew.specs.declared.worker.Worker.{Worker}
use Rattle.pj_crew.proofs.releasing.release.Given as goal

abbrev pub invariant-loop : goal.invariant-loop
invariant-loop g l = record {
  table : IsSameSeat l.initial.seat l.seat;
  left : vec_len l.workers + l.counter ≡ vec_len l.initial.workers;
  room : vec_len l.initial.workers ≤ vec_capacity l.doors;
  room_for_ends : vec_len l.initial.workers ≤ vec_capacity l.ends;
  so_far : (gone : List (Worker g.row.D.Denot g.row.M.Denot)) × (l.initial.workers.items ≡ l.workers.items ++ reverse gone) × (view_of l.seat ≡ with_seats_of gone (view_of l.initial.seat)) × (l.doors.items ≡ doors_of gone) × (l.ends.items ≡ ends_of gone);
  many : (vec_len l.doors ≡ l.counter) × (vec_len l.ends ≡ l.counter);
}
