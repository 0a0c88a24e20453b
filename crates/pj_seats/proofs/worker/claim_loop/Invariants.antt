use Rattle.std.proofs.Common.{◌≡◌}
use Rattle.pj_table.specs.Seats.{IsSameSeat, view_of}
use Rattle.pj_seats.specs.Working.{IsShare}
use Rattle.pj_seats.proofs.worker.claim_loop.Given as goal

abbrev pub invariant-loop : goal.invariant-loop
invariant-loop g l = record {
  next : (goal.iterator-loop g).can_next l.iterator';
  finite : (goal.iterator-loop g).is_finite l.iterator';
  table : IsSameSeat l.initial.station.seat l.station.seat;
  same_folders : g.D.ClassFinder.holds l.station.door ≡ g.D.ClassFinder.holds l.initial.station.door;
  share : IsShare (g.D.ClassFinder.holds l.initial.station.door) (g.W.FileWork.comes l.work) (view_of l.initial.station.seat) (view_of l.station.seat) (g.D.ClassFinder.finds l.initial.station.door) (g.D.ClassFinder.finds l.station.door) l.results.items;
  same_faults : g.D.ClassFinder.faults l.station.door ≡ g.D.ClassFinder.faults l.initial.station.door;
}
