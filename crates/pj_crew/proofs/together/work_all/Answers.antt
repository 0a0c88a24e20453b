use Rattle.std.proofs.Common.{◌≡◌, ◌∙◌, ◌++◌, ℕ, List, ap, arith, drop, length, reverse, subst, sym, take}
use Rattle.std.specs.List.{All, AllZip}
use Rattle.pj_table.specs.Seats.{view_of}
use Rattle.pj_crew.proofs.Lists.{left_whole}
use Rattle.pj_crew.proofs.Reversed.{zip_by_index}
use Rattle.pj_crew.proofs.Seated.{all_ready, hired_seats, seats_after}
use Rattle.pj_crew.specs.Crew.{AreSeatedAt, HasWorked, IsReady, doors_of, ends_of, with_numbers_given, with_seats_of}
use Rattle.pj_crew.specs.declared.worker.Worker.{Worker}
use Rattle.pj_crew.proofs.together.work_all.Goals as goal

pub run_all-requires-clause-seated : goal.run_all-requires-clause-seated
run_all-requires-clause-seated g c κs within =
    let holds = g.D.ClassDoor.holds in let files = g.W.FileWork.count c.args.work.now in
    subst (λ (l : List (Worker g.row.D.Denot g.row.W-Made.Denot)). All (IsReady c.args.table.now holds files) l) (sym c.as_mut_slice.ensures.value)
    (all_ready c.args.table.now (view_of c.args.seat.now) holds files c.args.doors.now.items c.hire-workers.result.items c.requires.files c.hire-workers.ensures.workers c.requires.world)

pub release-requires-clause-table : goal.release-requires-clause-table
release-requires-clause-table g c =
    let holds = g.D.ClassDoor.holds in let finds = g.D.ClassDoor.finds in let faults = g.D.ClassDoor.faults in let comes = g.W.FileWork.comes c.args.work.now in
    let ws = c.hire-workers.result.items in let vs = c.run_all.new.workers in
    let long : length vs ≡ length ws = c.run_all.ensures.many ∙ ap length c.as_mut_slice.ensures.value in
    let each : AllZip (HasWorked holds finds faults comes) c.as_mut_slice.result.now vs = zip_by_index (HasWorked holds finds faults comes) c.as_mut_slice.result.now vs c.run_all.ensures.many c.run_all.ensures.each in
    let worked = subst (λ (l : List (Worker g.row.D.Denot g.row.W-Made.Denot)). AllZip (HasWorked holds finds faults comes) l vs) c.as_mut_slice.ensures.value each in
    let back : take c.hire-workers.result.len (vs ++ drop (length vs) ws) ≡ vs = left_whole c.hire-workers.result.len vs ws (let a = c.hire-workers.result.ok in omega arith) long in (
      c.hire-workers.ensures.table.0 ∙ c.requires.table.0,
      subst (λ (l : List (Worker g.row.D.Denot g.row.W-Made.Denot)). AreSeatedAt c.args.table.now l) (sym back)
          (seats_after c.args.table.now holds finds faults comes ws vs worked (hired_seats c.args.table.now (view_of c.args.seat.now) c.args.doors.now.items ws c.hire-workers.ensures.workers)),
    )

pub returns-clause-worked : goal.returns-clause-worked
returns-clause-worked g c =
    let holds = g.D.ClassDoor.holds in let finds = g.D.ClassDoor.finds in let faults = g.D.ClassDoor.faults in let comes = g.W.FileWork.comes c.args.work.now in
    let ws = c.hire-workers.result.items in let vs = c.run_all.new.workers in let start = view_of c.args.seat.now in
    let long : length vs ≡ length ws = c.run_all.ensures.many ∙ ap length c.as_mut_slice.ensures.value in
    let each : AllZip (HasWorked holds finds faults comes) c.as_mut_slice.result.now vs = zip_by_index (HasWorked holds finds faults comes) c.as_mut_slice.result.now vs c.run_all.ensures.many c.run_all.ensures.each in
    let back : take c.hire-workers.result.len (vs ++ drop (length vs) ws) ≡ vs = left_whole c.hire-workers.result.len vs ws (let a = c.hire-workers.result.ok in omega arith) long in
    let many : c.args.doors.now.len ≡ length ws = (let a = c.hire-workers.ensures.many in let b = c.hire-workers.result.ok in omega arith) in
    record {
      before_work = ws;
      after_work = vs;
      are_hired = c.hire-workers.ensures.workers;
      each = subst (λ (l : List (Worker g.row.D.Denot g.row.W-Made.Denot)). AllZip (HasWorked holds finds faults comes) l vs) c.as_mut_slice.ensures.value each;
      last_is = c.release.ensures.united ∙ ap (λ (l : List (Worker g.row.D.Denot g.row.W-Made.Denot)). with_seats_of (reverse l) (view_of c.hire-workers.new.seat)) back
          ∙ ap (with_seats_of (reverse vs)) (c.hire-workers.ensures.counted ∙ ap (λ (n : ℕ). with_numbers_given n start) many);
      after_is = c.release.ensures.doors ∙ ap (λ (l : List (Worker g.row.D.Denot g.row.W-Made.Denot)). doors_of (reverse l)) back;
      ends_are = c.release.ensures.ends ∙ ap (λ (l : List (Worker g.row.D.Denot g.row.W-Made.Denot)). ends_of (reverse l)) back;
    }
