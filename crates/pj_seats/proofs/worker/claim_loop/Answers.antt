use Rattle.std.proofs.Common.{◌≡◌, ◌∙◌, ◌<◌, ◌^◌, ℕ, refl, rules, subst, sym}
use Rattle.pj_table.specs.Seats.{view_of}
use Rattle.pj_table.specs.Worlds.{World}
use Rattle.pj_seats.specs.Working.{IsMadeOf, IsShare}
use Rattle.pj_seats.proofs.Working.{share_end, share_more, share_none}
use Rattle.pj_seats.proofs.worker.claim_loop.Goals as goal

pub claim-requires : goal.claim-requires
claim-requires g c = c.loop.invariant.table.0 ∙ c.requires.table

pub loop-init : goal.loop-init
loop-init g c =
    let world = g.D.ClassFinder.holds c.args.station.now.door in let comes = g.W.FileWork.comes c.args.work.now in let v = view_of c.args.station.now.seat in let count = g.D.ClassFinder.finds c.args.station.now.door in
    let fits : c.count_found-finds.result < 2 ^ 64 = search rules in
    record {
      next = tt;
      finite = tt;
      table = (refl, refl);
      same_folders = refl;
      share = subst (λ l. IsShare world comes v v count count l) (sym c.new-results.ensures.items) (share_none world comes v count (subst (λ (n : ℕ). n < 2 ^ 64) c.count_found-finds.ensures fits));
      same_faults = refl;
    }

pub loop-preserved : goal.loop-preserved
loop-preserved g c =
    let world = g.D.ClassFinder.holds c.args.station.now.door in let comes = g.W.FileWork.comes c.args.work.now in let finds = g.D.ClassFinder.finds in let a = view_of c.args.station.now.seat in
    let kept = c.loop.invariant in let claim = c.in-Some-claim.ensures in let one = c.in-Ok.ensures in let n = c.in-Some-claim.file in let made = c.in-Ok.made in
    let new = view_of c.work_at.new.station.seat in
    let made_so : IsMadeOf world (comes n) made one.made.0 = subst (λ (w : World). IsMadeOf w (comes n) made one.made.0) kept.same_folders one.made.1 in
    record {
      next = tt;
      finite = tt;
      table = (one.table.0 ∙ claim.table.0 ∙ kept.table.0, one.table.1 ∙ claim.table.1 ∙ kept.table.1);
      same_folders = one.same_folders ∙ kept.same_folders;
      share = subst (λ l. IsShare world comes a new (finds c.args.station.now.door) (finds c.work_at.new.station.door) l) (sym c.in_ok-push.ensures.items)
          (share_more world comes a (view_of c.loop.station.seat) (view_of c.claim.new.seat) new (finds c.args.station.now.door) (finds c.loop.station.door) (finds c.work_at.new.station.door) n made one.made.0 c.loop.results.items claim.some.2 kept.share made_so one.made.2 one.finds);
      same_faults = one.faults ∙ kept.same_faults;
    }
