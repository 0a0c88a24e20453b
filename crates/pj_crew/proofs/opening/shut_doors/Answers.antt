use Rattle.std.proofs.Common.{◌∙◌, ◌++◌, ◌∷◌, [], ℕ, ap, arith, refl, sym}
use Rattle.std.proofs.lemmas.List.{append-nil, append_assoc}
use Rattle.pj_outside.specs.Doors.{count_and}
use Rattle.pj_outside.specs.Faults.{next_count}
use Rattle.pj_crew.proofs.Doors.{counted_more, takes_more}
use Rattle.pj_crew.proofs.opening.shut_doors.Goals as goal

pub loop-init : goal.loop-init
loop-init g c = record {
  left = omega arith;
  taken = refl;
  so_far = ([], sym (append-nil c.args.doors.items), refl, refl);
  same_given = refl;
  same_folders = refl;
  steady = λ never. never;
}

pub loop-preserved : goal.loop-preserved
loop-preserved g c =
    let kept = c.loop.invariant in let so_far = kept.so_far in let door = c.take_last.result in let shut = c.shut.ensures in
    record {
      left = (let a = c.take_last.ensures.len in let b = kept.left in omega arith);
      taken = shut.counts_taken ∙ ap next_count kept.taken ∙ sym (counted_more c.loop.counter (g.C.ClassPath.taken c.args.classes.now));
      so_far = (
        door ∷ so_far.0,
        so_far.1 ∙ ap (λ l. l ++ so_far.0) c.take_last.ensures.items ∙ append_assoc c.take_last.new.self.items (door ∷ []) so_far.0,
        shut.counts_finds ∙ ap (λ (n : ℕ). count_and n (g.C.Door.ClassDoor.finds door)) so_far.2,
        takes_more _ _ _ (g.C.Door.ClassDoor.faults door) _ so_far.3 shut.counts_faults,
      );
      same_given = shut.same_given ∙ kept.same_given;
      same_folders = shut.same_folders ∙ kept.same_folders;
      steady = λ never. shut.steady (kept.steady never);
    }
