use Rattle.std.proofs.Common.{◌∙◌, ◌<◌, ℕ, List, ap, length, rules, subst, sym}
use Rattle.std.proofs.lemmas.List.{length-set}
use Rattle.pj_crew.specs.Placing.{AreBelow, put_all}
use Rattle.pj_crew.proofs.placing.put_share.Goals as goal

pub bounds-places-file : goal.bounds-places-file
bounds-places-file g c = (subst (λ (l : List (ℕ × g.row.M.Denot)). AreBelow (length c.loop-file.places) l) c.in-Some.ensures.steps.0 c.loop-file.invariant.below).0

pub offset_bounds-places-file : goal.offset_bounds-places-file
offset_bounds-places-file g c =
    let there = (subst (λ (l : List (ℕ × g.row.M.Denot)). AreBelow (length c.loop-file.places) l) c.in-Some.ensures.steps.0 c.loop-file.invariant.below).0 in
    let below : c.in-Some.file < length c.args.places.now = subst (λ (n : ℕ). c.in-Some.file < n) c.loop-file.auto.places there in
    search rules

pub loop-file-preserved : goal.loop-file-preserved
loop-file-preserved g c =
    let steps = c.in-Some.ensures.steps.0 in
    let all = subst (λ (l : List (ℕ × g.row.M.Denot)). AreBelow (length c.loop-file.places) l) steps c.loop-file.invariant.below in
    record {
      value = sym (ap (λ (l : List (ℕ × g.row.M.Denot)). put_all c.loop-file.places l) steps) ∙ c.loop-file.invariant.value;
      below = subst (λ (n : ℕ). AreBelow n c.next.new.self.rest.items) (sym (length-set c.loop-file.places c.in-Some.file _)) all.1;
    }
