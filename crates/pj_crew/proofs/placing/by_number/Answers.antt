use Rattle.std.proofs.Common.{◌≡◌, ◌∙◌, ◌++◌, ℕ, List, None, Option, ap, arith, drop, length, subst, sym, take}
use Rattle.std.proofs.lemmas.List.{length-replicate}
use Rattle.pj_seats.specs.declared.worker.Share.{Share}
use Rattle.pj_crew.proofs.Lists.{are_below, left_whole, length_put, next_below, next_put}
use Rattle.pj_crew.specs.Placing.{AreBelow, all_results, put_all}
use Rattle.pj_crew.proofs.placing.by_number.Goals as goal

pub loop-share-init : goal.loop-share-init
loop-share-init g c =
    let all = c.into_iter-share-iterator.ensures.into_iter_gives.0 in let places = c.in_ok-places.ensures in
    let many : c.args.files ≡ length c.in_ok-places.places.items = sym (ap length places ∙ length-replicate c.args.files None) in
    record {
      value = ap (λ (l : List (Share g.row.M.Denot)). put_all c.in_ok-places.places.items (all_results l)) all ∙ ap (λ (l : List (Option g.row.M.Denot)). put_all l (all_results c.args.shares.items)) places;
      below = subst (λ (n : ℕ). AreBelow n (all_results c.into_iter-share-iterator.result.rest.items)) many
          (subst (λ (l : List (Share g.row.M.Denot)). AreBelow c.args.files (all_results l)) (sym all) (are_below c.args.files (all_results c.args.shares.items) c.requires));
    }

pub put_share-requires : goal.put_share-requires
put_share-requires g c =
    subst (λ (l : List (Option g.row.M.Denot)). AreBelow (length l) c.in-Some.share.results.items) (sym c.as_mut_slice.ensures.value)
    (next_below (length c.loop-share.places.items) c.loop-share.share-iterator.rest.items c.next.new.self.rest.items c.in-Some.share c.in-Some.ensures.steps.0 c.loop-share.invariant.below).0

pub loop-share-preserved : goal.loop-share-preserved
loop-share-preserved g c =
    let old = c.loop-share.places.items in let new = c.put_share.new.places in let steps = c.in-Some.ensures.steps.0 in let later = c.next.new.self.rest.items in
    let put : new ≡ put_all old c.in-Some.share.results.items = c.put_share.ensures ∙ ap (λ (l : List (Option g.row.M.Denot)). put_all l c.in-Some.share.results.items) c.as_mut_slice.ensures.value in
    let long : length new ≡ length old = ap length put ∙ length_put old c.in-Some.share.results.items in
    let back : take c.loop-share.places.len (new ++ drop (length new) old) ≡ new = left_whole c.loop-share.places.len new old (let a = c.loop-share.places.ok in omega arith) long in
    record {
      value = next_put old _ _ c.loop-share.share-iterator.rest.items later c.in-Some.share steps (back ∙ put) c.loop-share.invariant.value;
      below = subst (λ (n : ℕ). AreBelow n (all_results later)) (sym (ap length back ∙ long))
          (next_below (length old) c.loop-share.share-iterator.rest.items later c.in-Some.share steps c.loop-share.invariant.below).1;
    }
