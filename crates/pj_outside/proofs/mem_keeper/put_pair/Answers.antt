use Rattle.std.proofs.Common.{◌∙◌, ◌<◌, ◌≤◌, ap, length, arith}
use Rattle.std.specs.Prelude.{slice_set}
use Rattle.pj_outside.specs.Files.{Files}
use Rattle.pj_outside.specs.Keeping.{place_of}
use Rattle.pj_outside.proofs.Keepers.{replaced-there, replaced-behind}
use Rattle.pj_outside.proofs.mem_keeper.put_pair.Goals as goal

pub returns-then-place-len-clause-ok : goal.returns-then-place-len-clause-ok
returns-then-place-len-clause-ok c =
    let place = c.place_of-place.ensures ∙ ap (λ (l : Files). place_of l c.args.pair.0) c.as_slice.ensures.value in
    let within : place_of c.args.pairs.now.items c.args.pair.0 < length c.args.pairs.now.items = omega (arith, place, c.if-place-len.true, c.len.ensures, c.args.pairs.now.ok.0) in
    ap (λ k. slice_set c.args.pairs.now.items k (c.args.pair.0, c.args.pair.1)) place ∙ replaced-there c.args.pair.0 c.args.pair.1 c.args.pairs.now.items within

pub returns-in_ok-push-clause-ok : goal.returns-in_ok-push-clause-ok
returns-in_ok-push-clause-ok c =
    let place = c.place_of-place.ensures ∙ ap (λ (l : Files). place_of l c.args.pair.0) c.as_slice.ensures.value in
    let past : length c.args.pairs.now.items ≤ place_of c.args.pairs.now.items c.args.pair.0 = omega (arith, place, c.if-place-len.false, c.len.ensures, c.args.pairs.now.ok.0) in
    c.in_ok-push.ensures.items ∙ replaced-behind c.args.pair.0 c.args.pair.1 c.args.pairs.now.items past
