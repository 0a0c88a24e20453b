use Rattle.std.proofs.Common.{◌+◌, ℕ, List, length, take, map, subst}
use Rattle.std.specs.List.{All}
use Rattle.std.proofs.lemmas.List.Elements.{All-more}
use Rattle.pj_cache.specs.declared.cache.CachedResult.{CachedResult}
use Rattle.pj_cache_format.specs.Texts.{number}
use Rattle.pj_cache_format.specs.TextTwo.{result_text}
use Rattle.pj_cache_format.proofs.Written.{one_more}
use Rattle.pj_cache_format.specs.Fitting.{FitsResult}
use Rattle.pj_cache_format.proofs.writing.put_results.Goals as goal

pub loop-item-preserved : goal.loop-item-preserved
loop-item-preserved c =
    let xs = c.args.items.now in
    let at = c.loop-item.item-index in
    let fit : All (FitsResult) (take (at + 1) xs) = All-more (FitsResult) xs at (c.item-item.result) c.loop-item-test.true c.loop-item.invariant.fit (subst (FitsResult) c.item-item.is c.in_ok-put_result.ensures.room) in
    let text : CachedResult → List ℕ = result_text c.args.keys.now (map (λ a. a.0) c.args.answers.now) in
    let put = one_more text xs at c.item-item.result c.args.out.now.items (number (length xs)) c.loop-item.out.items c.put_result.new.out.items c.loop-item-test.true c.item-item.is c.loop-item.invariant.put c.in_ok-put_result.ensures.put in
    record { put = put; fit = fit; room = c.loop-item.invariant.room }
