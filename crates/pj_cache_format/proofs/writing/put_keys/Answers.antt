use Rattle.std.proofs.Common.{◌+◌, ℕ, List, ◌++◌, length, take, subst, ◌∙◌}
use Rattle.std.specs.List.{All}
use Rattle.std.proofs.lemmas.List.Elements.{All-more}
use Rattle.pj_cache_format.specs.Texts.{number, string}
use Rattle.std.proofs.Common.{ap}
use Rattle.pj_cache_format.proofs.Written.{one_more}
use Rattle.pj_cache_format.specs.Fitting.{HasRoom}
use Rattle.pj_cache_format.proofs.writing.put_keys.Goals as goal

pub loop-key-preserved : goal.loop-key-preserved
loop-key-preserved c =
    let xs = c.args.keys.now in
    let at = c.loop-key.key-index in
    let fit : All (λ (key : List ℕ). HasRoom key) (take (at + 1) xs) = All-more (λ (key : List ℕ). HasRoom key) xs at c.key-item.result c.loop-key-test.true c.loop-key.invariant.fit (subst (λ (key : List ℕ). HasRoom key) (c.as_slice.ensures ∙ c.key-item.is) c.in_ok-put_bytes.ensures.room) in
    let put = one_more string xs at c.key-item.result c.args.out.now.items (number (length xs)) c.loop-key.out.items c.put_bytes.new.out.items c.loop-key-test.true c.key-item.is c.loop-key.invariant.put (c.in_ok-put_bytes.ensures.put ∙ ap (λ (key : List ℕ). c.loop-key.out.items ++ string key) c.as_slice.ensures) in
    record { put = put; fit = fit; room = c.loop-key.invariant.room }
