use Rattle.std.proofs.Common.{◌+◌, ℕ, List, take, subst}
use Rattle.std.specs.List.{All}
use Rattle.std.proofs.lemmas.List.Elements.{All-more}
use Rattle.std.proofs.Common.{[]}
use Rattle.pj_cache.specs.declared.cache.KeyRows.{KeyRows}
use Rattle.pj_cache_format.specs.TextTwo.{rows_text}
use Rattle.pj_cache_format.proofs.Written.{one_more}
use Rattle.pj_cache_format.specs.Fitting.{FitsKeyRows}
use Rattle.pj_cache_format.proofs.writing.put_group.Goals as goal

pub loop-member-preserved : goal.loop-member-preserved
loop-member-preserved c =
    let xs = c.args.group.now in
    let at = c.loop-member.member-index in
    let fit : All (FitsKeyRows) (take (at + 1) xs) = All-more (FitsKeyRows) xs at (c.member-item.result) c.loop-member-test.true c.loop-member.invariant.fit (subst (FitsKeyRows) c.member-item.is c.in_ok-put_rows.ensures.room) in
    let text : KeyRows → List ℕ = λ (k : KeyRows). rows_text k.rows in
    let put = one_more text xs at c.member-item.result c.args.out.now.items ([]) c.loop-member.out.items c.put_rows.new.out.items c.loop-member-test.true c.member-item.is c.loop-member.invariant.put c.in_ok-put_rows.ensures.put in
    record { put = put; fit = fit }
