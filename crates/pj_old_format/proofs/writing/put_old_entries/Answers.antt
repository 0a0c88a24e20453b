use Rattle.std.proofs.Common.{◌+◌, ℕ, List, length, take, map, subst}
use Rattle.std.specs.List.{All}
use Rattle.std.proofs.lemmas.List.Elements.{All-more}
use Rattle.pj_cache.specs.declared.old.OldEntry.{OldEntry}
use Rattle.pj_cache_format.specs.Texts.{number}
use Rattle.pj_cache_format.proofs.Written.{one_more}
use Rattle.pj_old_format.specs.TextOne.{old_entry_text}
use Rattle.pj_old_format.specs.FittingOne.{FitsOldEntry}
use Rattle.pj_old_format.proofs.writing.put_old_entries.Goals as goal

pub loop-entry-preserved : goal.loop-entry-preserved
loop-entry-preserved c =
    let xs = c.args.entries.now in
    let at = c.loop-entry.entry-index in
    let fit : All FitsOldEntry (take (at + 1) xs) = All-more FitsOldEntry xs at c.entry-item.result c.loop-entry-test.true c.loop-entry.invariant.fit (subst FitsOldEntry c.entry-item.is c.in_ok-put_old_entry.ensures.room) in
    let text : OldEntry → List ℕ = old_entry_text (map (λ a. a.0) c.args.answers.now) in
    let put = one_more text xs at c.entry-item.result c.args.out.now.items (number (length xs)) c.loop-entry.out.items c.put_old_entry.new.out.items c.loop-entry-test.true c.entry-item.is c.loop-entry.invariant.put c.in_ok-put_old_entry.ensures.put in
    record { put = put; fit = fit; room = c.loop-entry.invariant.room }
