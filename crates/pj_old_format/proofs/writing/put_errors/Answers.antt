use Rattle.std.proofs.Common.{◌+◌, ℕ, List, length, take, subst}
use Rattle.std.specs.List.{All}
use Rattle.std.proofs.lemmas.List.Elements.{All-more}
use Rattle.pj_reports.specs.declared.rows.FileError.{FileError}
use Rattle.pj_cache_format.specs.Texts.{number}
use Rattle.pj_cache_format.proofs.Written.{one_more}
use Rattle.pj_old_format.specs.TextOne.{error_text}
use Rattle.pj_old_format.specs.FittingOne.{FitsError}
use Rattle.pj_old_format.proofs.writing.put_errors.Goals as goal

pub loop-error-preserved : goal.loop-error-preserved
loop-error-preserved c =
    let xs = c.args.errors.now in
    let at = c.loop-error.error-index in
    let fit : All FitsError (take (at + 1) xs) = All-more FitsError xs at c.error-item.result c.loop-error-test.true c.loop-error.invariant.fit (subst FitsError c.error-item.is c.in_ok-put_error.ensures.room) in
    let text : FileError → List ℕ = error_text in
    let put = one_more text xs at c.error-item.result c.args.out.now.items (number (length xs)) c.loop-error.out.items c.put_error.new.out.items c.loop-error-test.true c.error-item.is c.loop-error.invariant.put c.in_ok-put_error.ensures.put in
    record { put = put; fit = fit; room = c.loop-error.invariant.room }
