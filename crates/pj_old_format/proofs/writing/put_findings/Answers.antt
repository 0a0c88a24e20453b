use Rattle.std.proofs.Common.{◌+◌, ℕ, List, length, take}
use Rattle.std.specs.List.{All}
use Rattle.std.proofs.lemmas.List.Elements.{All-more}
use Rattle.pj_reports.specs.declared.rows.Finding.{Finding}
use Rattle.pj_cache_format.specs.Texts.{number}
use Rattle.pj_cache_format.proofs.Written.{one_more_at}
use Rattle.pj_old_format.specs.TextOne.{finding_text}
use Rattle.pj_old_format.specs.FittingOne.{FitsFinding}
use Rattle.pj_old_format.proofs.writing.put_findings.Goals as goal

pub loop-finding-preserved : goal.loop-finding-preserved
loop-finding-preserved c =
    let xs = c.args.findings.now in
    let at = c.loop-finding.finding-index in
    let fit : All FitsFinding (take (at + 1) xs) = All-more FitsFinding xs at _ c.loop-finding-test.true c.loop-finding.invariant.fit c.in_ok-put_finding.ensures.room in
    let text : Finding → List ℕ = finding_text in
    let put = one_more_at text xs at _ c.args.out.now.items (number (length xs)) c.loop-finding.out.items c.put_finding.new.out.items c.loop-finding-test.true c.loop-finding.invariant.put c.in_ok-put_finding.ensures.put in
    record { put = put; fit = fit; room = c.loop-finding.invariant.room }
