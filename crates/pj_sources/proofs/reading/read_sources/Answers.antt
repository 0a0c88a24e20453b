use Rattle.std.proofs.Common.{◌≡◌, List, Some, All, sym, subst}
use Rattle.std.specs.Prelude.{MatchResult, Result}
use Rattle.std.proofs.lemmas.Result.{err_from_is_err_and}
use Rattle.pj_outside.specs.Files.{Files, Bytes, bytes_at}
use Rattle.pj_sources.specs.Reading.{AreRead, SaysNoFile, SaysNotRead}
use Rattle.pj_sources.specs.declared.refused.ReadRefused.{ReadRefused}
use Rattle.pj_sources.proofs.ReadingLaws.{refused_path}
use Rattle.pj_sources.proofs.Told.{told_both}
use Rattle.pj_sources.proofs.reading.read_sources.Goals as goal

pub returns-in_err-bytes-clause-read : goal.returns-in_err-bytes-clause-read
returns-in_err-bytes-clause-read g c =
    let paths = c.as_slice-path-items.result.now in
    let exit = err_from_is_err_and c.from_residual.result c.from_residual.ensures.1 in
    told_both (g.T.Tree.holds c.args.tree.now) (g.T.Tree.holds c.loop-path.tree)
    (λ files. All (λ file. bytes_at files file.0 ≡ Some file.1) c.loop-path.read)
    (λ files. SaysNoFile files c.loop-path.together c.path-item.result c.in_err-bytes.field-0.0)
    (λ files. MatchResult c.from_residual.result (AreRead files c.args.paths.now) (SaysNotRead files c.args.paths.now))
    c.loop-path.invariant.same_files
    (λ files held says.
    subst (λ (r : Result Files ReadRefused). MatchResult r (AreRead files c.args.paths.now) (SaysNotRead files c.args.paths.now)) (sym exit.1)
    (subst (λ (refused : ReadRefused). SaysNotRead files c.args.paths.now refused) (sym exit.2)
    (subst (λ (all : List Bytes). SaysNotRead files all c.in_err-bytes.field-0.0) c.as_slice-path-items.ensures
    (refused_path paths c.loop-path.path-index c.path-item.result c.loop-path.read c.loop-path-test.true c.path-item.is files c.in_err-bytes.field-0.0
    (record { within = c.loop-path.invariant.within; bytes_are = held })
    (subst (λ before. SaysNoFile files before c.path-item.result c.in_err-bytes.field-0.0) c.loop-path.invariant.counted says)))))
    c.loop-path.invariant.held
    c.in_err-bytes.ensures.read
