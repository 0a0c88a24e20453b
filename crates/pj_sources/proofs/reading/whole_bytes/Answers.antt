use Rattle.std.proofs.Common.{◌∙◌, sym, subst, arith}
use Rattle.pj_outside.specs.Files.{IsAtMost}
use Rattle.pj_outside.specs.declared.refused.Reading.{Reading}
use Rattle.pj_sources.specs.Limits.{most_file_bytes}
use Rattle.pj_sources.specs.Reading.{too_much}
use Rattle.pj_sources.proofs.ReadingLaws.{missing_says, too_long_says}
use Rattle.pj_sources.proofs.Told.{absent_read, longer_read, whole_read}
use Rattle.pj_sources.proofs.reading.whole_bytes.Goals as goal

pub returns-in-Absent-clause-read : goal.returns-in-Absent-clause-read
returns-in-Absent-clause-read c = λ files e. missing_says files c.args.before c.args.path.now c.missing.result (absent_read files c.args.path.now most_file_bytes (sym e ∙ c.in-Absent.is)) c.missing.ensures

pub returns-in-Longer-clause-read : goal.returns-in-Longer-clause-read
returns-in-Longer-clause-read c = λ files e. too_long_says files c.args.before c.args.path.now c.too_long.result (longer_read files c.args.path.now most_file_bytes (sym e ∙ c.in-Longer.is)) c.too_long.ensures

pub returns-then-len-before-clause-read : goal.returns-then-len-before-clause-read
returns-then-len-before-clause-read c = λ files e. too_much c.in-Whole.bytes (whole_read files c.args.path.now c.in-Whole.bytes most_file_bytes (sym e ∙ c.in-Whole.is)) (subst (λ (r : Reading). IsAtMost most_file_bytes r) c.in-Whole.is c.requires.within) (omega arith)
