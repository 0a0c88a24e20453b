use Rattle.std.proofs.Common.{sym}
use Rattle.pj_cache_reading.proofs.Texts.{is_text, is_no_text}
use Rattle.pj_old_reading.proofs.fields.is_text.Goals as goal

pub returns-in-Ok : goal.returns-in-Ok
returns-in-Ok c = sym (is_text _ c.in-Ok.ensures.cases.1)

pub returns-in-Err : goal.returns-in-Err
returns-in-Err c = sym (is_no_text _ c.in-Err.ensures.cases.0)
