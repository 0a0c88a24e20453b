use Rattle.std.proofs.Common.{sym}
use Rattle.std.proofs.lemmas.Str.{encodes-chars}
use Rattle.pj_xtokens.proofs.first.as_written.Goals as goal

pub returns : goal.returns
returns c = sym (encodes-chars _ c.utf8.text)
