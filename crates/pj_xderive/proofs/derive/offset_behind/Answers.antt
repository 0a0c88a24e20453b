use Rattle.std.proofs.Common.{◌+◌, List, ℕ, length, sym, ap}
use Rattle.std.proofs.lemmas.Str.{encodes-chars}
use Rattle.pj_xderive.proofs.derive.offset_behind.Goals as goal

pub returns : goal.returns
returns c = ap (λ (bytes : List ℕ). c.args.from + length bytes) (sym (encodes-chars _ c.utf8.text))
