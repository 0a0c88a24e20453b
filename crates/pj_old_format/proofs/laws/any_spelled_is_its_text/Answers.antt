use Rattle.pj_old_format.proofs.Split.{any_to}
use Rattle.pj_old_format.proofs.AnyLaws.{any_text}
use Rattle.pj_old_format.proofs.laws.any_spelled_is_its_text.Goals as goal

pub returns : goal.returns
returns c bytes stored numbers spelled =
    let h = any_text bytes stored numbers spelled in
    (any_to stored h.0, h.1)
