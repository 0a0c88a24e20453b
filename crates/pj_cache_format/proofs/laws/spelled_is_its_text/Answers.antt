use Rattle.pj_cache_format.proofs.Split.{whole_order, whole_fits}
use Rattle.pj_cache_format.proofs.StoredLaws.{stored_text}
use Rattle.pj_cache_format.proofs.laws.spelled_is_its_text.Goals as goal

pub returns : goal.returns
returns c bytes cache numbers stored =
    let h = stored_text bytes cache numbers stored in
    (whole_order cache h.0, whole_fits cache h.0, h.1)
