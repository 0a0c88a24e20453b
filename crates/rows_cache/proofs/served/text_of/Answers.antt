use Rattle.pj_cache_format.proofs.Split.{answers_sorted}
use Rattle.rows_cache.proofs.served.text_of.Goals as goal

pub served-requires : goal.served-requires
served-requires c = answers_sorted c.args.cache.now c.requires
