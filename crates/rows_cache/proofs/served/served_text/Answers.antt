use Rattle.pj_cache_format.proofs.Split.{paths_sorted}
use Rattle.rows_cache.proofs.served.served_text.Goals as goal

pub find-requires : goal.find-requires
find-requires c = paths_sorted c.args.cache.now c.requires
