use Rattle.std.specs.FinSet as set
use Rattle.pj_left_cache.specs.Leaving.{left_cache}
use Rattle.pj_table.specs.Telling.{tells_of}
use Rattle.pj_shared_files.proofs.Finally.{made_by}
use Rattle.pj_shared_files.proofs.together.cache_of.Goals as goal

pub returns-in-Ok-clause-asks : goal.returns-in-Ok-clause-asks
returns-in-Ok-clause-asks g c = made_by (left_cache c.args.entries) (tells_of tt g.W.Knowing.world set.empty 0) _ _ c.in-Ok.cache c.new-oracle.ensures c.in-Ok.ensures.asks
