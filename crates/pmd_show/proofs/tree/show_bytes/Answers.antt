use Rattle.pmd_show.proofs.Parsed.{has_pool}
use Rattle.pmd_show.proofs.tree.show_bytes.Goals as goal

pub show_parsed-requires-clause-pool : goal.show_parsed-requires-clause-pool
show_parsed-requires-clause-pool g c = has_pool c.as_slice.result.now c.in-Ok.source c.in-Ok-parse_file.parsed (c.in-Ok-parse_file.ensures.file c.as_slice.result.now c.in-Ok.ensures)
