use Rattle.std.proofs.Common.{ℕ, ◌<◌, get_or, arith}
use Rattle.pj_cache_format.proofs.Split.{whole_order}
use Rattle.pj_cache_format.proofs.StoredLaws.{stored_text}
use Rattle.rows_cache.proofs.caches.read.Goals as goal

pub returns-in-Ok : goal.returns-in-Ok
returns-in-Ok c =
    let bytes : (i : ℕ) → get_or c.args.bytes.now i 0 < 256 = λ i. omega (arith, c.type_inv.bytes i) in
    whole_order _ (stored_text c.args.bytes.now _ bytes c.in-Ok.ensures).0
