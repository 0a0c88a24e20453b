use Rattle.pj_cache_store.proofs.Texts.{read_found, unread_found}
use Rattle.pj_cache_store.proofs.laws.what_is_loaded_is_found.Goals as goal

pub returns : goal.returns
returns c = record { read = read_found; not_read = unread_found }
