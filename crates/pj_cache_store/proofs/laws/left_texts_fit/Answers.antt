use Rattle.pj_cache_store.proofs.Texts.{left_text_fits}
use Rattle.pj_cache_store.proofs.laws.left_texts_fit.Goals as goal

pub returns : goal.returns
returns g c = λ files. left_text_fits files
