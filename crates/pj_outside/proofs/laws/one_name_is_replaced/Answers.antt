use Rattle.pj_outside.proofs.Keepers.{bytes_at-replaced, bytes_at-others}
use Rattle.pj_outside.proofs.laws.one_name_is_replaced.Goals as goal

pub returns : goal.returns
returns c = record { new = λ held name bytes. bytes_at-replaced name bytes held; rest = λ held name bytes other differ. bytes_at-others name bytes other held differ }
