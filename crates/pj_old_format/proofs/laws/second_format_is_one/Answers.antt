use Rattle.pj_old_format.proofs.AnyLaws.{any_is_stored, stored_is_any}
use Rattle.pj_old_format.proofs.laws.second_format_is_one.Goals as goal

pub returns : goal.returns
returns c bytes cache numbers = (any_is_stored bytes cache numbers, stored_is_any bytes cache numbers)
