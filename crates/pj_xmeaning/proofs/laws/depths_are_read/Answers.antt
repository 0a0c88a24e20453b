use Rattle.pj_xmeaning.proofs.Begun.{deep_is_read, read_is_deep}
use Rattle.pj_xmeaning.proofs.laws.depths_are_read.Goals as goal

pub returns : goal.returns
returns c = record { read = deep_is_read c.rules_have_their_numbers.ensures.rules; led = read_is_deep c.rules_have_their_numbers.ensures.rules }
