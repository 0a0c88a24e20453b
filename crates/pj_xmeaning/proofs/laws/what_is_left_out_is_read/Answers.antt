use Rattle.pj_xmeaning.proofs.Begun.{left_out_is_read, read_is_left_out}
use Rattle.pj_xmeaning.proofs.laws.what_is_left_out_is_read.Goals as goal

pub returns : goal.returns
returns c = record { read = left_out_is_read c.rules_have_their_numbers.ensures.rules; led = read_is_left_out c.rules_have_their_numbers.ensures.rules }
