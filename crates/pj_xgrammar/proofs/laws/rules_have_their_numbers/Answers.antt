use Rattle.pj_xgrammar.proofs.Numbers.{rule_at, line_count}
use Rattle.pj_xgrammar.proofs.laws.rules_have_their_numbers.Goals as goal

pub returns : goal.returns
returns c = record { rules = rule_at; count = line_count }
