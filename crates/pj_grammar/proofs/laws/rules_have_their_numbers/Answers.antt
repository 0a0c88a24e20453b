use Rattle.pj_grammar.proofs.IsWellFormed.{rule_count}
use Rattle.pj_grammar.proofs.Numbers.{form_at, shape_at}
use Rattle.pj_grammar.proofs.laws.rules_have_their_numbers.Goals as goal

pub returns : goal.returns
returns c = record { count = rule_count; forms = form_at; shapes = shape_at }
