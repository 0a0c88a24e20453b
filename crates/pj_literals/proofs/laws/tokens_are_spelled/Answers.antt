use Rattle.std.specs.Str.{chars}
use Rattle.pj_literals.proofs.TokenLaws.{all_spelled}
use Rattle.pj_literals.proofs.laws.tokens_are_spelled.Goals as goal

pub returns : goal.returns
returns c = λ at ls x. all_spelled at (chars c.args.text.now) ls x
