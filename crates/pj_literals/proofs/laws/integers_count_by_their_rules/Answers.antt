use Rattle.std.specs.Str.{chars}
use Rattle.pj_literals.proofs.RuleLaws.{decimal, hexadecimal, octal, binary}
use Rattle.pj_literals.proofs.laws.integers_count_by_their_rules.Goals as goal

pub returns : goal.returns
returns c = record {
  decimal = λ n s x. decimal (chars c.args.text.now) n s x;
  hexadecimal = hexadecimal (chars c.args.text.now);
  octal = octal (chars c.args.text.now);
  binary = binary (chars c.args.text.now);
}
