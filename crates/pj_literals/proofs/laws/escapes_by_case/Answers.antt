use Rattle.std.specs.Str.{chars}
use Rattle.pj_literals.proofs.EscapeCases.{plain, letter, octal, continued, unescaped}
use Rattle.pj_literals.proofs.laws.escapes_by_case.Goals as goal

pub returns : goal.returns
returns c = record {
  plain = λ d n. plain d (chars c.args.behind.now) n;
  letter = λ d h. letter d (chars c.args.behind.now) h;
  octal = λ digits m w. octal digits (chars c.args.behind.now) m w;
  continued = continued (chars c.args.behind.now);
  unescaped = λ h. unescaped (chars c.args.behind.now) h;
}
