use Rattle.std.specs.Str.{chars}
use Rattle.pj_source.proofs.WrittenLaws.{past_escape}
use Rattle.pj_source.proofs.source.translation.Translation.place_behind.Goals as goal

pub returns-then-front-clause-past : goal.returns-then-front-clause-past
returns-then-front-clause-past c = λ eligible text f. past_escape eligible text c.args.front.now.character c.args.front.now.length c.args.front.now.escaped (chars c.args.front.now.behind.now) c.args.self.now.place f c.if-front.true
