use Rattle.pj_rules.proofs.TopFacts.{no_patterns, top_ended}
use Rattle.pj_rules.proofs.top.top_of.Goals as goal

pub returns-in-Some : goal.returns-in-Some
returns-in-Some c = λ files path ended.
    top_ended files path c.args.file c.in_ok-list.list c.in-Some.patterns ended c.in_ok-list.ensures c.in-Some.is

pub returns : goal.returns
returns c = λ files path ended. absurd (no_patterns files path c.args.file ended c.in-None.is)
