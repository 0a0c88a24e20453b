use Rattle.pj_xsyntax_laws.proofs.NamedFirst.{names_ascend}
use Rattle.pj_xsyntax_laws.proofs.laws.mentions_ascend.Goals as goal

pub returns : goal.returns
returns c = λ total text tokens end a read say.
    let (run, ends, reads) = c.sayings_end_with_runs.ensures.led tokens a say in
    names_ascend c.gaps_stand_in_front.ensures c.tokens_are_not_empty.ensures total text tokens end a read run ends reads
