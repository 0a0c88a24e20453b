use Rattle.pj_xsyntax_laws.specs.Every.{given}
use Rattle.pj_xsyntax_laws.proofs.Firsts.{has_first, has_none, first_before}
use Rattle.pj_xsyntax_laws.proofs.NamedFirst.{names_ascend}
use Rattle.pj_xsyntax_laws.proofs.laws.first_fault_is_first.Goals as goal

pub returns-clause-is_fault : goal.returns-clause-is_fault
returns-clause-is_fault c = λ variables. has_first (given variables)

pub returns-clause-none : goal.returns-clause-none
returns-clause-none c = λ variables. has_none (given variables)

pub returns-clause-first : goal.returns-clause-first
returns-clause-first c = λ total text tokens end a variables fault other read say.
    let (run, ends, reads) = c.sayings_end_with_runs.ensures.led tokens a say in
    first_before (given variables) a.names fault other (names_ascend c.gaps_stand_in_front.ensures c.tokens_are_not_empty.ensures total text tokens end a read run ends reads)
