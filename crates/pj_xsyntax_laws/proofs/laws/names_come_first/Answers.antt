use Rattle.pj_xderive.specs.Expressions.{place_of}
use Rattle.pj_xsyntax_laws.specs.Order.{offset_at}
use Rattle.pj_xsyntax_laws.specs.Every.{given}
use Rattle.pj_xsyntax_laws.proofs.Firsts.{faults_below}
use Rattle.pj_xsyntax_laws.proofs.NamedFirst.{names_below}
use Rattle.pj_xsyntax_laws.proofs.laws.names_come_first.Goals as goal

pub returns-clause-names : goal.returns-clause-names
returns-clause-names c = λ total text tokens end a fault read say is_fault.
    let (run, ends, reads) = c.sayings_end_with_runs.ensures.led tokens a say in
    names_below c.gaps_stand_in_front.ensures c.tokens_are_not_empty.ensures total text tokens end a read run ends reads c.runs_end_before_faults.ensures fault
    (c.outcomes_are_read.ensures.led tokens fault is_fault)

pub returns-clause-faults : goal.returns-clause-faults
returns-clause-faults c = λ total text tokens end a fault variables named read say is_fault has.
    let (run, ends, reads) = c.sayings_end_with_runs.ensures.led tokens a say in
    faults_below (offset_at tokens end (place_of tokens fault)) (given variables) a.names named
    (names_below c.gaps_stand_in_front.ensures c.tokens_are_not_empty.ensures total text tokens end a read run ends reads c.runs_end_before_faults.ensures fault
    (c.outcomes_are_read.ensures.led tokens fault is_fault)) has
