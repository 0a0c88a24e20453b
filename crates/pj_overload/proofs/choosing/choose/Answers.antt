use Rattle.std.proofs.Common.{sym}
use Rattle.pj_overload.proofs.InsideLaws.{inside-all}
use Rattle.pj_overload.proofs.choosing.choose.Goals as goal

pub returns-clause-asks : goal.returns-clause-asks
returns-clause-asks g c = rw (sym c.in_ok-arguments.ensures, sym c.in_ok-candidates.ensures) c.choice_by_phases.ensures.asks

pub returns-clause-inside : goal.returns-clause-inside
returns-clause-inside g c = inside-all c.choice_by_phases.result c.in_ok-candidates.candidates c.args.candidates.now c.in_ok-candidates.ensures c.choice_by_phases.ensures.inside
