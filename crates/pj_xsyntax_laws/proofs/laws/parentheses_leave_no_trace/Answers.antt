use Rattle.pj_xmeaning.specs.Reads.{parenthesized, inside}
use Rattle.pj_xsyntax_laws.proofs.Expanding.{enclosed_spells}
use Rattle.pj_xsyntax_laws.proofs.Superfluous.{in_parentheses}
use Rattle.pj_xsyntax_laws.proofs.WholeReadings.{reading}
use Rattle.pj_xsyntax_laws.proofs.laws.parentheses_leave_no_trace.Goals as goal

pub returns-clause-operands : goal.returns-clause-operands
returns-clause-operands c = λ depth xs ys zs us a open_ read close_. reading (parenthesized open_ (reading (inside read)) close_)

pub returns-clause-levels : goal.returns-clause-levels
returns-clause-levels c = in_parentheses

pub returns-clause-texts : goal.returns-clause-texts
returns-clause-texts c = enclosed_spells
