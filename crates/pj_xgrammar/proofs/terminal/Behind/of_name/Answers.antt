use Rattle.pj_xgrammar.proofs.Words.{behind_as, behind_of_word, behind_name}
use Rattle.pj_xgrammar.proofs.terminal.Behind.of_name.Goals as goal

pub returns-in-as : goal.returns-in-as
returns-in-as c = record { behind = behind_as _ c.utf8.name c.in-as.is }

pub returns-in-of : goal.returns-in-of
returns-in-of c = record { behind = behind_of_word _ c.utf8.name c.in-of.not-as c.in-of.is }

pub returns-in_default : goal.returns-in_default
returns-in_default c = record { behind = behind_name _ c.utf8.name c.in_default.not-as c.in_default.not-of }
