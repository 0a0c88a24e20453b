use Rattle.pj_classfile.proofs.CharLaws.{found, only}
use Rattle.pj_classfile.proofs.laws.texts_are_decoded.Goals as goal

pub returns-clause-found : goal.returns-clause-found
returns-clause-found c = found

pub returns-clause-only : goal.returns-clause-only
returns-clause-only c = only
