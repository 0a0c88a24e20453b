use Rattle.pj_outside.specs.Doors.{found_at}
use Rattle.pj_classfile.proofs.OneLaws.{answer_is, class_is, only_answer}
use Rattle.pj_classfile.proofs.laws.folders_are_a_world.Goals as goal

pub returns-clause-class : goal.returns-clause-class
returns-clause-class c = class_is

pub returns-clause-answer : goal.returns-clause-answer
returns-clause-answer c = answer_is

pub returns-clause-world : goal.returns-clause-world
returns-clause-world c = λ most folders name answer is. only_answer name (found_at folders name most) answer is
