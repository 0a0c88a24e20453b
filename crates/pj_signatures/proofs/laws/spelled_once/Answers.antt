use Rattle.pj_signatures.proofs.Once.{types_once, classes_once, methods_once}
use Rattle.pj_signatures.proofs.laws.spelled_once.Goals as goal

pub returns-clause-types : goal.returns-clause-types
returns-clause-types c = λ first second good fine same. types_once first second good fine same

pub returns-clause-classes : goal.returns-clause-classes
returns-clause-classes c = λ first second good fine same. classes_once first second good fine same

pub returns-clause-methods : goal.returns-clause-methods
returns-clause-methods c = λ first second good fine same. methods_once first second good fine same
