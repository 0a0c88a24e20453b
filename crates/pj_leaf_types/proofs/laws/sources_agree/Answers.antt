use Rattle.pj_names.proofs.MeaningLaws.{agreement}
use Rattle.pj_leaf_types.specs.Leaves.{leaf_by}
use Rattle.pj_leaf_types.specs.Variables.{declared_by}
use Rattle.pj_leaf_types.proofs.laws.sources_agree.Goals as goal

pub returns-clause-nodes : goal.returns-clause-nodes
returns-clause-nodes c = λ first second t n kind. agreement first second (leaf_by t n kind)

pub returns-clause-variables : goal.returns-clause-variables
returns-clause-variables c = λ first second t id declaration. agreement first second (declared_by t id declaration)
