use Rattle.pj_exprtypes.proofs.OfKinds as kinds
use Rattle.pj_exprtypes.proofs.laws.expressions_are_of_operands.Goals as goal

pub returns-clause-fields : goal.returns-clause-fields
returns-clause-fields c = λ t tree. kinds.fields t tree

pub returns-clause-arrays : goal.returns-clause-arrays
returns-clause-arrays c = λ t tree. kinds.arrays t tree

pub returns-clause-assignments : goal.returns-clause-assignments
returns-clause-assignments c = λ t tree. kinds.assignments t tree

pub returns-clause-conditionals : goal.returns-clause-conditionals
returns-clause-conditionals c = λ t tree. kinds.conditionals t tree

pub returns-clause-tests : goal.returns-clause-tests
returns-clause-tests c = λ t tree. kinds.tests t tree

pub returns-clause-shifts : goal.returns-clause-shifts
returns-clause-shifts c = λ t tree. kinds.shifts t tree

pub returns-clause-sums : goal.returns-clause-sums
returns-clause-sums c = λ t tree. kinds.sums t tree

pub returns-clause-bits : goal.returns-clause-bits
returns-clause-bits c = λ t tree. kinds.bits t tree

pub returns-clause-arithmetic : goal.returns-clause-arithmetic
returns-clause-arithmetic c = λ t tree. kinds.arithmetic t tree

pub returns-clause-negations : goal.returns-clause-negations
returns-clause-negations c = λ t tree. kinds.negations t tree

pub returns-clause-steps : goal.returns-clause-steps
returns-clause-steps c = λ t tree. kinds.steps t tree

pub returns-clause-signs : goal.returns-clause-signs
returns-clause-signs c = λ t tree. kinds.signs t tree
