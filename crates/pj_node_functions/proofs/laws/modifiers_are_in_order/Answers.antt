use Rattle.std.proofs.Common.{refl, arith}
use Rattle.pj_xvalue.specs.declared.modifiers.Modifier.TheVariants as m
use Rattle.pj_node_functions.specs.Laws.{AreAllModifiers}
use Rattle.pj_node_functions.proofs.laws.modifiers_are_in_order.Goals as goal

all : AreAllModifiers
all m.Abstract = (0, omega arith, refl)
all m.Default = (1, omega arith, refl)
all m.Final = (2, omega arith, refl)
all m.Native = (3, omega arith, refl)
all m.NonSealed = (4, omega arith, refl)
all m.Private = (5, omega arith, refl)
all m.Protected = (6, omega arith, refl)
all m.Public = (7, omega arith, refl)
all m.Sealed = (8, omega arith, refl)
all m.Static = (9, omega arith, refl)
all m.Strictfp = (10, omega arith, refl)
all m.Synchronized = (11, omega arith, refl)
all m.Transient = (12, omega arith, refl)
all m.Volatile = (13, omega arith, refl)

pub returns-clause-all : goal.returns-clause-all
returns-clause-all c = all

pub returns-clause-order : goal.returns-clause-order
returns-clause-order c = refl
