use Rattle.pj_names.proofs.AskingLaws.{asks-then}
use Rattle.pj_javafuncs.proofs.Beneath.{keeps-beneath}
use Rattle.pj_javafuncs.proofs.node_tests.type_test.Goals as goal

pub returns-clause-asks : goal.returns-clause-asks
returns-clause-asks g c = asks-then _ c.in_ok-ty.ensures.asks c.type_is.ensures

pub returns-clause-keeps : goal.returns-clause-keeps
returns-clause-keeps g c = keeps-beneath c.args.oracle.now.file.now _ c.type_is.ensures c.in_ok-ty.ensures.keeps
