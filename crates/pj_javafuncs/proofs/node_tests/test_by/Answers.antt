use Rattle.pj_javafuncs.proofs.Beneath.{keeps-beneath}
use Rattle.pj_javafuncs.proofs.node_tests.test_by.Goals as goal

pub returns-in-HasAnnotation-clause-keeps : goal.returns-in-HasAnnotation-clause-keeps
returns-in-HasAnnotation-clause-keeps g c = keeps-beneath c.args.oracle.now.file.now _ c.annotation_test.ensures c.requires.keeps
