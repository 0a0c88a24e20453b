use Rattle.std.proofs.Common.{subst, sym}
use Rattle.pj_xvalue.specs.Items.{values_of}
use Rattle.pj_xvalue.specs.OfTree.{OfTree}
use Rattle.pj_javafuncs.proofs.Given.{text-refused, text-then}
use Rattle.pj_javafuncs.proofs.OfKind.{no-truth}
use Rattle.pj_javafuncs.proofs.replies.signature_reply.Goals as goal

pub text_argument-requires : goal.text_argument-requires
text_argument-requires g c = subst (λ n. OfTree n (values_of c.args.argument.now)) (sym c.requires.of_tree) c.requires.argument

pub returns-in-Ok-clause-asks : goal.returns-in-Ok-clause-asks
returns-in-Ok-clause-asks g c = text-then _ _ c.in-Ok.text c.in-Ok.ensures c.called.ensures.asks

pub returns-in-Err-clause-asks : goal.returns-in-Err-clause-asks
returns-in-Err-clause-asks g c = text-refused _ _ values_of c.in-Err.fault c.in-Err.ensures

pub returns-in-Err-clause-kind : goal.returns-in-Err-clause-kind
returns-in-Err-clause-kind g c = no-truth values_of c.in-Err.fault
