use Rattle.std.proofs.Common.{[], drop}
use Rattle.pj_names.proofs.AskingLaws.{ComesTo}
use Rattle.pj_types.specs.Members.{all_methods}
use Rattle.pj_members.specs.Receivers.{given_in}
use Rattle.pj_members.specs.SupertypeWalks.{all_supertypes}
use Rattle.pj_members.proofs.receiver_methods.given_in.Given as goal

abbrev pub invariant-loop-class : goal.invariant-loop-class
invariant-loop-class g l =
    ComesTo (given_in l.fn.name [] (all_supertypes l.fn.classes)) (g.O.Oracle.tells l.fn.oracle)
    (given_in l.name (all_methods l.found) (all_supertypes (drop l.class-index l.class-items))) (g.O.Oracle.tells l.oracle)
