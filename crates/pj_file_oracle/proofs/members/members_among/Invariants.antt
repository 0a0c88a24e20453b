use Rattle.std.proofs.Common.{drop}
use Rattle.pj_names.proofs.AskingLaws.{ComesTo}
use Rattle.pj_file_oracle.specs.Members.{member_lists, members_among}
use Rattle.pj_file_oracle.proofs.Lists.{behind}
use Rattle.pj_file_oracle.proofs.members.members_among.Given as goal

abbrev pub invariant-loop-n : goal.invariant-loop-n
invariant-loop-n g l =
    ComesTo (members_among l.fn.file l.fn.class l.fn.nodes) (g.O.Oracle.tells l.fn.oracle)
    (behind (member_lists l.file l.class) l.members (drop l.n-index l.nodes)) (g.O.Oracle.tells l.oracle)
