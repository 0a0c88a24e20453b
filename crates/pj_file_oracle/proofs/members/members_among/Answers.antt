use Rattle.std.proofs.Common.{ap, subst, sym, ◌∙◌}
use Rattle.pj_names.proofs.AskingLaws.{ComesTo, comes-begin}
use Rattle.pj_file_oracle.specs.Members.{member_lists, members_among}
use Rattle.pj_file_oracle.proofs.Lists.{behind, behind-turn, members-begin}
use Rattle.pj_file_oracle.proofs.members.members_among.Goals as goal

pub loop-n-init : goal.loop-n-init
loop-n-init g c =
    let f = member_lists c.args.file.now c.args.class in
    let nodes = c.args.nodes.now in
    let t = g.O.Oracle.tells c.args.oracle.now in
    subst (λ m. ComesTo (members_among c.args.file.now c.args.class nodes) t m t) (members-begin f nodes ∙ ap (λ members. behind f members nodes) (sym c.no_members-members.ensures)) comes-begin

pub loop-n-preserved : goal.loop-n-preserved
loop-n-preserved g c =
    behind-turn (member_lists c.args.file.now c.args.class) c.loop-n.members c.put_members.new.members c.in_ok-more.more c.args.nodes.now c.loop-n.n-index _
    c.loop-n-test.true c.in_ok-put_members.ensures c.loop-n.invariant c.in_ok-more.ensures
