use Rattle.std.proofs.Common.{length}
use Rattle.pj_written.specs.Headers.{written_supertypes}
use Rattle.pj_written.proofs.Inside.{supertypes_inside, inside_by}
use Rattle.pj_written.proofs.headers.written_supertypes.Goals as goal

pub returns-clause-inside : goal.returns-clause-inside
returns-clause-inside c =
    let t = c.args.tree.now in
    inside_by (length t.nodes) _ (written_supertypes t c.args.class) c.in_ok-nodes.ensures (supertypes_inside t c.args.class)
