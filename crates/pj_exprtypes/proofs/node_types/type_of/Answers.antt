use Rattle.std.proofs.Common.{ap, subst}
use Rattle.std.specs.List.{All}
use Rattle.pj_tree.specs.Tree.{Tree}
use Rattle.pj_names.specs.Expand.{world_by}
use Rattle.pj_names.proofs.ExpandLaws.{asks-inner}
use Rattle.pj_file_oracle.specs.FileAnswer.{file_answer}
use Rattle.pj_file_oracle.specs.Held.{FileOwn, own_answer}
use Rattle.pj_exprtypes.specs.Table.{Holds}
use Rattle.pj_exprtypes.specs.TypeOf.{type_of}
use Rattle.pj_exprtypes.proofs.node_types.type_of.Goals as goal

pub returns-clause-asks : goal.returns-clause-asks
returns-clause-asks g c =
    let file = c.args.oracle.now.file.now in
    let own : FileOwn = record { tree = file; held = c.args.oracle.now.held.ghost_name } in
    asks-inner _ _ own _ own_answer (type_of file c.args.n) c.node_type.ensures.asks

pub returns-clause-keeps : goal.returns-clause-keeps
returns-clause-keeps g c = λ is.
    let file = c.args.oracle.now.file.now in
    let own = ap (λ k. k.own.tree) c.node_type.ensures.asks.same_kept in
    subst (λ (own : Tree). All (Holds file (λ depth. world_by (file_answer own) depth ((g.O.Oracle.tells c.node_type.new.oracle.inner.now).world depth))) c.node_type.new.types.entries) own (c.node_type.ensures.keeps is)
