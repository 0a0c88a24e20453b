use Rattle.std.proofs.Common.{nat_lt, rules}
use Rattle.std.proofs.lemmas.List.Sorted.{IsPartitionPoint-from_clause}
use Rattle.pj_declared.specs.Table.{name_rank}
use Rattle.pj_declared.specs.declared.named.Named.{Named}
use Rattle.pj_declared.proofs.Own.{split_below}
use Rattle.pj_declared.proofs.search.count_below.Goals as goal

pub returns-clause-split : goal.returns-clause-split
returns-clause-split c =
    IsPartitionPoint-from_clause (λ (row : Named). nat_lt (name_rank c.args.name.now row) c.args.rank) _ _ c.partition_point.ensures.partitioned
    (split_below c.args.rows.now c.args.name.now c.args.rank c.requires.ordered) (λ a r q k. search rules)
