use Rattle.std.proofs.Common.{rules}
use Rattle.std.proofs.lemmas.List.Sorted.{IsPartitionPoint-from_clause}
use Rattle.pj_declared.specs.Table.{is_before}
use Rattle.pj_declared.specs.declared.named.Named.{Named}
use Rattle.pj_declared.proofs.Ordered.{split_before}
use Rattle.pj_declared.proofs.search.count_before.Goals as goal

pub returns-clause-split : goal.returns-clause-split
returns-clause-split c =
    IsPartitionPoint-from_clause (λ (row : Named). is_before c.args.name.now c.args.within c.args.opened row) _ _ c.partition_point.ensures.partitioned
    (split_before c.args.rows.now c.args.name.now c.args.within c.args.opened c.requires.ordered) (λ a r q k. search rules)
