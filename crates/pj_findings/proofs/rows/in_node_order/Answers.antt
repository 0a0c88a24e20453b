use Rattle.std.proofs.Common.{rules}
use Rattle.std.proofs.lemmas.Fn.{always_returns_same}
use Rattle.pj_reports.specs.declared.rows.Finding.{Finding}
use Rattle.pj_findings.proofs.Merging.{sorted_is}
use Rattle.pj_findings.proofs.rows.in_node_order.Goals as goal

pub returns : goal.returns
returns c =
    let key : Finding → _ = λ (f : Finding). f.node in
    sorted_is c.args.findings.items c.sort_by_key.new.self.items c.sort_by_key.ensures.permutation
    (c.in_ok-sort_by_key.ensures.sorted (λ (f : Finding). f.node) (always_returns_same _ _ _ (λ a r q k. search rules)))
    (c.sort_by_key.ensures.stable (λ (f : Finding). f.node) (always_returns_same _ _ _ (λ a r q k. search rules)))
