use Rattle.std.proofs.Common.{ap, rules, ◌∙◌}
use Rattle.pj_rule_sets.specs.Lists.{put}
use Rattle.pj_rule_sets.specs.contracts.entry.OriginPartialEq.TheImpl.{eq-value}
use Rattle.pj_rule_sets.proofs.Listing.{put-insert}
use Rattle.pj_rule_sets.proofs.table.RuleTable.put.Goals as goal

pub returns-clause-put : goal.returns-clause-put
returns-clause-put c =
    c.in_ok-insert.ensures.entries ∙ put-insert eq-value.it (λ a b. search rules) c.self.inside.held.entries c.args.origin c.args.entry
    ∙ ap (λ list. put list (c.args.origin, c.args.entry)) c.self.view_is
