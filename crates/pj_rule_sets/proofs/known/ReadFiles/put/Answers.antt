use Rattle.std.proofs.Common.{ap, ◌∙◌}
use Rattle.pj_rule_sets.specs.ReadFiles.{put_list}
use Rattle.pj_rule_sets.proofs.known.ReadFiles.put.Goals as goal

pub returns-clause-put : goal.returns-clause-put
returns-clause-put c = c.in_ok-insert.ensures.entries ∙ ap (λ read. put_list read c.args.path c.args.list) c.self.view_is
