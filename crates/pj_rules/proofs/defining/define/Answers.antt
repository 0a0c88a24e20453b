use Rattle.std.proofs.Common.{◌∙◌, sym}
use Rattle.pj_rules.proofs.Definitions.{no_name}
use Rattle.pj_rules.proofs.defining.define.Goals as goal

pub returns-in-None-clause-fault : goal.returns-in-None-clause-fault
returns-in-None-clause-fault c =
    no_name c.args.path.now c.args.rule_set.now c.args.progress.now c.args.rule c.requires c.refused.result (sym c.in_ok-name.ensures ∙ c.in-None.is) c.refused.ensures
