use Rattle.std.proofs.Common.{◌∙◌, ap}
use Rattle.pj_attrs.specs.FileFacts.{attribute_in}
use Rattle.pj_findings.specs.Reasons.{plain_reason}
use Rattle.pj_rule_sets.specs.Rules.{EffectiveRule}
use Rattle.pj_suppress.specs.Annotation.{by_annotation}
use Rattle.pj_workers.proofs.analysis.reason_of.Goals as goal

pub returns : goal.returns
returns c =
    let file = c.args.view.now.file.now in
    c.plain_reason.ensures
    ∙ (λ i. plain_reason (by_annotation (c.requires.file.tree_is i) (attribute_in file.facts.now) (ap (λ (r : EffectiveRule). r.row.name) c.rule.view_is i) c.args.n) (c.requires.file.marked_are c.args.extent.begin.line i) (c.covers.ensures i))
