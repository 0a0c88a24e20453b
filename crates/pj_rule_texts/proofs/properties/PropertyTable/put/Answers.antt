use Rattle.std.proofs.Common.{ap, ◌∙◌}
use Rattle.pj_rule_texts.specs.Rules.{put_property}
use Rattle.pj_rule_texts.specs.Tables.{properties_of}
use Rattle.pj_rule_texts.proofs.Steps.{put-insert}
use Rattle.pj_rule_texts.proofs.properties.PropertyTable.put.Goals as goal

pub returns : goal.returns
returns c =
    let p = c.args.property in
    ap properties_of c.in_ok-insert.ensures.entries ∙ put-insert p.name p.kind p.value c.self.inside.held.entries
    ∙ ap (λ list. put_property list p) c.self.view_is
