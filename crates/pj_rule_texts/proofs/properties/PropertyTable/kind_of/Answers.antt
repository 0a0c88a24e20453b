use Rattle.std.proofs.Common.{ap, sym, ◌∙◌}
use Rattle.std.specs.Option.{option_map}
use Rattle.pj_rule_texts.specs.Rules.{kind_of}
use Rattle.pj_rule_texts.proofs.Steps.{kind_of-lookup}
use Rattle.pj_rule_texts.proofs.properties.PropertyTable.kind_of.Goals as goal

pub returns-in-Some : goal.returns-in-Some
returns-in-Some c =
    ap (option_map (λ v. v.0)) c.in-Some.ensures.value ∙ sym (kind_of-lookup c.args.name.now c.self.inside.held.entries)
    ∙ ap (λ list. kind_of list c.args.name.now) c.self.view_is

pub returns-in-None : goal.returns-in-None
returns-in-None c =
    ap (option_map (λ v. v.0)) c.in-None.ensures.value ∙ sym (kind_of-lookup c.args.name.now c.self.inside.held.entries)
    ∙ ap (λ list. kind_of list c.args.name.now) c.self.view_is
