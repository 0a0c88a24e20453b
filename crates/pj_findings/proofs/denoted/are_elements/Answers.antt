use Rattle.std.proofs.Common.{◌∙◌}
use Rattle.pj_findings.specs.Denoted.{is_element}
use Rattle.pj_findings.proofs.Elements.{all_values}
use Rattle.pj_findings.proofs.denoted.are_elements.Goals as goal

pub returns : goal.returns
returns c = c.is_each_element.ensures ∙ all_values is_element c.args.items.now
