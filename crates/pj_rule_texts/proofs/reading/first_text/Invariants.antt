use Rattle.std.proofs.Common.{◌≡◌, drop}
use Rattle.pj_rule_texts.proofs.Steps.{first_in}
use Rattle.pj_rule_texts.proofs.reading.first_text.Given as goal

abbrev pub invariant-loop-element : goal.invariant-loop-element
invariant-loop-element l = first_in l.markup l.name l.elements ≡ first_in l.markup l.name (drop l.element-index l.elements)
