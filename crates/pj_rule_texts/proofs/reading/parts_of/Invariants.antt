use Rattle.std.proofs.Common.{◌≡◌, map, take}
use Rattle.std.specs.List.{filter_map}
use Rattle.pj_markup.specs.Elements.{row_at}
use Rattle.pj_rule_texts.specs.Written.{part_of}
use Rattle.pj_rule_texts.proofs.reading.parts_of.Given as goal

abbrev pub invariant-loop-child : goal.invariant-loop-child
invariant-loop-child l = l.parts ≡ filter_map (part_of l.markup) (map (λ e. row_at l.markup e.number) (take l.child-index l.elements))
