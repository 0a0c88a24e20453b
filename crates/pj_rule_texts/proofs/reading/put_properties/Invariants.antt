use Rattle.std.proofs.Common.{◌≡◌, ◌++◌, map, take}
use Rattle.std.specs.List.{flat_map}
use Rattle.pj_markup.specs.Elements.{row_at}
use Rattle.pj_rule_texts.specs.Written.{property_pieces}
use Rattle.pj_rule_texts.proofs.reading.put_properties.Given as goal

abbrev pub invariant-loop-element : goal.invariant-loop-element
invariant-loop-element l = l.pieces ≡ l.initial.pieces ++ flat_map (property_pieces l.markup) (map (λ e. row_at l.markup e.number) (take l.element-index l.elements))
