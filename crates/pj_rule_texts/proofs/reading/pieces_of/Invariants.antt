use Rattle.std.proofs.Common.{◌≡◌, map, take}
use Rattle.std.specs.List.{flat_map}
use Rattle.pj_markup.specs.Elements.{row_at}
use Rattle.pj_rule_texts.specs.Written.{pieces_of_child}
use Rattle.pj_rule_texts.proofs.reading.pieces_of.Given as goal

abbrev pub invariant-loop-child : goal.invariant-loop-child
invariant-loop-child l = l.pieces ≡ flat_map (pieces_of_child l.markup) (map (λ e. row_at l.markup e.number) (take l.child-index l.elements))
