use Rattle.std.proofs.Common.{◌++◌, ◌∷◌, [], ◌∙◌, ap, map, sym, arith}
use Rattle.std.specs.List.{range_with_len}
use Rattle.std.proofs.lemmas.List.FromFn.{map-range_with_len_more}
use Rattle.pj_outside.specs.Files.{Files}
use Rattle.pj_generate.specs.Projects.{class_row}
use Rattle.pj_generate.proofs.project.classes.Goals as goal

pub loop-i-preserved : goal.loop-i-preserved
loop-i-preserved c =
    c.in_ok-push.ensures.ok ∙ ap (λ (fs : Files). fs ++ c.in_ok-row.row ∷ []) c.loop-i.invariant
    ∙ ap (λ row. map class_row (range_with_len 0 c.loop-i.i) ++ row ∷ []) c.in_ok-row.ensures ∙ sym (map-range_with_len_more class_row 0 c.loop-i.i c.loop-i.i (omega arith))
