use Rattle.std.proofs.Common.{ap, subst, sym, ◌∙◌}
use Rattle.pj_names.specs.Asking.{each}
use Rattle.pj_names.proofs.AskingLaws.{ComesTo, comes-begin}
use Rattle.pj_names.proofs.MeaningLaws.{each-gather, gather}
use Rattle.pj_file_oracle.specs.Members.{field_of}
use Rattle.pj_file_oracle.proofs.fields.listed_fields.Goals as goal

pub loop-declarator-init : goal.loop-declarator-init
loop-declarator-init g c =
    let f = field_of c.args.file.now c.args.declaration in
    let nodes = c.args.declarators.now in
    let t = g.O.Oracle.tells c.args.oracle.now in
    subst (λ m. ComesTo (each f nodes) t m t) (each-gather f nodes ∙ ap (λ fields. gather f fields nodes) (sym c.new-fields.ensures)) comes-begin
