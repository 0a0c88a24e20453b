use Rattle.std.proofs.Common.{◌<◌, length, subst, sym}
use Rattle.pj_type_names.proofs.Inside.{name_inside}
use Rattle.pj_written.specs.declared.written.Written.{Written}
use Rattle.pj_type_names.proofs.read.name_written.Goals as goal

pub returns-clause-inside : goal.returns-clause-inside
returns-clause-inside c =
    let t = c.args.tree.now in
    subst (λ (name : Written). name.at.0 < length t.nodes) (sym c.in_ok-name.ensures) (name_inside t c.args.n c.requires.inside)
