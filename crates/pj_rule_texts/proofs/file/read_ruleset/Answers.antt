use Rattle.std.proofs.Common.{sym, subst, IfSome}
use Rattle.pj_rule_texts.specs.Files.{IfFault, IsUnreadable}
use Rattle.pj_rule_texts.proofs.FileReading.{refuses_told}
use Rattle.pj_rule_texts.proofs.file.read_ruleset.Goals as goal

pub returns-in-Err-clause-fault : goal.returns-in-Err-clause-fault
returns-in-Err-clause-fault g c =
    let told = g.T.Tree.holds c.args.tree.now in
    let path = c.args.path.now in
    subst (λ r. IfSome told (λ files. IfFault (IsUnreadable files path) r)) (sym c.refused_of.ensures)
    (refuses_told told path c.in_ok-reading.reading c.in-Err.fault c.in_ok-reading.ensures.reading c.in-Err.ensures.fault)
