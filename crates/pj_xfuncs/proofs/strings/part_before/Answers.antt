use Rattle.pj_xfuncs.proofs.Parts.{before-cut, before-nowhere, split-cut}
use Rattle.pj_xfuncs.proofs.strings.part_before.Goals as goal

pub returns-in-Some : goal.returns-in-Some
returns-in-Some c =
    let h = c.in-Some.ensures.cases in
    let s = c.args.text.now in
    let p = c.args.part.now in
    before-cut s p c.in-Some.front.now c.in-Some.field-0-1.now c.utf8.text c.utf8.part (split-cut s p c.in-Some.front.now c.in-Some.field-0-1.now h.0 h.1 h.2.0 h.2.1 h.3 h.4 h.6)

pub returns-in-None : goal.returns-in-None
returns-in-None c = before-nowhere c.args.text.now c.args.part.now c.utf8.text c.utf8.part c.in-None.ensures.cases
