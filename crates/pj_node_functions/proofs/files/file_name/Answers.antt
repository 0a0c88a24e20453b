use Rattle.pj_node_functions.proofs.Behind.{behind-none, behind-some}
use Rattle.pj_node_functions.proofs.files.file_name.Goals as goal

pub returns-in-None : goal.returns-in-None
returns-in-None c = behind-none c.args.path.now c.in-None.ensures.cases

pub returns-in-Some : goal.returns-in-Some
returns-in-Some c =
    let h = c.in-Some.ensures.cases in
    behind-some c.args.path.now c.in-Some.last.now h.0 h.1 h.2 h.4 h.7
