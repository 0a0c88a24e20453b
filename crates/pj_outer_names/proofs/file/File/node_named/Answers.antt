use Rattle.pj_outer_names.proofs.ByName.{node_named_inside}
use Rattle.pj_outer_names.proofs.file.File.node_named.Goals as goal

pub returns-in-Some-clause-inside : goal.returns-in-Some-clause-inside
returns-in-Some-clause-inside c =
    let named = node_named_inside c.args.self.now c.args.name.now in
    rw (← c.class_named.ensures, c.in-Some.is) at named
