use Rattle.std.proofs.Common.{◌≡◌, ◌+◌, length, arith}
use Rattle.pj_exprtypes.proofs.Due.{adds-var}
use Rattle.pj_exprtypes.proofs.order.put_var.Goals as goal

pub returns : goal.returns
returns c = λ told w.
    let t = c.args.tree.now in
    let depth : c.len-left.result + 1 ≡ length t.nodes + 1 = omega (arith, c.len-left.ensures.value) in
    adds-var t told w (c.len-left.result + 1) c.args.id c.in_ok-nodes.nodes c.args.all.now c.push.new.self c.put_visits.new.all depth c.requires.inside c.in_ok-nodes.ensures.value c.in_ok-nodes.ensures.inside
    c.in_ok-push.ensures.ok c.in_ok-put_visits.ensures
