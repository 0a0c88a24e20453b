use Rattle.std.proofs.Common.{◌≡◌, ◌∙◌, ◌++◌, ◌∷◌, [], List, ap, sym, rules, arith, append-nil}
use Rattle.pj_tree.specs.declared.node.Node.{Node}
use Rattle.pj_exprtypes.specs.Order.{visits}
use Rattle.pj_exprtypes.proofs.Due.{visits-next}
use Rattle.pj_exprtypes.proofs.order.put_visits.Goals as goal

pub loop-n-preserved : goal.loop-n-preserved
loop-n-preserved c =
    let popped : c.loop-n.rest ≡ c.pop.new.self ++ c.in-Some.n ∷ [] = c.in-Some.ensures in
    visits-next c.args.before c.args.left c.loop-n.all c.push.new.self c.pop.new.self c.in-Some.n c.in_ok-push.ensures.ok
    ∙ ap (λ (ns : List Node). c.loop-n.all ++ visits c.args.before c.args.left ns) (sym popped) ∙ c.loop-n.invariant

pub returns : goal.returns
returns c =
    let none : c.loop-n.rest ≡ [] = first_of (search rules, grind arith) in
    sym (append-nil c.loop-n.all) ∙ ap (λ (ns : List Node). c.loop-n.all ++ visits c.args.before c.args.left ns) (sym none) ∙ c.loop-n.invariant
