use Rattle.pj_types.specs.Members.{all_methods, method_view}
use Rattle.pj_members.proofs.Turns.{hidden-as}
use Rattle.pj_members.proofs.receiver_methods.put_unhidden_as.Goals as goal

pub returns-else-branch : goal.returns-else-branch
returns-else-branch c = λ others rest.
    hidden-as c.args.keys.now c.insert.new.self (all_methods c.args.left.now) (method_view c.args.declared.now) (method_view c.args.method) others rest c.in_ok-key.key c.in_ok-insert.field-0
    c.in_ok-key.ensures c.in_ok-insert.ensures.added c.if-branch.false c.in_ok-insert.ensures.ok
