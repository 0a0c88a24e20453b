use Rattle.pj_types.specs.Members.{all_methods, method_view}
use Rattle.pj_members.proofs.Turns.{hidden-turn}
use Rattle.pj_members.proofs.methods.put_unhidden.Goals as goal

pub returns-else-branch : goal.returns-else-branch
returns-else-branch c = λ rest.
    hidden-turn c.args.keys.now c.insert.new.self (all_methods c.args.left.now) (method_view c.args.method) rest c.in_ok-key.key c.in_ok-insert.field-0
    c.in_ok-key.ensures c.in_ok-insert.ensures.added c.if-branch.false c.in_ok-insert.ensures.ok
