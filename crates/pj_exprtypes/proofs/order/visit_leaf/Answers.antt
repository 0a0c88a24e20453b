use Rattle.std.proofs.Common.{◌+◌, subst, rules}
use Rattle.pj_tree.specs.Tree.{Tree}
use Rattle.pj_exprtypes.specs.Order.{AddsParts}
use Rattle.pj_exprtypes.specs.Seen.{seen_typing}
use Rattle.pj_exprtypes.specs.TypeOf.{earlier, typed, var_of}
use Rattle.pj_exprtypes.proofs.Due.{adds-lift, adds-nothing, leaf-asked, leaf-refused, leaf-variable}
use Rattle.pj_exprtypes.proofs.Parts.{part-begin, part-late}
use Rattle.pj_exprtypes.proofs.order.visit_leaf.Goals as goal

pub returns-then-not-may_be_open-clause-due : goal.returns-then-not-may_be_open-clause-due
returns-then-not-may_be_open-clause-due g c = λ left. adds-nothing _ _ _ _ _

pub returns-then-not-may_be_open-clause-asks : goal.returns-then-not-may_be_open-clause-asks
returns-then-not-may_be_open-clause-asks g c = λ left. part-begin

pub returns-in_err-found-clause-asks : goal.returns-in_err-found-clause-asks
returns-in_err-found-clause-asks g c = λ left.
    let t = c.args.file.now in
    let asked = rw c.new.ensures at c.in_err-found.ensures.asks in
    leaf-refused t (earlier t c.args.before) left c.args.n c.requires.alone asked (search rules)

pub returns-in_err-put_var-in-Some-clause-asks : goal.returns-in_err-put_var-in-Some-clause-asks
returns-in_err-put_var-in-Some-clause-asks g c = λ left.
    let t = c.args.file.now in
    let asked = rw c.new.ensures at c.in_ok-found.ensures.asks in
    part-late (leaf-asked t (earlier t c.args.before) left c.args.n (tt {0}) c.requires.alone asked) (search rules)

pub returns-in_ok-put_var-in-Some-clause-due : goal.returns-in_ok-put_var-in-Some-clause-due
returns-in_ok-put_var-in-Some-clause-due g c = λ left.
    let t = c.args.file.now in
    let told = (g.O.Oracle.tells c.args.oracle.now).is_told in
    let w = (g.O.Oracle.tells c.args.oracle.now).world in
    let id = c.in-Some.id in
    let asked = rw c.new.ensures at c.in_ok-found.ensures.asks in
    adds-lift t told w (var_of t id) (typed t (earlier t c.args.before) (left + 1) c.args.n) c.args.all.now c.put_var.new.all
    (λ told. leaf-variable w t c.args.before left c.args.n id (seen_typing c.in_ok-found.found) c.requires.alone c.in-Some.ensures.earlier c.in-Some.ensures.value (λ d far. asked.value_is told d far))
    (subst (λ (x : Tree). AddsParts x told w (var_of x id) c.args.all.now c.put_var.new.all) c.tree-tree.ensures (c.in_ok-put_var-in-Some.ensures told w))

pub returns-in_ok-put_var-in-Some-clause-asks : goal.returns-in_ok-put_var-in-Some-clause-asks
returns-in_ok-put_var-in-Some-clause-asks g c = λ left.
    let t = c.args.file.now in
    let asked = rw c.new.ensures at c.in_ok-found.ensures.asks in
    leaf-asked t (earlier t c.args.before) left c.args.n _ c.requires.alone asked

pub returns-in-None-clause-due : goal.returns-in-None-clause-due
returns-in-None-clause-due g c = λ left. adds-nothing _ _ _ _ _

pub returns-in-None-clause-asks : goal.returns-in-None-clause-asks
returns-in-None-clause-asks g c = λ left.
    let t = c.args.file.now in
    let asked = rw c.new.ensures at c.in_ok-found.ensures.asks in
    leaf-asked t (earlier t c.args.before) left c.args.n _ c.requires.alone asked
