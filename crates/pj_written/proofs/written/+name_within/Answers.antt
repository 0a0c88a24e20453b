use Rattle.std.proofs.Common.{◌≡◌, IfOk, arith, ap, ◌∙◌, sym, subst}
use Rattle.pj_written.specs.declared.written.Written.{Written}
use Rattle.pj_written.specs.Written.{extended, innermost, name_within}
use Rattle.pj_written.proofs.Deeper.{name-none, name-some}
use Rattle.pj_written.proofs.written.+name_within.Goals as goal

pub returns-in_ok-name-in-Some : goal.returns-in_ok-name-in-Some
returns-in_ok-name-in-Some n c =
    let t = c.args.tree.now in
    let meant : extended t c.in_ok-name-in-Some.name c.args.n ≡ name_within t c.args.deep c.args.n =
    ap (λ (name : Written). extended t name c.args.n) c.in_ok-name-in-Some.ensures
    ∙ sym (name-some t c.args.deep c.args.n c.in-Some.outer (omega (arith, c.if-deep-eq0.false)) (sym c.in-Some.ensures.value)) in
    subst (λ (meaning : Written). IfOk c.extended.result (λ name. name ≡ meaning)) meant c.extended.ensures

pub returns-in-None : goal.returns-in-None
returns-in-None n c =
    let t = c.args.tree.now in
    let meant : innermost t c.args.n ≡ name_within t c.args.deep c.args.n =
    sym (name-none t c.args.deep c.args.n (omega (arith, c.if-deep-eq0.false)) (sym c.in-None.ensures.value)) in
    subst (λ (meaning : Written). IfOk c.innermost.result (λ name. name ≡ meaning)) meant c.innermost.ensures
