use Rattle.pj_exprtypes.proofs.Due.{adds-nothing, adds-pass, on-map}
use Rattle.pj_exprtypes.proofs.order.put_pass.Goals as goal

pub returns-then-not-passes_open : goal.returns-then-not-passes_open
returns-then-not-passes_open c = λ told w. adds-nothing _ _ _ _ _

pub returns : goal.returns
returns c = λ told w.
    on-map c.push.result (λ puts. adds-pass c.args.file.now told w c.args.before c.args.left c.args.n c.args.all.now c.push.new.self c.requires.inside puts) c.push.ensures.ok
