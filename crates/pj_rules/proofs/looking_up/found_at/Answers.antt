use Rattle.std.proofs.Common.{sym, ◌∙◌}
use Rattle.pj_rules.proofs.Finding.{found_open, found_read}
use Rattle.pj_rules.proofs.looking_up.found_at.Goals as goal

pub returns-then-is_some-clause-found : goal.returns-then-is_some-clause-found
returns-then-is_some-clause-found g c = λ files told known.
    found_read files c.args.known.now c.args.path c.get.result c.get.ensures (sym c.is_some.ensures ∙ c.if-is_some.true) known

pub returns-then-has-clause-found : goal.returns-then-has-clause-found
returns-then-has-clause-found g c = λ files told known.
    found_open files c.args.known.now c.args.path (sym c.has.ensures ∙ c.if-has.true) known
