use Rattle.std.proofs.Common.{◌∙◌}
use Rattle.pj_rules.proofs.Turns.{begins}
use Rattle.pj_rules.proofs.top.begin.Goals as goal

pub returns : goal.returns
returns c = λ files are_read read.
    begins files c.args.known.now _ c.args.path.now c.args.written _ _ c.new.result are_read read c.in_ok-begin.ensures.begun c.new-2.ensures
    (c.of-current.ensures.path ∙ c.in_ok-copied.ensures) c.of-current.ensures.rule_set c.of-current.ensures.rest c.of-current.ensures.progress c.of-current.ensures.patterns
    c.new.ensures.exclude c.new.ensures.include
