use Rattle.std.proofs.Common.{rules, sym, ◌∙◌}
use Rattle.pj_overload.proofs.Among.{among-none, among-refused, among-some}
use Rattle.pj_overload.proofs.choosing.choice_among.Goals as goal

pub returns-then-is_empty-clause-asks : goal.returns-then-is_empty-clause-asks
returns-then-is_empty-clause-asks g c = among-none c.args.phase c.args.count c.args.found.now (sym c.is_empty.ensures ∙ c.if-is_empty.true) (search rules)

pub returns-in_err-choice-clause-asks : goal.returns-in_err-choice-clause-asks
returns-in_err-choice-clause-asks g c = among-refused c.args.phase c.args.count c.args.found.now (sym c.is_empty.ensures ∙ c.if-is_empty.false) c.in_err-choice.ensures.asks (search rules)

pub returns-clause-asks : goal.returns-clause-asks
returns-clause-asks g c = among-some c.args.phase c.args.count c.args.found.now (sym c.is_empty.ensures ∙ c.if-is_empty.false) c.in_ok-choice.ensures.asks (search rules)
