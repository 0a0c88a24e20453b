use Rattle.std.proofs.Common.{arith}
use Rattle.pj_xpatterns.specs.Written.{variables_of}
use Rattle.pj_xpatterns.proofs.Forms.{empty_call, some_call}
use Rattle.pj_xpatterns.proofs.written.+gathering.Goals as goal

pub gather-returns-in-empty : goal.gather-returns-in-empty
gather-returns-in-empty t c = empty_call (variables_of c.args.variables.now) c.in-Call.function c.in-Call.arguments c.args.expr.now c.as_slice-in-Call.result.now c.args.found.now c.in-Call.is c.as_slice-in-Call.ensures.value (omega arith)

pub gather-returns-in_ok-push_own-in-len1-up : goal.gather-returns-in_ok-push_own-in-len1-up
gather-returns-in_ok-push_own-in-len1-up t c =
    some_call (variables_of c.args.variables.now) c.in-Call.function c.in-Call.arguments c.args.expr.now c.first-item.result c.as_slice-in-Call.result.now c.as_slice-in-len1-up.result.now
    c.args.found.now c.gather-in-len1-up.new.found c.push_own.new.found c.gather_all-in-len1-up.new.found c.gather_all-in-len1-up.result
    c.in-Call.is c.as_slice-in-Call.ensures.value c.as_slice-in-len1-up.ensures.value c.in-len1-up.len_at_least c.first-item.is
    c.in_ok-gather-in-len1-up.ensures c.in_ok-push_own-in-len1-up.ensures c.gather_all-in-len1-up.ensures
