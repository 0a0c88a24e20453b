use Rattle.std.proofs.Common.{subst}
use Rattle.pj_outside.specs.Files.{Bytes}
use Rattle.pj_session.specs.Steps.{EndsSo}
use Rattle.pj_session.proofs.Keeping.{run_keeps_others, run_stays}
use Rattle.pj_session.proofs.Running.{ends_ready, ends_refused, ends_report}
use Rattle.pj_session.proofs.runs.report_of.Goals as goal

pub returns-clause-report : goal.returns-clause-report
returns-clause-report c =
    let ends = subst (λ (text : Bytes). EndsSo c.args.place text c.in_ok-outcome.outcome c.end_of.result) c.bytes.ensures c.end_of.ensures in
    λ finds. ends_report c.args.words.now c.args.world.now c.args.keeper.now.files c.run_world.new.keeper.files c.run_world.new.out.bytes c.in_ok-outcome.outcome c.in_ok-outcome.ensures.run c.args.place c.end_of.result ends finds

pub returns-clause-ready : goal.returns-clause-ready
returns-clause-ready c =
    let ends = subst (λ (text : Bytes). EndsSo c.args.place text c.in_ok-outcome.outcome c.end_of.result) c.bytes.ensures c.end_of.ensures in
    ends_ready c.args.words.now c.args.world.now c.args.keeper.now.files c.run_world.new.keeper.files c.run_world.new.out.bytes c.in_ok-outcome.outcome c.in_ok-outcome.ensures.run c.args.place c.end_of.result ends

pub returns-clause-refused : goal.returns-clause-refused
returns-clause-refused c =
    let ends = subst (λ (text : Bytes). EndsSo c.args.place text c.in_ok-outcome.outcome c.end_of.result) c.bytes.ensures c.end_of.ensures in
    ends_refused c.args.words.now c.args.world.now c.args.keeper.now.files c.run_world.new.keeper.files c.run_world.new.out.bytes c.in_ok-outcome.outcome c.in_ok-outcome.ensures.run c.args.place c.end_of.result ends

pub returns-clause-fits : goal.returns-clause-fits
returns-clause-fits c = run_stays c.keepers_stay_fit.ensures.stay c.args.words.now c.args.world.now c.args.keeper.now.files c.run_world.new.keeper.files c.run_world.new.out.bytes c.in_ok-outcome.outcome c.in_ok-outcome.ensures.run

pub returns-clause-others : goal.returns-clause-others
returns-clause-others c = run_keeps_others c.one_name_is_replaced.ensures.rest c.args.words.now c.args.world.now c.args.keeper.now.files c.run_world.new.keeper.files c.run_world.new.out.bytes c.in_ok-outcome.outcome c.in_ok-outcome.ensures.run
