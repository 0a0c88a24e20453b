use Rattle.std.proofs.Common.{Ok, rules, subst}
use Rattle.pj_names.specs.ClassName.{NameSet}
use Rattle.pj_names.specs.Noting.{Notes}
use Rattle.pj_names.proofs.Held.{asks-late}
use Rattle.pj_workers.specs.Views.{file_seen, if_active}
use Rattle.pj_workers.proofs.Resting.{rests_noted}
use Rattle.pj_workers.proofs.runs.rule_run.Goals as goal

pub returns-in_err-rows-clause-asks : goal.returns-in_err-rows-clause-asks
returns-in_err-rows-clause-asks g c = λ meant is.
    let asked = c.in_err-rows.ensures.asks meant is in
    search rules

pub returns-in_err-names-clause-asks : goal.returns-in_err-names-clause-asks
returns-in_err-names-clause-asks g c = λ meant is. asks-late (c.in_ok-rows.ensures.asks meant is) (search rules)

pub returns-clause-asks : goal.returns-clause-asks
returns-clause-asks g c = λ meant is. c.in_ok-rows.ensures.asks meant is

pub returns-clause-rests : goal.returns-clause-rests
returns-clause-rests g c = λ meant is.
    let m = if_active c.args.is_active c.args.file.now.path.now (file_seen c.args.file.now) meant in
    let t = g.O.Oracle.tells c.args.oracle.now in
    rests_noted m t (g.O.Oracle.tells c.noted_result.new.oracle) c.in_ok-rows.rows c.noted_result.new.noted c.in_ok-names.names (c.in_ok-rows.ensures.asks meant is)
    (subst (λ (s : NameSet). Notes m t.is_told t.world s c.noted_result.new.noted (Ok c.in_ok-rows.rows)) c.new-noted.ensures (c.in_ok-rows.ensures.notes meant is))
    c.in_ok-names.ensures.ascending c.in_ok-names.ensures.members
