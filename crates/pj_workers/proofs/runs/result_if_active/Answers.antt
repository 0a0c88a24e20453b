use Rattle.std.proofs.Common.{rules}
use Rattle.pj_workers.specs.Views.{file_seen}
use Rattle.pj_workers.proofs.Activity.{active_asks, inactive_asks}
use Rattle.pj_workers.proofs.runs.result_if_active.Goals as goal

pub returns-then-is_active-clause-asks : goal.returns-then-is_active-clause-asks
returns-then-is_active-clause-asks g c = λ meant is. active_asks c.args.file.now.path.now (file_seen c.args.file.now) meant c.args.is_active (search rules) (c.active_result.ensures.asks meant is)

pub returns-then-is_active-clause-kept : goal.returns-then-is_active-clause-kept
returns-then-is_active-clause-kept g c = c.active_result.ensures.kept

pub returns-then-is_active-clause-right : goal.returns-then-is_active-clause-right
returns-then-is_active-clause-right g c = c.active_result.ensures.right

pub returns-clause-asks : goal.returns-clause-asks
returns-clause-asks g c = λ meant is. inactive_asks c.args.file.now.path.now (file_seen c.args.file.now) meant c.args.is_active (search rules) (search rules)

pub returns-clause-right : goal.returns-clause-right
returns-clause-right g c = c.requires.right
