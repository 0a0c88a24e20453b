use Rattle.std.proofs.Common.{◌∙◌, sym}
use Rattle.pj_workers.proofs.Ran.{none_evaluated}
use Rattle.pj_workers.proofs.evaluated.evaluated.Goals as goal

pub returns-then-is_empty : goal.returns-then-is_empty
returns-then-is_empty c = c.new.ensures ∙ none_evaluated c.args.rules.now c.args.path.now c.args.runs.now (sym c.is_empty.ensures ∙ c.if-is_empty.true)
