use Rattle.pj_carry_laws.proofs.Merges.{is_merge}
use Rattle.pj_carry_laws.proofs.laws.rows_are_merged_by_rule.Goals as goal

pub returns : goal.returns
returns c = is_merge
