use Rattle.std.proofs.Common.{length, ◌∙◌}
use Rattle.pj_exprtypes.proofs.Depth.{type-goes-on, types-go-deeper}
use Rattle.pj_exprtypes.proofs.Steps.{earlier-some, earlier-var}
use Rattle.pj_exprtypes.proofs.laws.types_go_on.Goals as goal

pub returns-clause-nodes : goal.returns-clause-nodes
returns-clause-nodes c = λ t tree n. type-goes-on t tree n

pub returns-clause-variables : goal.returns-clause-variables
returns-clause-variables c = λ t id inside. earlier-some t (length t.nodes) id inside ∙ earlier-var t id

pub returns-clause-deeper : goal.returns-clause-deeper
returns-clause-deeper c = λ t tree var more n. types-go-deeper t tree var more n
