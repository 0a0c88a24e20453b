use Rattle.std.proofs.Common.{rules}
use Rattle.pj_findings.proofs.Elements.{denoted_err, denoted_ok}
use Rattle.pj_findings.proofs.denoted.denoted_nodes.Goals as goal

pub returns-then-are_elements : goal.returns-then-are_elements
returns-then-are_elements c = search (rules, denoted_ok)

pub returns : goal.returns
returns c = search (rules, denoted_err)
