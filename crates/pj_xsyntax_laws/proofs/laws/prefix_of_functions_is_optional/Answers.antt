use Rattle.pj_xsyntax_laws.proofs.Prefixes.{with_prefix, without_prefix, prefix_added, prefix_dropped}
use Rattle.pj_xsyntax_laws.proofs.laws.prefix_of_functions_is_optional.Goals as goal

pub returns-clause-with_prefix : goal.returns-clause-with_prefix
returns-clause-with_prefix c = with_prefix

pub returns-clause-without_prefix : goal.returns-clause-without_prefix
returns-clause-without_prefix c = without_prefix

pub returns-clause-prefix_added : goal.returns-clause-prefix_added
returns-clause-prefix_added c = prefix_added

pub returns-clause-prefix_dropped : goal.returns-clause-prefix_dropped
returns-clause-prefix_dropped c = prefix_dropped
