use Rattle.pj_xlaws.proofs.Facts.{denotes_by_facts, denotes_of_tree}
use Rattle.pj_xlaws.proofs.tree_laws.tree_facts_alone.Goals as goal

pub returns : goal.returns
returns c = record { of_tree = denotes_of_tree; facts = denotes_by_facts }
