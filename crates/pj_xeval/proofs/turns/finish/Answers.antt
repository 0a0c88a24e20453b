use Rattle.pj_xeval.proofs.turns.finish.Goals as goal

pub returns-in_ok-nodes-in-Step-clause-of_tree : goal.returns-in_ok-nodes-in-Step-clause-of_tree
returns-in_ok-nodes-in-Step-clause-of_tree c = λ n h. c.in_ok-nodes-in-Step.ensures.of_tree n h
