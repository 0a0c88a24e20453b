use Rattle.std.proofs.Common.{true, false, List, [], ◌∷◌}
use Rattle.pj_ll.specs.Predictive.{RuleFacts}
use Rattle.rows_xpath.proofs.parser.run.Given as goal

-- a sum, what follows its first operand, and an operand
abbrev pub sums_facts : List RuleFacts
sums_facts =
    record { nullable = false; first = 0 ∷ 2 ∷ 5 ∷ []; follow = 3 ∷ []; ends = true; weight = 2; height = 2 }
    ∷ record { nullable = true; first = 1 ∷ 4 ∷ []; follow = 3 ∷ []; ends = true; weight = 1; height = 1 }
    ∷ record { nullable = false; first = 0 ∷ 2 ∷ 5 ∷ []; follow = 1 ∷ 3 ∷ 4 ∷ []; ends = true; weight = 1; height = 1 }
    ∷ []

abbrev pub ghost-parse : goal.ghost-parse
ghost-parse a = sums_facts
